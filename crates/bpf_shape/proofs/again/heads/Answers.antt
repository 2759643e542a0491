use Rattle.std.proofs.Common.{◌≡◌, length, arith}
use Rattle.bpf_shape.specs.Again.{again_edge, is_head, heads}
use Rattle.bpf_shape.proofs.Ranges.{mark_more, all_marks}
use Rattle.bpf_shape.proofs.again.heads.Goals as goal

pub loop-slot-preserved : goal.loop-slot-preserved
loop-slot-preserved c =
    rw (c.mark.ensures, c.again_edge.ensures)
    (mark_more (again_edge c.args.program.now) (length c.args.program.now) c.loop-slot.slot c.loop-slot.marks.items c.loop-slot.invariant)

pub returns : goal.returns
unfolding heads is_head
returns c =
    let all : c.loop-slot.slot ≡ length c.args.program.now = omega arith in
    all_marks (again_edge c.args.program.now) (length c.args.program.now) c.loop-slot.marks.items (rw all at c.loop-slot.invariant)

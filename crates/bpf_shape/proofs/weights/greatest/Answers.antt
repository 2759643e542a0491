use Rattle.std.proofs.Common.{length, ◌≡◌, rules, max}
use Rattle.bpf_shape.proofs.Budgets.{greater}
use Rattle.bpf_shape.proofs.weights.greatest.Goals as goal

pub loop-slot-preserved : goal.loop-slot-preserved
loop-slot-preserved c =
    let e : c.max-longest.result ≡ max c.loop-slot.longest c.marked_length.result = search rules in
    rw (e, c.marked_length.ensures)
    (greater c.args.lengths.now.items c.args.marks.now.items c.loop-slot.slot c.loop-slot.longest c.loop-slot.invariant)

pub returns : goal.returns
returns c =
    let all : c.loop-slot.slot ≡ length c.args.lengths.now.items = search rules in
    rw all at c.loop-slot.invariant

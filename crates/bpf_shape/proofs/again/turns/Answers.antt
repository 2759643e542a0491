use Rattle.std.proofs.Common.{arith}
use Rattle.bpf_shape.specs.Again.{turns_at}
use Rattle.bpf_shape.proofs.Ranges.{sum_more}
use Rattle.bpf_shape.proofs.again.turns.Goals as goal

pub loop-slot-preserved : goal.loop-slot-preserved
loop-slot-preserved c =
    let more = sum_more (turns_at c.args.program.now) c.loop-slot.slot in
    (omega (arith, more, c.loop-slot.invariant.0, c.turns_at-total.ensures.value), omega (arith, c.loop-slot.invariant.1, c.turns_at-total.ensures.bound))

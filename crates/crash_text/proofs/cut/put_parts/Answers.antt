use Rattle.std.proofs.Common.{arith}
use Rattle.epochs.specs.Parts.{volatile_parts}
use Rattle.crash_text.specs.Cut.{volatile_line, parts_text}
use Rattle.crash_text.proofs.Steps.{part_more, first_of}
use Rattle.crash_text.proofs.cut.put_parts.Goals as goal

pub loop-number-preserved : goal.loop-number-preserved
loop-number-preserved c =
    part_more volatile_line (volatile_parts c.args.plan.now.by c.args.plan.now.log.entries c.args.cut) c.part.result c.loop-number.number _ _ _
    c.part.ensures.value c.loop-number.invariant c.in_ok-put_volatile_part.ensures

pub returns : goal.returns
unfolding parts_text
returns c =
    first_of volatile_line (volatile_parts c.args.plan.now.by c.args.plan.now.log.entries c.args.cut) c.loop-number.number c.shown_parts-parts.result c.volatile.result _ _
    (omega (arith, c.loop-number-test.false, c.loop-number.auto.number-end)) c.volatile.ensures.value c.shown_parts-parts.ensures c.loop-number.invariant

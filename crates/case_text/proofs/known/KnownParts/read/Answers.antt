use Rattle.case_text.proofs.Collecting.{known_next}
use Rattle.case_text.proofs.known.KnownParts.read.Goals as goal

pub loop-number-preserved : goal.loop-number-preserved
loop-number-preserved c =
    known_next c.args.tears c.args.parts.now c.args.sets.now c.loop-number.number _ c.set_at.result c.loop-number.self c.add.new.self c.requires c.loop-number-test.true c.set_at.ensures c.loop-number.invariant
    c.in_ok-add.ensures

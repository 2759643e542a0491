use Rattle.losses.proofs.Words.{ending_read}
use Rattle.losses.proofs.outcomes.reading.outcome_in.Goals as goal

pub returns : goal.returns
returns c = ending_read _ _ _ _ _ c.cut.ensures.parts c.without.ensures c.without-2.ensures

use Rattle.losses.proofs.Words.{outcome_read}
use Rattle.losses.proofs.outcomes.reading.read_outcome.Goals as goal

pub returns : goal.returns
returns c = outcome_read _ _ _ _ _ _ _ _ _ _ c.field.ensures.field c.field-2.ensures.field c.field-3.ensures.field c.cut.ensures.parts c.outcome_in.ensures

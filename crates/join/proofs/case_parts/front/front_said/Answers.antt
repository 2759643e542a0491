use Rattle.join.proofs.CaseWords.{front_read}
use Rattle.join.proofs.case_parts.front.front_said.Goals as goal

pub returns : goal.returns
returns c =
    front_read _ _ _ _ _ _ _ _ _ _ _ _ _ _ _ _ c.field.ensures.field c.field-2.ensures.field c.field-3.ensures.field c.field-4.ensures.field c.field-5.ensures.field c.number.ensures c.number-2.ensures c.number-3.ensures c.number-4.ensures c.number-5.ensures

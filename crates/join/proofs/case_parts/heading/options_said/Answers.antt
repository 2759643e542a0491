use Rattle.std.proofs.Common.{refl}
use Rattle.join.proofs.CaseHeads.{options_read}
use Rattle.join.proofs.case_parts.heading.options_said.Goals as goal

pub returns-clause-read : goal.returns-clause-read
returns-clause-read c = options_read _ _ _ _ _ _ c.device_said-sectors.ensures c.losses_said.ensures c.given_said-given.ensures.read refl refl refl refl refl refl refl refl

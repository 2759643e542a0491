use Rattle.std.proofs.Common.{refl}
use Rattle.join.proofs.HeadsRead.{options_read}
use Rattle.join.proofs.options.options_said.Goals as goal

pub returns-clause-read : goal.returns-clause-read
returns-clause-read c = options_read _ _ _ _ _ c.device_said-sectors.ensures c.choices_said-bound.ensures c.given_said-given.ensures.read refl refl refl refl refl

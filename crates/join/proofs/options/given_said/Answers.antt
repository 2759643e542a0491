use Rattle.join.proofs.HeadsRead.{given_read}
use Rattle.join.proofs.options.given_said.Goals as goal

pub returns-clause-read : goal.returns-clause-read
returns-clause-read c =
    given_read _ _ _ _ _ _ _ c.by_said-by.ensures c.flushes_said.ensures.read c.option_said-from.ensures.read c.option_said-to.ensures.read c.option_said-base.ensures.read

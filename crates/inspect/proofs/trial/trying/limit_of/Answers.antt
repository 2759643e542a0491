use Rattle.inspect.specs.TrialText.{no_count_memory}
use Rattle.inspect.proofs.TrialRefused.{unaccepted}
use Rattle.inspect.proofs.Steps.{not_some}
use Rattle.inspect.proofs.trial.trying.limit_of.Goals as goal

pub returns-clause-refused : goal.returns-clause-refused
returns-clause-refused c =
    rw c.unaccepted_refusal_of.ensures
    (unaccepted c.args.program.now c.args.image.now c.args.asked.now c.sectors_of.result c.in-Err.unaccepted.fault c.sectors_of.ensures.value (not_some c.args.asked.now.checked c.in_default.not-Some)
    c.in-Err.ensures.refused)

pub returns-in-Ok-clause-refused : goal.returns-in-Ok-clause-refused
returns-in-Ok-clause-refused c = rw c.of_memory.ensures no_count_memory

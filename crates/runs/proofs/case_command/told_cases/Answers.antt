use Rattle.runs.proofs.case_command.told_cases.Goals as goal

pub invariant_of-task : goal.invariant_of-task
invariant_of-task g c = record { plan_is = c.requires.plan; device = c.requires.device; judged = c.requires.judged }

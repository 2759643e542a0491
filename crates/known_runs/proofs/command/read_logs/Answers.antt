use Rattle.request.specs.Source.{for_log}
use Rattle.known_runs.specs.Told.{too_long, for_source}
use Rattle.known_runs.proofs.command.read_logs.Goals as goal

pub returns-then-question-gt-MOST_OF_RECORDS-clause-refused : goal.returns-then-question-gt-MOST_OF_RECORDS-clause-refused
returns-then-question-gt-MOST_OF_RECORDS-clause-refused c = too_long c.if-question-gt-MOST_OF_RECORDS.true

pub returns-in-Err-clause-refused : goal.returns-in-Err-clause-refused
returns-in-Err-clause-refused c = for_source _ c.if-question-gt-MOST_OF_RECORDS.false (for_log _ c.in-Err.ensures.refused)

pub returns-clause-refused : goal.returns-clause-refused
returns-clause-refused c = for_source _ c.if-question-gt-MOST_OF_RECORDS.false (for_log _ c.in-Err-recorded.ensures.refused)

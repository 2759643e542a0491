-- What the work on a task is to find, and what is told of it.
use Rattle.std.specs.Prelude.{ℕ, List}
use Rattle.report.specs.Line.{FailingLine}
use Rattle.workers.specs.Failing.{failing_lines}
use Rattle.request.specs.declared.settings.Telling.{Telling}
use Rattle.request.specs.declared.settings.Telling.TheVariants as telling
use Rattle.runs.specs.declared.explore_command.CauseForm.{CauseForm}
use Rattle.runs.specs.declared.explore_command.CauseForm.TheVariants as form
use Rattle.runs.specs.declared.task.Task.{Task}
use Rattle.runs.specs.Explore.{subject_of}
use Rattle.runs.specs.Why.{Tells}

abbrev pub lines_of : Task → List FailingLine
lines_of t = failing_lines (subject_of t.options.now t.log.now t.checkers.now)

-- what is told in that form
abbrev pub telling_in : CauseForm → Telling
telling_in form.Text = telling.Causes
telling_in form.Page = telling.Page

abbrev pub TellsTask : Telling → Task → List ℕ → Type 0
TellsTask telling t bytes = Tells telling t.span.inputs t.options.now t.log.now t.checkers.now bytes

use Rattle.commands.proofs.OneWork.{work_changes_nothing}
use Rattle.commands.proofs.laws.work_changes_nothing.Goals as goal

pub returns : goal.returns
returns c = work_changes_nothing c.one_answer.ensures

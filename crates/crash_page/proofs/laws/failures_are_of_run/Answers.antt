use Rattle.crash_page.proofs.Taken.{failures_are_of_run}
use Rattle.crash_page.proofs.laws.failures_are_of_run.Goals as goal

pub returns : goal.returns
returns c = failures_are_of_run

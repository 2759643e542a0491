use Rattle.inspect.proofs.CutRuns.{are_run}
use Rattle.inspect.proofs.looks.laws.cut_parts_are_run.Goals as goal

pub returns : goal.returns
returns c = are_run

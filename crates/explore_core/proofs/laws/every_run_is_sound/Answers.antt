use Rattle.explore_core.proofs.Sound.{every_run}
use Rattle.explore_core.proofs.laws.every_run_is_sound.Goals as goal

pub returns : goal.returns
returns c = every_run

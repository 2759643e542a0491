use Rattle.losses.proofs.Summed.{each_is_counted_once}
use Rattle.losses.proofs.flushes.laws.each_is_counted_once.Goals as goal

pub returns : goal.returns
returns c = each_is_counted_once

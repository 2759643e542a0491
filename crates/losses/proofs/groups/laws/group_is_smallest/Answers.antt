use Rattle.losses.proofs.Parts.{group_is_smallest}
use Rattle.losses.proofs.groups.laws.group_is_smallest.Goals as goal

pub returns : goal.returns
returns c = group_is_smallest

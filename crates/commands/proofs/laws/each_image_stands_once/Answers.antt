use Rattle.commands.proofs.Once.{each_image_stands_once}
use Rattle.commands.proofs.laws.each_image_stands_once.Goals as goal

pub returns : goal.returns
returns c = each_image_stands_once c.lines_are_set.ensures c.list_is_set.ensures c.each_stands_once.ensures c.all_stand.ensures

use Rattle.command_line.proofs.FlushLists.{cut_is}
use Rattle.command_line.proofs.flush_list.cut.Goals as goal

pub returns : goal.returns
returns c = cut_is c.args.text.now _ c.split_once.ensures.cases

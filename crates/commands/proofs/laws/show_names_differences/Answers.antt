use Rattle.commands.proofs.Differences.{show_names_differences}
use Rattle.commands.proofs.laws.show_names_differences.Goals as goal

pub returns : goal.returns
returns c = show_names_differences c.text_of_one_log.ensures

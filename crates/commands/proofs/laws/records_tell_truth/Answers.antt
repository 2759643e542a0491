use Rattle.commands.proofs.RecordsTrue.{records_tell_truth}
use Rattle.commands.proofs.laws.records_tell_truth.Goals as goal

pub returns : goal.returns
returns c = records_tell_truth c.found_fail.ensures c.complete_has_all.ensures c.last_cuts_have_all.ensures

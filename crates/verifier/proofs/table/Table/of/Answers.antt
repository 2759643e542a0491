use Rattle.verifier.proofs.Tables.{all_states}
use Rattle.verifier.proofs.table.Table.of.Goals as goal

pub invariant_of-result : goal.invariant_of-result
invariant_of-result c = all_states c.args.states.items

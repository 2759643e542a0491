use Rattle.epochs.proofs.Rows.{Filled}
use Rattle.epochs.proofs.table.rows_of.Given as goal

abbrev pub invariant-loop-entry : goal.invariant-loop-entry
invariant-loop-entry l = Filled l.by l.entries l.entry-index l.rows.items l.row

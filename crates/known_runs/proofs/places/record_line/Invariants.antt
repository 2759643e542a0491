use Rattle.known_runs.proofs.Placing.{Counts}
use Rattle.known_runs.proofs.places.record_line.Given as goal

abbrev pub invariant-loop-at : goal.invariant-loop-at
invariant-loop-at l = Counts l.bytes l.place l.at l.before l.line

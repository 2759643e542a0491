use Rattle.std.proofs.Common.{◌≡◌, None, All}
use Rattle.case_runs.proofs.sharing.places_of.Given as goal

abbrev pub invariant-loop-place : goal.invariant-loop-place
invariant-loop-place l = All (λ place. place ≡ None) l.places.items

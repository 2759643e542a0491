use Rattle.std.proofs.Common.{◌≡◌, map}
use Rattle.std.specs.List.{range_with_len}
use Rattle.verifier.specs.Guards.{is_guarded_at}
use Rattle.checker.proofs.checker.guards_of.Given as goal

abbrev pub invariant-loop-slot : goal.invariant-loop-slot
invariant-loop-slot l = l.guards.items ≡ map (is_guarded_at l.verified.program l.verified.table) (range_with_len 0 l.slot)

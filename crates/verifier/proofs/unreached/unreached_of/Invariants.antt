use Rattle.std.proofs.Common.{◌≡◌, ◌≤◌, IfSome, filter}
use Rattle.std.specs.Option.{option_map}
use Rattle.std.specs.List.{range_with_len}
use Rattle.verifier.specs.Reach.{is_unreached, count_and_first}
use Rattle.verifier.proofs.unreached.unreached_of.Given as goal

abbrev pub invariant-loop-slot : goal.invariant-loop-slot
invariant-loop-slot l =
    (option_map (λ u. (u.count, u.first)) l.found ≡ count_and_first (filter (is_unreached l.verified) (range_with_len 0 l.slot))) × IfSome l.found (λ u. u.count ≤ l.slot)

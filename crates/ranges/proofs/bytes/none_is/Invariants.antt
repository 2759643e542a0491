use Rattle.std.proofs.Common.{◌≡◌, ◌+◌, ◌-◌}
use Rattle.ranges.specs.Places.{none_is}
use Rattle.ranges.specs.SeenStates.{state_of}
use Rattle.ranges.proofs.bytes.none_is.Given as goal

abbrev pub invariant-loop-k : goal.invariant-loop-k
invariant-loop-k l = none_is l.mark (state_of l.state).groups (l.at + l.k) (l.n - l.k) ≡ none_is l.mark (state_of l.state).groups l.at l.n

use Rattle.std.proofs.Common.{◌≡◌, drop}
use Rattle.shares.specs.Hands.{some_refused}
use Rattle.shares.proofs.meeting.are_refused.Given as goal

abbrev pub invariant-loop-hand : goal.invariant-loop-hand
invariant-loop-hand g l = some_refused (drop l.hand-index l.hands) ≡ some_refused l.hands

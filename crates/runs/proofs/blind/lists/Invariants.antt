use Rattle.std.proofs.Common.{◌≡◌, drop}
use Rattle.helpers.specs.Footprint.{lists}
use Rattle.runs.proofs.blind.lists.Given as goal

abbrev pub invariant-loop-own : goal.invariant-loop-own
invariant-loop-own l = lists (drop l.own-index l.numbers) l.number ≡ lists l.numbers l.number

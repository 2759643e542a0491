use Rattle.std.proofs.Common.{◌-◌, length}
use Rattle.choices.proofs.Plans.{Walks}
use Rattle.choices.proofs.ranked.place_of.Given as goal

abbrev pub invariant-loop-own : goal.invariant-loop-own
invariant-loop-own l = Walks l.plan l.bound l.tears l.number l.cuts l.place l.rest l.own

abbrev pub decreases-loop-own : goal.decreases-loop-own
decreases-loop-own l = length l.cuts - l.place

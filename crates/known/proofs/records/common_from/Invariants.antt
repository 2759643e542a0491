use Rattle.std.proofs.Common.{◌≡◌, ◌-◌, length, take}
use Rattle.known.proofs.records.common_from.Given as goal

abbrev pub decreases-loop-place : goal.decreases-loop-place
decreases-loop-place l = length l.one - l.place

abbrev pub invariant-loop-place : goal.invariant-loop-place
invariant-loop-place l = take l.from l.one ≡ take l.from l.other → take l.place l.one ≡ take l.place l.other

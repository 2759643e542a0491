use Rattle.std.proofs.Common.{◌≡◌, ◌≤◌, take, length}
use Rattle.choices.specs.Picked.{marked_picks}
use Rattle.workers.proofs.told.are_marked.Given as goal

abbrev pub invariant-loop-place : goal.invariant-loop-place
invariant-loop-place l = (l.seen ≤ l.place) × (l.seen ≤ length l.own) × (marked_picks l.marks (take l.place l.picks) ≡ take l.seen l.own)

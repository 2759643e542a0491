use Rattle.std.proofs.Common.{◌≡◌, take}
use Rattle.choices.specs.Picked.{marked_picks}
use Rattle.choices.proofs.picked.marked.Given as goal

abbrev pub invariant-loop-place : goal.invariant-loop-place
invariant-loop-place l = l.those.items ≡ marked_picks l.marks (take l.place l.picks)

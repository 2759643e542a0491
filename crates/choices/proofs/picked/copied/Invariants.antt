use Rattle.std.proofs.Common.{◌≡◌, take}
use Rattle.choices.proofs.picked.copied.Given as goal

abbrev pub invariant-loop-pick : goal.invariant-loop-pick
invariant-loop-pick l = l.copy.items ≡ take l.pick-index l.picks

use Rattle.std.proofs.Common.{◌≡◌, take}
use Rattle.choices.specs.Numbers.{numbers_of}
use Rattle.choices.proofs.numbers.numbers_of.Given as goal

abbrev pub invariant-loop-pick : goal.invariant-loop-pick
invariant-loop-pick l = l.numbers.items ≡ numbers_of (take l.pick-index l.picks)

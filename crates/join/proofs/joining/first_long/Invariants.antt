use Rattle.std.proofs.Common.{◌≡◌, ◌+◌, ◌^◌, map, take}
use Rattle.join.specs.Joining.{size_of}
use Rattle.join.proofs.joining.first_long.Given as goal

abbrev pub invariant-loop-number : goal.invariant-loop-number
invariant-loop-number l = l.left + size_of (take l.number (map (λ f. f.items) l.files)) ≡ 2 ^ 30

use Rattle.std.proofs.Common.{◌≡◌, ◌++◌, ℕ, Some}
use Rattle.images.specs.Keys.{key_of}
use Rattle.std.specs.List.{filter_map, range_with_len}
use Rattle.workers.specs.Failing.{line_of}
use Rattle.workers.proofs.input.Input.judge_by_key.Given as goal

abbrev pub invariant-loop-number : goal.invariant-loop-number
invariant-loop-number g l =
    (l.lines ≡ l.initial.lines ++ filter_map (line_of l.self l.seen.image) (range_with_len 0 l.number))
    × (l.memory ≡ l.initial.memory) × (p : ℕ) × (key_of l.seen.view.now p ≡ Some l.key)

use Rattle.std.proofs.Common.{◌≡◌, ◌++◌}
use Rattle.std.specs.List.{filter_map, range_with_len}
use Rattle.workers.specs.Failing.{line_of}
use Rattle.workers.proofs.input.Input.judge_by_runs.Given as goal

abbrev pub invariant-loop-number : goal.invariant-loop-number
invariant-loop-number l =
    (l.lines ≡ l.initial.lines ++ filter_map (line_of l.self l.seen.image) (range_with_len 0 l.number)) × (l.memory ≡ l.initial.memory)

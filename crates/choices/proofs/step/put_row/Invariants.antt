use Rattle.std.proofs.Common.{◌≡◌, ◌≤◌, ◌+◌, ◌-◌, ◌++◌, length}
use Rattle.choices.specs.Steps.{first_picks}
use Rattle.choices.proofs.step.put_row.Given as goal

abbrev pub invariant-loop-index : goal.invariant-loop-index
invariant-loop-index l =
    (l.picks.items ≡ l.initial.picks.items ++ first_picks l.index l.first)
    × (length l.picks.items + (l.count - l.index) ≤ 3)

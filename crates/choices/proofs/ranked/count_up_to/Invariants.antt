use Rattle.std.proofs.Common.{◌≡◌, ◌≤◌, length}
use Rattle.choices.specs.Choices.{ranked_before}
use Rattle.choices.proofs.ranked.count_up_to.Given as goal

abbrev pub invariant-loop-cut : goal.invariant-loop-cut
invariant-loop-cut l = (l.sum ≡ length (ranked_before l.plan l.bound l.tears l.cut-index)) × (l.sum ≤ l.most)

use Rattle.std.proofs.Common.{◌≡◌, length}
use Rattle.choices.specs.Choices.{ranked_before}
use Rattle.choices.specs.Sums.{AreSumsUpTo}
use Rattle.choices.proofs.starts.sums_of.Given as goal

abbrev pub invariant-loop-cut : goal.invariant-loop-cut
invariant-loop-cut l = (l.sum ≡ length (ranked_before l.plan l.bound l.tears l.cut-index)) × AreSumsUpTo l.plan l.bound l.tears l.cut-index l.sums.items

use Rattle.std.proofs.Common.{◌≡◌, take}
use Rattle.case_text.specs.Text.{all_found}
use Rattle.case_text.proofs.Counting.{sums_of}
use Rattle.case_text.proofs.totals.totals_of.Given as goal

abbrev pub invariant-loop-cut : goal.invariant-loop-cut
invariant-loop-cut l = l.all ≡ sums_of (all_found (take l.cut-index l.found))

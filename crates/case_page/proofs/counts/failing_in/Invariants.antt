use Rattle.std.proofs.Common.{◌≡◌, take}
use Rattle.case_page.specs.Counts.{failing_in}
use Rattle.case_page.proofs.counts.failing_in.Given as goal

abbrev pub invariant-loop-cut : goal.invariant-loop-cut
invariant-loop-cut l = l.sum ≡ failing_in (take l.cut-index l.cuts)

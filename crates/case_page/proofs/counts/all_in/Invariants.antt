use Rattle.std.proofs.Common.{◌≡◌, take}
use Rattle.case_page.specs.Counts.{all_in}
use Rattle.case_page.proofs.counts.all_in.Given as goal

abbrev pub invariant-loop-cut : goal.invariant-loop-cut
invariant-loop-cut l = l.sum ≡ all_in (take l.cut-index l.cuts)

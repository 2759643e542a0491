use Rattle.std.proofs.Common.{◌≡◌, map, take}
use Rattle.case_page.specs.Counts.{case_count}
use Rattle.case_page.proofs.counts.case_counts.Given as goal

abbrev pub invariant-loop-cut : goal.invariant-loop-cut
invariant-loop-cut l = l.counts.items ≡ map (case_count l.program) (take l.cut-index l.found)

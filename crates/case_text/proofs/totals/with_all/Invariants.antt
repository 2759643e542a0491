use Rattle.std.proofs.Common.{◌≡◌, take}
use Rattle.case_text.specs.Counts.{with_all}
use Rattle.case_text.proofs.totals.with_all.Given as goal

abbrev pub invariant-loop-one : goal.invariant-loop-one
invariant-loop-one l = l.all ≡ with_all l.fn.totals (take l.one-index l.found)

use Rattle.std.proofs.Common.{◌≡◌, map, take}
use Rattle.case_text.specs.Collected.{told_value}
use Rattle.case_text.specs.Why.{all_told}
use Rattle.case_text.proofs.told.all_told.Given as goal

abbrev pub invariant-loop-case : goal.invariant-loop-case
invariant-loop-case l = map told_value l.told.items ≡ all_told l.fn.site.at l.fn.site.tears (take l.case-index l.failing)

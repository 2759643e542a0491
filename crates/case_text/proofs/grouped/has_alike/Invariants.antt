use Rattle.std.proofs.Common.{◌≡◌, ◌≤◌, false, drop, length}
use Rattle.std.specs.List.{list_any}
use Rattle.case_text.specs.Collected.{alike_told}
use Rattle.case_text.proofs.grouped.has_alike.Given as goal

abbrev pub invariant-loop-left : goal.invariant-loop-left
invariant-loop-left l = (list_any (alike_told l.fn.one) (drop l.left l.told) ≡ false) × (l.left ≤ length l.told)

abbrev pub decreases-loop-left : goal.decreases-loop-left
decreases-loop-left l = l.left

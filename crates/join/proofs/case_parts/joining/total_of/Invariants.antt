use Rattle.std.proofs.Common.{◌≡◌, ◌*◌, ◌≤◌, take}
use Rattle.join.specs.CaseJoining.{all_totals}
use Rattle.join.proofs.case_parts.joining.total_of.Given as goal

abbrev pub invariant-loop-part : goal.invariant-loop-part
invariant-loop-part l =
    (l.totals ≡ all_totals (take l.part-index l.parts)) × (l.totals.cuts ≤ l.part-index * 65537) × (l.totals.cases ≤ l.part-index * 16777216) × (l.totals.failing ≤ l.part-index * 16777216)

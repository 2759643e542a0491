use Rattle.std.proofs.Common.{◌≡◌, ◌++◌, length, drop, string_bytes}
use Rattle.cases.specs.AtCut.{case_of}
use Rattle.case_page.specs.CaseRows.{parts_from, all_parts}
use Rattle.case_page.proofs.parts.put_parts.Given as goal

abbrev pub invariant-loop-number : goal.invariant-loop-number
invariant-loop-number l =
    string_bytes l.out ++ parts_from l.row (case_of l.row.tears l.parts l.sets) (length l.parts) l.room (drop l.number l.parts)
    ≡ string_bytes l.initial.out ++ all_parts l.row (case_of l.row.tears l.parts l.sets) l.parts

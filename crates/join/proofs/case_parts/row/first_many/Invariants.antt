use Rattle.std.proofs.Common.{◌≡◌, ◌≤◌, take}
use Rattle.losses.specs.FoundCases.{most_cases}
use Rattle.join.specs.CaseJoining.{all_cases}
use Rattle.join.proofs.case_parts.row.first_many.Given as goal

abbrev pub invariant-loop-part : goal.invariant-loop-part
invariant-loop-part l = (l.cases ≡ all_cases (take l.part-index l.parts)) × (l.cases ≤ most_cases)

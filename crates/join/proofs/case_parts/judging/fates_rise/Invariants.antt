use Rattle.join.proofs.CaseJudged.{FatesFrom}
use Rattle.join.proofs.case_parts.judging.fates_rise.Given as goal

abbrev pub invariant-loop-fate : goal.invariant-loop-fate
invariant-loop-fate l = FatesFrom l.fates l.last l.fate-index

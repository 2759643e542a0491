use Rattle.join.proofs.CaseJudged.{RiseFrom}
use Rattle.join.proofs.case_parts.judging.parts_rise.Given as goal

abbrev pub invariant-loop-part : goal.invariant-loop-part
invariant-loop-part l = RiseFrom l.parts l.last l.part-index

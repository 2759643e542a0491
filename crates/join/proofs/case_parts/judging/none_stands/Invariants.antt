use Rattle.join.proofs.CaseWalked.{NoneUpTo}
use Rattle.join.proofs.case_parts.judging.none_stands.Given as goal

abbrev pub invariant-loop-part : goal.invariant-loop-part
invariant-loop-part l = NoneUpTo l.parts l.kept l.left l.part-index

use Rattle.std.proofs.Common.{map}
use Rattle.join.specs.CaseReading.{mixed_value}
use Rattle.join.proofs.CaseWalked.{BeginUpTo}
use Rattle.join.proofs.case_parts.judging.all_begin.Given as goal

abbrev pub invariant-loop-one : goal.invariant-loop-one
invariant-loop-one l = BeginUpTo l.lost l.left (map mixed_value l.mixed) l.one-index

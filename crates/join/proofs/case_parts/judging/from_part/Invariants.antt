use Rattle.std.proofs.Common.{◌≡◌, length}
use Rattle.join.specs.declared.case_parts.names.PartName.{PartName}
use Rattle.join.specs.CaseWalks.{from_part}
use Rattle.join.proofs.case_parts.judging.from_part.Given as goal

abbrev pub invariant-loop-first : goal.invariant-loop-first
invariant-loop-first l = from_part (λ (p : PartName). p) l.part l.parts ≡ from_part (λ (p : PartName). p) l.part l.left

abbrev pub decreases-loop-first : goal.decreases-loop-first
decreases-loop-first l = length l.left

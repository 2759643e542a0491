use Rattle.std.proofs.Common.{◌≡◌, length}
use Rattle.join.specs.CaseTexts.{part_of}
use Rattle.join.specs.CaseWalks.{from_part}
use Rattle.join.proofs.case_parts.judging.from_lost.Given as goal

abbrev pub invariant-loop-first : goal.invariant-loop-first
invariant-loop-first l = from_part part_of l.part l.lost ≡ from_part part_of l.part l.left

abbrev pub decreases-loop-first : goal.decreases-loop-first
decreases-loop-first l = length l.left

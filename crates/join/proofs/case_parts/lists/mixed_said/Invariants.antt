use denote.Shadow.{shadow}
use denote.Text.{Utf8}
use Rattle.std.proofs.Common.{length, map}
use Rattle.join.specs.CaseTexts.{mixed_text}
use Rattle.join.specs.CaseReading.{HasReadSome, IsMixedPart, mixed_value}
use Rattle.join.proofs.case_parts.lists.mixed_said.Given as goal

abbrev pub invariant-loop-word : goal.invariant-loop-word
invariant-loop-word l = HasReadSome 44 (IsMixedPart l.by) (mixed_text l.by) l.fn.text (map mixed_value l.found.items) l.rest × shadow (Utf8 l.rest)

abbrev pub decreases-loop-word : goal.decreases-loop-word
decreases-loop-word l = length l.rest

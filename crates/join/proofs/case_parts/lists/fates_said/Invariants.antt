use denote.Shadow.{shadow}
use denote.Text.{Utf8}
use Rattle.std.proofs.Common.{length}
use Rattle.case_text.specs.Text.{fate_word}
use Rattle.join.specs.CaseReading.{HasReadSome, IsPossible}
use Rattle.join.proofs.case_parts.lists.fates_said.Given as goal

abbrev pub invariant-loop-word : goal.invariant-loop-word
invariant-loop-word l = HasReadSome 43 IsPossible fate_word l.text l.fates.items l.rest × shadow (Utf8 l.rest)

abbrev pub decreases-loop-word : goal.decreases-loop-word
decreases-loop-word l = length l.rest

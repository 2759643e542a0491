use denote.Shadow.{shadow}
use denote.Text.{Utf8}
use Rattle.std.proofs.Common.{length}
use Rattle.report.specs.ChoiceText.{IsName, name_text}
use Rattle.join.specs.CaseReading.{HasReadSome}
use Rattle.join.proofs.case_parts.lists.names_said.Given as goal

abbrev pub invariant-loop-word : goal.invariant-loop-word
invariant-loop-word l = HasReadSome 44 (IsName l.by) (name_text l.by) l.fn.text l.names.items l.rest × shadow (Utf8 l.rest)

abbrev pub decreases-loop-word : goal.decreases-loop-word
decreases-loop-word l = length l.rest

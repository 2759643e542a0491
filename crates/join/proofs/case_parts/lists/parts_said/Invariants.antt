use denote.Shadow.{shadow}
use denote.Text.{Utf8}
use Rattle.std.proofs.Common.{length}
use Rattle.join.specs.CaseReading.{HasReadSome, IsPartName}
use Rattle.join.proofs.CaseLists.{name_of_part}
use Rattle.join.proofs.case_parts.lists.parts_said.Given as goal

abbrev pub invariant-loop-word : goal.invariant-loop-word
invariant-loop-word l = HasReadSome 44 (IsPartName l.by) (name_of_part l.by) l.fn.text l.found.items l.rest × shadow (Utf8 l.rest)

abbrev pub decreases-loop-word : goal.decreases-loop-word
decreases-loop-word l = length l.rest

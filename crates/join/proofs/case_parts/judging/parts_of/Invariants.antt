use Rattle.std.proofs.Common.{◌≡◌, take}
use Rattle.join.specs.CaseTexts.{parts_of}
use Rattle.join.proofs.case_parts.judging.parts_of.Given as goal

abbrev pub invariant-loop-name : goal.invariant-loop-name
invariant-loop-name l = l.parts.items ≡ parts_of (take l.name-index l.lost)

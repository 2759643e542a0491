use Rattle.std.proofs.Common.{◌≡◌, take}
use Rattle.case_text.specs.Causes.{parts_at}
use Rattle.case_text.proofs.causes.parts_at.Given as goal

abbrev pub invariant-loop-part : goal.invariant-loop-part
invariant-loop-part l = l.found.items ≡ parts_at l.entry (take l.part-index l.parts)

use Rattle.std.proofs.Common.{◌≡◌, take}
use Rattle.case_text.specs.Causes.{parts_from}
use Rattle.case_text.proofs.causes.parts_from.Given as goal

abbrev pub invariant-loop-part : goal.invariant-loop-part
invariant-loop-part l = l.found.items ≡ parts_from l.start (take l.part-index l.parts)

use Rattle.std.proofs.Common.{◌≡◌, take}
use Rattle.runs.specs.Marked.{images_marked}
use Rattle.runs.proofs.causes.images_of_program.Given as goal

abbrev pub invariant-loop-mark : goal.invariant-loop-mark
invariant-loop-mark l = l.images.items ≡ images_marked (take l.mark-index l.marks) l.program

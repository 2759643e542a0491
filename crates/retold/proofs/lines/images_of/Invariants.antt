use Rattle.std.proofs.Common.{◌≡◌, take, map}
use Rattle.join.specs.Given.{line_told}
use Rattle.retold.specs.Told.{images_told_of}
use Rattle.retold.proofs.lines.images_of.Given as goal

abbrev pub invariant-loop-line : goal.invariant-loop-line
invariant-loop-line l = l.images.items ≡ images_told_of l.program (map line_told (take l.line-index l.lines))

use Rattle.std.proofs.Common.{◌≡◌, take, map}
use Rattle.join.specs.Given.{line_told, marks_told}
use Rattle.retold.proofs.lines.marks_of.Given as goal

abbrev pub invariant-loop-line : goal.invariant-loop-line
invariant-loop-line l = l.marks.items ≡ marks_told (map line_told (take l.line-index l.lines))

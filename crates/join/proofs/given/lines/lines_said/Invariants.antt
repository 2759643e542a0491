use denote.Shadow.{shadow}
use denote.Text.{Utf8}
use Rattle.std.proofs.Common.{length, map}
use Rattle.join.specs.Given.{line_told}
use Rattle.join.specs.GivenReading.{AreToldRead}
use Rattle.join.proofs.given.lines.lines_said.Given as goal

abbrev pub invariant-loop-lines : goal.invariant-loop-lines
invariant-loop-lines l = AreToldRead l.outside l.programs l.run.starts.now l.span l.text (map line_told l.lines.items) l.tally l.rest × shadow (Utf8 l.rest)

abbrev pub decreases-loop-lines : goal.decreases-loop-lines
decreases-loop-lines l = length l.rest

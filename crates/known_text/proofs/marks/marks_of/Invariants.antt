use Rattle.known_text.specs.Reading.{AreCounted}
use Rattle.known_text.proofs.marks.marks_of.Given as goal

abbrev pub invariant-loop-entry : goal.invariant-loop-entry
invariant-loop-entry l = AreCounted l.entries l.entry-index l.count l.marks.items

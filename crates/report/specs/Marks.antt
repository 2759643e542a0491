-- Marks of lines: of which image and which program each is.
use Rattle.std.specs.Prelude.{List, map}
use Rattle.report.specs.declared.lines.marks.LineMark.{LineMark}
use Rattle.report.specs.Line.{FailingLine}

abbrev pub mark_of : FailingLine → LineMark
mark_of l = record { image = l.image; program = l.program }

abbrev pub marks_of : List FailingLine → List LineMark
marks_of ls = map mark_of ls

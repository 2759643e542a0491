-- What a line of the code says.
use Rattle.std.specs.Prelude.{List, map}
use Rattle.std.specs.declared.snapshot.Snapshot.{Snapshot}
use Rattle.interp.specs.Ending.{ending_of}
use Rattle.report.specs.declared.lines.line.Line.{Line}
use Rattle.report.specs.Line.{FailingLine}

abbrev pub line_value : Line → FailingLine
line_value l = record { image = l.image; cut = l.cut; program = l.program; ending = ending_of l.outcome; by = l.by; departures = l.departures.items }

-- what the lines said that are remembered
abbrev pub said_by : List (Snapshot Line) → List FailingLine
said_by lines = map (λ (s : Snapshot Line). line_value s.value) lines

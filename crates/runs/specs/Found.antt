-- What a run finds of all failing lines: all of them; or, where the first failing image alone is asked for, its lines and
-- perhaps some after them.
use Rattle.std.specs.Prelude.{◌≡◌, Bool, false, List}
use Rattle.report.specs.Line.{FailingLine, first_lines}

pub record AreFound (first : Bool) (all lines : List FailingLine) : Type 0 where
  pub whole : first ≡ false → lines ≡ all
  pub firsts : first_lines lines ≡ first_lines all

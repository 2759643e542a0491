use Rattle.report.proofs.Lined.{line_read}
use Rattle.report.proofs.lines.reading.read_mark.Goals as goal

pub returns-clause-line : goal.returns-clause-line
returns-clause-line c =
    line_read _ _ _ _ _ _ _ _ _ _ _ c.field.ensures.field c.field-2.ensures.field c.field-3.ensures.field c.cut.ensures.parts c.number.ensures c.byte_number.ensures

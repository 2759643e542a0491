use Rattle.join.specs.Given.{line_told}
use Rattle.join.specs.GivenReading.{IsToldBody}
use Rattle.join.proofs.ToldLines.{body_is_told}
use Rattle.join.proofs.given.lines.line_said.Goals as goal

pub returns-in-Some-2-clause-line : goal.returns-in-Some-2-clause-line
returns-in-Some-2-clause-line c =
    let body : IsToldBody c.args.outside c.args.programs c.args.run.now.starts.now c.in-Some.line.now (line_told c.in-Some-2.told) = rw c.in-Some-2.is at c.in_ok-told.ensures in
    body_is_told c.args.outside c.args.programs c.args.run.now.starts.now c.args.text.now c.in-Some.line.now c.in-Some.more.now (line_told c.in-Some-2.told) c.in-Some.ensures body

use Rattle.join.specs.CaseReading.{IsCaseBody, NoCaseBody}
use Rattle.join.proofs.Bodies.{line_shorter}
use Rattle.join.proofs.CaseLines.{no_newline_no_case, no_body_no_case, body_is_case}
use Rattle.join.proofs.case_parts.line.read_line.Goals as goal

pub returns-in_default-clause-line : goal.returns-in_default-clause-line
returns-in_default-clause-line c = no_newline_no_case c.args.head.now c.args.text.now c.in_default.ensures

pub returns-in-Some-2-clause-line : goal.returns-in-Some-2-clause-line
returns-in-Some-2-clause-line c =
    let body : IsCaseBody c.args.head.now c.in-Some.line.now c.in-Some-2.front = rw c.in-Some-2.is at c.in_ok-front.ensures in
    body_is_case c.args.head.now c.args.text.now c.in-Some.line.now c.in-Some.more.now c.in-Some-2.front c.requires c.in-Some.ensures body

pub returns-in-Some-2-clause-shorter : goal.returns-in-Some-2-clause-shorter
returns-in-Some-2-clause-shorter c = line_shorter c.args.text.now c.in-Some.line.now c.in-Some.more.now c.in-Some.ensures

pub returns-in-None-clause-line : goal.returns-in-None-clause-line
returns-in-None-clause-line c =
    let none : NoCaseBody c.args.head.now c.in-Some.line.now = rw c.in-None.is at c.in_ok-front.ensures in
    no_body_no_case c.args.head.now c.args.text.now c.in-Some.line.now c.in-Some.more.now c.requires c.in-Some.ensures none

use Rattle.known_text.specs.Records.{NoRan, IsRanOnly, ran_of}
use Rattle.known_text.proofs.Pieced.{ran_cut_off, ran_no_text, ran_other, at_none}
use Rattle.known_text.proofs.text.record_at.Goals as goal

pub returns-in_default-clause-refused : goal.returns-in_default-clause-refused
returns-in_default-clause-refused c = ran_cut_off c.args.log.now c.args.way c.args.bytes.now c.args.line c.unread.result c.in_default.ensures c.unread.ensures

pub returns-in_default-from_utf8-clause-refused : goal.returns-in_default-from_utf8-clause-refused
returns-in_default-from_utf8-clause-refused c =
    ran_no_text c.args.log.now c.args.way c.args.bytes.now c.in-Some.said.now c.in-Some.rest.now c.args.line c.unread-in_default-from_utf8.result c.in-Some.ensures
    c.in_default-from_utf8.ensures.cases.0 c.unread-in_default-from_utf8.ensures

pub returns-in-Ok-None-clause-refused : goal.returns-in-Ok-None-clause-refused
returns-in-Ok-None-clause-refused c =
    ran_other c.args.log.now c.args.way c.args.bytes.now c.in-Some.said.now c.in-Some.rest.now c.in-Ok.text.now c.args.line c.unread-in-Ok-None.result c.in-Some.ensures c.in-Ok.ensures.cases.0
    (at_none c.in-Ok-None.field-0 (NoRan c.args.log.now c.args.way c.in-Ok.text.now) (λ x. IsRanOnly c.args.log.now c.args.way c.in-Ok.text.now (ran_of x)) c.in-Ok-None.field-0-is c.in-Ok-None.ensures)
    c.unread-in-Ok-None.ensures

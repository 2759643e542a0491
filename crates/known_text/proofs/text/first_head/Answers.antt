use Rattle.known_text.specs.Pieces.{head_said}
use Rattle.known_text.proofs.Headed.{first_there, first_rest_other, first_inputs_other}
use Rattle.known_text.proofs.text.first_head.Goals as goal

pub returns-in-Ok-first_program-clause-head : goal.returns-in-Ok-first_program-clause-head
returns-in-Ok-first_program-clause-head c =
    first_there c.args.inputs c.args.digits.now (head_said c.in-Ok-first_program.found.0) c.args.bytes.now c.in-Some.after.now c.in-Ok.rest.now c.in-Ok-first_program.found.1.now c.requires.digits
    c.in-Some.ensures c.in-Ok.ensures.rest c.in-Ok-first_program.ensures.head

pub returns-in-Err-first_program-clause-refused : goal.returns-in-Err-first_program-clause-refused
returns-in-Err-first_program-clause-refused c =
    first_rest_other c.args.inputs c.args.digits.now c.args.bytes.now c.in-Some.after.now c.in-Ok.rest.now c.in-Err-first_program.fault c.requires.digits c.in-Some.ensures c.in-Ok.ensures.rest
    c.in-Err-first_program.ensures.refused

pub returns-in-Err-clause-refused : goal.returns-in-Err-clause-refused
returns-in-Err-clause-refused c =
    first_inputs_other c.args.inputs c.args.digits.now c.args.bytes.now c.in-Some.after.now c.in-Err.fault c.requires.digits c.in-Some.ensures c.in-Err.ensures.refused

use Rattle.known_text.specs.Pieces.{head_said}
use Rattle.known_text.proofs.Headed.{rest_other, inputs_other}
use Rattle.known_text.proofs.text.beyond_head.Goals as goal

pub returns-in-Err-beyond_program-clause-refused : goal.returns-in-Err-beyond_program-clause-refused
returns-in-Err-beyond_program-clause-refused c =
    rest_other c.args.inputs c.args.digits.now (head_said c.args.head.now) c.args.bytes.now c.in-Ok.rest.now c.args.line c.in-Err-beyond_program.fault c.requires.digits c.in-Ok.ensures.rest
    c.in-Err-beyond_program.ensures.refused

pub returns-in-Err-clause-refused : goal.returns-in-Err-clause-refused
returns-in-Err-clause-refused c =
    inputs_other c.args.inputs c.args.digits.now (head_said c.args.head.now) c.args.bytes.now c.args.line c.in-Err.fault c.requires.digits c.in-Err.ensures.refused

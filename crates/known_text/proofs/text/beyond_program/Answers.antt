use Rattle.known_text.specs.Pieces.{head_said}
use Rattle.known_text.proofs.Headed.{sum_other, program_other}
use Rattle.known_text.proofs.text.beyond_program.Goals as goal

pub returns-in-Err-own_word-clause-refused : goal.returns-in-Err-own_word-clause-refused
returns-in-Err-own_word-clause-refused c =
    sum_other (head_said c.args.head.now) c.args.bytes.now c.in-Ok.rest.now c.args.line c.in-Err-own_word.fault c.in-Ok.ensures.rest c.in-Err-own_word.ensures.refused

pub returns-in-Err-clause-refused : goal.returns-in-Err-clause-refused
returns-in-Err-clause-refused c = program_other (head_said c.args.head.now) c.args.bytes.now c.args.line c.in-Err.fault c.in-Err.ensures.refused

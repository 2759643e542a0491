use Rattle.known_text.proofs.Headed.{any_sum_other}
use Rattle.known_text.proofs.text.first_program.Goals as goal

pub returns-in-Err-any_word-clause-refused : goal.returns-in-Err-any_word-clause-refused
returns-in-Err-any_word-clause-refused c =
    any_sum_other c.args.bytes.now c.in-Ok.words.now c.in-Ok.rest.now c.in-Err-any_word.fault c.in-Ok.ensures.word c.in-Err-any_word.ensures.refused

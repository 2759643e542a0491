use Rattle.join.proofs.ProgramsRead.{guards_read, program_read}
use Rattle.join.proofs.programs.program_said.Goals as goal

pub returns-clause-read : goal.returns-clause-read
returns-clause-read c =
    program_read _ _ _ _ _ _ _ _ _ _ _ _ _ _ _ c.next_word.ensures c.next_word-2.ensures c.next_word-3.ensures c.next_word-4.ensures c.next_word-5.ensures
    (guards_read _ _ _ _ c.option_said.ensures.read c.few.ensures.same) c.small_number.ensures c.number.ensures c.is_budget.ensures

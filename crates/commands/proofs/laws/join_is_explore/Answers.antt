use Rattle.commands.proofs.Printed.{join_is_explore}
use Rattle.commands.proofs.laws.join_is_explore.Goals as goal

pub returns : goal.returns
returns c =
    join_is_explore (record {
      texts = c.text_of_one_log.ensures;
      programs = c.one_program.ensures;
      verdicts = c.one_verdict.ensures;
    })

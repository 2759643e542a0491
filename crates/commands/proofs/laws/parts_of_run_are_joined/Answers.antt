use Rattle.commands.proofs.PartsJoined.{parts_of_run_are_joined}
use Rattle.commands.proofs.laws.parts_of_run_are_joined.Goals as goal

pub returns : goal.returns
returns c =
    parts_of_run_are_joined (record {
      texts = c.text_of_one_log.ensures;
      programs = c.one_program.ensures;
      verdicts = c.one_verdict.ensures;
    })

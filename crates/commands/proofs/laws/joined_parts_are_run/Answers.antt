use Rattle.commands.proofs.PartsJoined.{joined_parts_are_run}
use Rattle.commands.proofs.laws.joined_parts_are_run.Goals as goal

pub returns : goal.returns
returns c =
    joined_parts_are_run (record {
      texts = c.text_of_one_log.ensures;
      programs = c.one_program.ensures;
      verdicts = c.one_verdict.ensures;
    })

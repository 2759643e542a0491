use Rattle.commands.proofs.CaseJoined.{ranges_of_run_are_joined}
use Rattle.commands.proofs.laws.ranges_of_run_are_joined.Goals as goal

pub returns : goal.returns
returns c =
    ranges_of_run_are_joined (record {
      texts = c.text_of_one_log.ensures;
      programs = c.one_program.ensures;
      verdicts = c.one_verdict.ensures;
    })

use Rattle.commands.proofs.CaseJoined.{join_is_explore_of_cases}
use Rattle.commands.proofs.laws.join_is_explore_of_cases.Goals as goal

pub returns : goal.returns
returns c =
    join_is_explore_of_cases (record {
      texts = c.text_of_one_log.ensures;
      programs = c.one_program.ensures;
      verdicts = c.one_verdict.ensures;
    })

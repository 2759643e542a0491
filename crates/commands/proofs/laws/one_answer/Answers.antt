use Rattle.commands.proofs.OneAnswer.{one_answer}
use Rattle.commands.proofs.laws.one_answer.Goals as goal

pub returns : goal.returns
returns c =
    one_answer (record {
      texts = c.text_of_one_log.ensures;
      programs = c.one_program.ensures;
      verdicts = c.one_verdict.ensures;
      sources = c.one_program-2.ensures;
      findings = c.finding_is_one.ensures;
      first = c.first_is_one.ensures;
      known = c.found_is_one.ensures;
    })

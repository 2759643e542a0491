use Rattle.commands.proofs.OneRefusal.{answer_or_refusal}
use Rattle.commands.proofs.laws.answer_or_refusal.Goals as goal

pub returns : goal.returns
returns c =
    answer_or_refusal (record {
      texts = c.text_of_one_log.ensures;
      clean = c.text_has_no_fault.ensures;
      programs = c.one_program.ensures;
      spelled = c.no_fault_in_spelled.ensures;
      verdicts = c.one_verdict.ensures;
    }) (record { findings = c.finding_is_one.ensures; first = c.first_is_one.ensures }) c.found_is_one.ensures

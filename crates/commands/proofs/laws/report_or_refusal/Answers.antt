use Rattle.std.proofs.Common.{◌≡◌}
use Rattle.request.specs.declared.settings.Telling.TheVariants as telling
use Rattle.runs.specs.declared.explore_command.WantedAnswer.TheVariants as wanted
use Rattle.runs.specs.Explore.{report_of}
use Rattle.request.specs.Inputs.{inputs_number}
use Rattle.commands.proofs.OneReport.{told_apart, told_uncured, wanted_or_refusal}
use Rattle.commands.proofs.laws.report_or_refusal.Goals as goal

pub returns : goal.returns
returns c text files =
    wanted_or_refusal (record {
      texts = c.text_of_one_log.ensures;
      clean = c.text_has_no_fault.ensures;
      programs = c.one_program.ensures;
      spelled = c.no_fault_in_spelled.ensures;
      verdicts = c.one_verdict.ensures;
    }) (wanted.Told telling.Report) (λ s value checkers bytes. bytes ≡ report_of (inputs_number text.text files) s value checkers) (λ l is. told_apart telling.Report l is)
    (λ l is. told_uncured telling.Report l is) text files

use Rattle.std.proofs.Common.{map}
use Rattle.runs.proofs.Reports.{report_of_run}
use Rattle.runs.proofs.explore_command.explore_with.Goals as goal

pub returns-in-Ok-clause-report : goal.returns-in-Ok-clause-report
returns-in-Ok-clause-report g c =
    report_of_run c.args.recording.now (map (λ f. f.items) c.args.programs.now) c.args.options.now _ _ c.in-Ok.ensures.told

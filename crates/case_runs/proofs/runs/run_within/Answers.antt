use Rattle.std.proofs.Common.{refl}
use Rattle.case_runs.proofs.Running.{runs_kept}
use Rattle.case_runs.proofs.runs.run_within.Goals as goal

pub returns-in_ok-extend_from_slice-in-Some-clause-found : goal.returns-in_ok-extend_from_slice-in-Some-clause-found
returns-in_ok-extend_from_slice-in-Some-clause-found g c =
    runs_kept g.row.ROOM c.args.checker.now c.args.context.now c.args.image.now _ _ _ _ c.in-Some.sectors.now c.requires.room c.judge_noted-outcome.ensures.ends c.judge_noted-outcome.ensures.reads
    c.in-Some.ensures refl c.clear.ensures.items c.in_ok-extend_from_slice-in-Some.ensures.items

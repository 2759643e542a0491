use Rattle.std.proofs.Common.{◌≡◌}
use Rattle.case_runs.specs.Judges.{program_of}
use Rattle.case_runs.proofs.Seeking.{PassedSo}
use Rattle.case_runs.proofs.walk.run_to_failing.Given as goal

abbrev pub invariant-loop-count : goal.invariant-loop-count
invariant-loop-count g l =
    (program_of l.judge.checker l.judge.context ≡ program_of l.initial.judge.checker l.initial.judge.context)
    × PassedSo (program_of l.initial.judge.checker l.initial.judge.context) l.initial.search l.search l.judge.leaves l.count

use Rattle.std.proofs.Common.{◌≡◌}
use Rattle.known.specs.Records.{program_of}
use Rattle.known.proofs.Going.{GoneSo}
use Rattle.known.proofs.walk.go_on.Given as goal

abbrev pub invariant-loop-count : goal.invariant-loop-count
invariant-loop-count l =
    (program_of l.judge.records l.judge.marks ≡ program_of l.initial.judge.records l.initial.judge.marks)
    × GoneSo (program_of l.initial.judge.records l.initial.judge.marks) l.stops l.initial.search l.search l.judge.leaves l.count

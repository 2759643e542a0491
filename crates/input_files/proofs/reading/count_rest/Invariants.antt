use Rattle.std.proofs.Common.{◌+◌, ◌≤◌}
use Rattle.input_files.proofs.Counting.{Passed}
use Rattle.input_files.proofs.reading.count_rest.Given as goal

abbrev pub invariant-loop-turn : goal.invariant-loop-turn
invariant-loop-turn g l = (l.counted ≤ l.most + 65536) × Passed (g.F.Read.remaining l.initial.file) (g.F.Read.remaining l.file) l.counted

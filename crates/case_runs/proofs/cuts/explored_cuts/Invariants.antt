use Rattle.std.proofs.Common.{◌≡◌, filter}
use Rattle.std.specs.List.{range_with_len}
use Rattle.case_runs.specs.Cuts.{is_explored}
use Rattle.case_runs.proofs.cuts.explored_cuts.Given as goal

abbrev pub invariant-loop-place : goal.invariant-loop-place
invariant-loop-place l = l.out.items ≡ filter (is_explored l.entries l.fn.to) (range_with_len l.fn.from l.place)

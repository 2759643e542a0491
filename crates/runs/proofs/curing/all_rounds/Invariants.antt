use Rattle.std.proofs.Common.{string_bytes}
use Rattle.losses.specs.FailureWindows.{calm_entries}
use Rattle.runs.proofs.Leading.{Trying}
use Rattle.runs.proofs.curing.all_rounds.Given as goal

abbrev pub invariant-loop-alloc : goal.invariant-loop-alloc
invariant-loop-alloc g l =
    Trying l.judges.losses l.judges.options.now l.judges.checkers.now l.fn.first.log (string_bytes l.initial.out) l.round l.log l.found.failures.items (string_bytes l.found.last) l.windows.items
    (string_bytes l.out)

abbrev pub decreases-loop-alloc : goal.decreases-loop-alloc
decreases-loop-alloc g l = calm_entries l.log.entries

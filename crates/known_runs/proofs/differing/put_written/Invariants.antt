use Rattle.std.proofs.Common.{◌≡◌, ℕ, Bool}
use Rattle.export.specs.Kept.{IsWritten, listed, Lists}
use Rattle.known_runs.proofs.differing.put_written.Given as goal

abbrev pub invariant-loop-entry : goal.invariant-loop-entry
invariant-loop-entry l =
    (p : ℕ → Bool) → l.initial.numbers.items ≡ listed l.one l.other p → Lists l.one l.other l.numbers.items p (λ n. IsWritten l.one.log.entries l.first l.entry n)

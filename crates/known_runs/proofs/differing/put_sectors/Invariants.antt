use Rattle.std.proofs.Common.{◌≡◌, ℕ, Bool}
use Rattle.export.specs.Kept.{Spans, listed, Lists}
use Rattle.known_runs.proofs.differing.put_sectors.Given as goal

abbrev pub invariant-loop-place : goal.invariant-loop-place
invariant-loop-place l =
    (p : ℕ → Bool) → l.initial.numbers.items ≡ listed l.one l.other p → Lists l.one l.other l.numbers.items p (λ n. Spans l.first l.place n)

use Rattle.std.proofs.Common.{ℕ, ◌≡◌, ◌+◌, inl, inr, arith}
use Rattle.std.proofs.lemmas.Bool.{cases_lt}
use Rattle.export.specs.Kept.{Spans}
use Rattle.export.proofs.Listing.{listed_so_far, lists_on}
use Rattle.known_runs.proofs.differing.put_sectors.Goals as goal

pub loop-place-init : goal.loop-place-init
loop-place-init c = λ p is. listed_so_far _ _ _ p (λ n. Spans c.args.first 0 n) is (λ n h. omega (arith, h.0, h.1))

pub loop-place-preserved : goal.loop-place-preserved
loop-place-preserved c = λ p is.
    let so = c.loop-place.invariant p is in
    let first : ℕ = c.args.first in
    let k : ℕ = c.loop-place.place in
    lists_on _ _ _ _ p (λ n. Spans first k n) (λ n. n ≡ first + k) (λ n. Spans first (k + 1) n) so (c.in_ok-put_sector.ensures so.chosen so.is)
    (λ n h. elim (cases_lt n (first + k)) [
      | inl before ↦ inl (h.0, before)
      | inr past ↦ inr (omega (arith, past, h.1))
    ])

use Rattle.std.proofs.Common.{ℕ, ◌≡◌, ◌+◌, inl, inr, subst, arith}
use Rattle.std.proofs.lemmas.Bool.{cases_lt}
use Rattle.export.specs.Kept.{IsWrittenBy, IsWritten}
use Rattle.export.proofs.Listing.{lists_on, lists_less, listed_so_far}
use Rattle.known_runs.proofs.differing.put_written.Goals as goal

pub loop-entry-init : goal.loop-entry-init
loop-entry-init c = λ p is. listed_so_far _ _ _ p (IsWritten c.args.one.now.log.entries c.args.first c.args.first) is (λ n h. omega (arith, h.1, h.2))

pub loop-entry-preserved : goal.loop-entry-preserved
loop-entry-preserved c = λ p is.
    let es = c.args.one.now.log.entries in
    let first : ℕ = c.args.first in
    let k : ℕ = c.loop-entry.entry in
    let so = c.loop-entry.invariant p is in
    lists_on _ _ _ _ p (IsWritten es first k) (IsWrittenBy es k) (IsWritten es first (k + 1)) so (c.in_ok-put_entry.ensures so.chosen so.is)
    (λ n h. elim (cases_lt h.0 k) [
      | inl before ↦ inl (h.0, h.1, before, h.3)
      | inr past ↦
          let here : h.0 ≡ k = omega (arith, past, h.2) in
          inr (subst (λ e. IsWrittenBy es e n) here h.3)
    ])

pub returns : goal.returns
returns c = λ p is.
    let es = c.args.one.now.log.entries in
    let first : ℕ = c.args.first in
    lists_less _ _ _ p (IsWritten es first c.loop-entry.entry) (IsWritten es first c.args.last) (c.loop-entry.invariant p is)
    (λ n h. (h.0, h.1, omega (arith, h.2, c.loop-entry-test.false), h.3))

use Rattle.std.proofs.Common.{ℕ, ◌≡◌, length, slice_index_or, arith, ap, ◌∙◌, subst}
use Rattle.std.proofs.lemmas.Option.{slice_get-get_or}
use Rattle.losses.proofs.Walked.{Walked, next, pass, whole}
use Rattle.losses.proofs.flushes.places.places_by.Goals.{then-start-last+in_ok-push, else-start-last}
use Rattle.losses.proofs.flushes.places.places_by.Goals as goal

pub loop-end-preserved : goal.loop-end-preserved
loop-end-preserved c =
    λ ws are table.
    let e : ℕ = c.loop-end.end in
    let n : ℕ = length c.args.starts.now in
    let here = slice_get-get_or c.args.starts.now e 0 (omega (arith, c.loop-end-test.true)) in
    elim c.if-start-last.branch [
      | then-start-last+in_ok-push w ↦
          rw (w.last-is, ap (λ v. v.items) w.places-is ∙ w.in_ok-push.ensures.items)
          (next n e (slice_index_or c.args.starts.now e 0) c.loop-end.last ws c.args.starts.now c.loop-end.places.items are table here w.if-start-last.true (c.loop-end.invariant ws are table))
      | else-start-last w ↦
          rw (w.last-is, ap (λ v. v.items) w.places-is)
          (pass n e (slice_index_or c.args.starts.now e 0) c.loop-end.last ws c.args.starts.now c.loop-end.places.items are table here w.if-start-last.false (c.loop-end.invariant ws are table))
    ]

pub returns : goal.returns
returns c =
    λ ws are table.
    let end : c.loop-end.end ≡ length c.args.starts.now = let last = c.loop-end-test.false in let inside = c.loop-end.auto.end-end in omega (arith, last, inside) in
    whole (length c.args.starts.now) c.loop-end.last ws c.loop-end.places.items are
    (subst (λ k. Walked ws k c.loop-end.last c.loop-end.places.items) end (c.loop-end.invariant ws are table))

use Rattle.std.proofs.Common.{◌≡◌, ◌∙◌, ◌++◌, ◌∷◌, [], sym, ap, true, false}
use Rattle.verifier.specs.Guards.{is_guarded_at}
use Rattle.verifier.proofs.Counted.{chosen_more, passed_more}
use Rattle.verifier.proofs.guarded.guarded_slots.Goals as goal
use Rattle.verifier.proofs.guarded.guarded_slots.Goals.{then-is_guarded_at+in_ok-push, else-is_guarded_at}

pub loop-slot-preserved : goal.loop-slot-preserved
loop-slot-preserved c =
    let p = is_guarded_at c.args.verified.now.program c.args.verified.now.table in
    let slot = c.loop-slot.slot in
    elim c.if-is_guarded_at.branch [
      | then-is_guarded_at+in_ok-push w ↦
          let yes : p slot ≡ true = sym c.is_guarded_at.ensures ∙ w.if-is_guarded_at.true in
          rw (w.slots-is, w.in_ok-push.ensures.items) (ap (λ ns. ns ++ slot ∷ []) c.loop-slot.invariant ∙ chosen_more p slot yes)
      | else-is_guarded_at w ↦
          let no : p slot ≡ false = sym c.is_guarded_at.ensures ∙ w.if-is_guarded_at.false in
          rw w.slots-is (c.loop-slot.invariant ∙ passed_more p slot no)
    ]

use Rattle.std.proofs.Common.{ℕ, ◌≡◌, ◌∙◌, sym, ap, Option, true, false}
use Rattle.verifier.specs.Reach.{is_unreached, and_slot}
use Rattle.verifier.proofs.Counted.{counted_chosen, counted_passed, few_more}
use Rattle.verifier.proofs.unreached.unreached_of.Goals as goal
use Rattle.verifier.proofs.unreached.unreached_of.Goals.{then-is_unreached, else-is_unreached}

pub loop-slot-preserved : goal.loop-slot-preserved
loop-slot-preserved c =
    let p = is_unreached c.args.verified.now in
    let slot = c.loop-slot.slot in
    elim c.if-is_unreached.branch [
      | then-is_unreached w ↦
          let yes : p slot ≡ true = sym c.is_unreached.ensures ∙ w.if-is_unreached.true in
          rw w.found-is
          (w.and_slot.ensures.counted ∙ ap (λ (found : Option (ℕ × ℕ)). and_slot found slot) c.loop-slot.invariant.0 ∙ sym (counted_chosen p slot yes), w.and_slot.ensures.few)
      | else-is_unreached w ↦
          let no : p slot ≡ false = sym c.is_unreached.ensures ∙ w.if-is_unreached.false in
          rw w.found-is (c.loop-slot.invariant.0 ∙ sym (counted_passed p slot no), few_more c.loop-slot.found slot c.loop-slot.invariant.1)
    ]

use Rattle.std.proofs.Common.{◌≡◌, ◌∙◌, ◌∷◌, [], true, is_ok, refl, length, append_assoc, ap, arith}
use Rattle.std.specs.Vec.Iter.{into_iter_items}
use Rattle.workers.specs.Crew.{pieces_of}
use Rattle.workers.proofs.Back.{one_parted}
use Rattle.workers.proofs.crew.split_done.Goals as goal

pub loop-one-preserved : goal.loop-one-preserved
loop-one-preserved g c =
    let at = c.loop-one in
    let x = c.in-Some.one in
    let steps : into_iter_items at.one-iterator ≡ x ∷ into_iter_items c.next.new.self = c.in-Some.ensures.steps.0 in
    let ok : is_ok x.pieces ≡ true = rw c.in_ok-own.was refl in
    let own : pieces_of x ≡ c.in_ok-own.own.items = rw c.in_ok-own.was refl in (
      append_assoc at.yielded (x ∷ []) _ ∙ rw (← steps) at.invariant.0,
      rw (c.in_ok-push.ensures.items, c.in_ok-push-2.ensures.items, c.in_ok-append.ensures.items) (one_parted at.yielded x at.seats.items at.hands.items at.pieces.items c.in_ok-own.own.items at.invariant.1 ok own),
      let was = at.invariant.2 in
          let gone = c.in-Some.ensures.steps.1 in
          let short = ap length steps in
          omega arith,
    )

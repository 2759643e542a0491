use Rattle.std.proofs.Common.{◌≡◌, ◌∙◌, ◌<◌, ◌++◌, ◌∷◌, [], ℕ, List, All, length, append_assoc, subst, sym, ap, arith}
use Rattle.std.proofs.lemmas.List.{map-append}
use Rattle.std.proofs.lemmas.List.Elements.{All-append}
use Rattle.std.specs.Vec.Iter.{into_iter_items}
use Rattle.shares.proofs.Reunion.{apart_next}
use Rattle.shares.proofs.meeting.take_apart.Goals as goal

pub loop-hand-preserved : goal.loop-hand-preserved
loop-hand-preserved g c =
    let at = c.loop-hand in
    let x = c.in-Some.hand in
    let list = c.apart-list.result.0.items in
    let own = c.apart-list.result.2.items in
    let steps : into_iter_items at.hand-iterator ≡ x ∷ into_iter_items c.next.new.self = c.in-Some.ensures.steps.0 in
    let grown : c.extend_from_slice.new.self.items ≡ at.left.items ++ list = c.in_ok-extend_from_slice.ensures.items ∙ ap (λ (l : List ℕ). at.left.items ++ l) c.as_slice.ensures.value in (
      append_assoc at.yielded (x ∷ []) _ ∙ rw (← steps) at.invariant.0,
      rw (grown, c.in_ok-push.ensures.items, c.in_ok-push-2.ensures.items, map-append) (apart_next at.yielded at.left.items at.deques.items _ x list c.apart-list.result.1 own at.invariant.1 c.apart-list.ensures.parts c.apart-list.ensures.closed),
      subst (All (λ (b : ℕ). b < g.H.Deal.blocks)) (sym grown) (All-append (λ (b : ℕ). b < g.H.Deal.blocks) at.left.items list at.invariant.2 c.apart-list.ensures.below),
      let was = at.invariant.3 in
          let gone = c.in-Some.ensures.steps.1 in
          let short = ap length steps in
          omega arith,
    )

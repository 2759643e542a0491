use Rattle.std.proofs.Common.{rules, slice_get, sym, ◌∙◌}
use Rattle.std.proofs.lemmas.List.{with_items_is, places}
use Rattle.explore_core.proofs.Late.{counted_late}
use Rattle.explore_core.proofs.explore.Explore.draw.Goals as goal

pub invariant_of-self : goal.invariant_of-self
invariant_of-self c =
    let may = rw (c.as_slice.ensures.value, c.as_slice-2.ensures.value) at c.if-not-may_draw.ensures in
    let marked = with_items_is c.self.inside.late c.set_late.new.late (search (rules, places)) ∙ (rw c.as_mut_slice.ensures.value at c.set_late.ensures) in
    rw marked (counted_late _ _ (slice_get c.self.inside.hands.items c.args.worker) _ c.args.worker (sym may) c.self.invariant)

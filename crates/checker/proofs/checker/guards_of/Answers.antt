use Rattle.std.proofs.Common.{◌∙◌, ◌++◌, ◌∷◌, [], Bool, List, ap, sym, arith}
use Rattle.std.proofs.lemmas.List.FromFn.{map-range_with_len_more}
use Rattle.verifier.specs.Guards.{is_guarded_at}
use Rattle.checker.proofs.checker.guards_of.Goals as goal

pub loop-slot-preserved : goal.loop-slot-preserved
loop-slot-preserved c =
    let p = is_guarded_at c.args.verified.now.program c.args.verified.now.table in
    let slot = c.loop-slot.slot in
    rw (c.in_ok-push.ensures.items, c.is_guarded_at.ensures)
    (ap (λ (flags : List Bool). flags ++ p slot ∷ []) c.loop-slot.invariant ∙ sym (map-range_with_len_more p 0 slot slot (omega arith)))

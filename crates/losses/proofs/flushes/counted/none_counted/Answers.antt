use Rattle.std.proofs.Common.{ℕ, ◌≡◌, ◌+◌, List, [], ◌∷◌, ◌++◌, map, slice_index_or, arith, ap, sym, ◌∙◌}
use Rattle.std.specs.List.{range_with_len}
use Rattle.std.proofs.lemmas.List.{map_push}
use Rattle.base.proofs.Lists.{range_with_len-more}
use Rattle.losses.specs.declared.flushes.counted.MissingFlush.{MissingFlush}
use Rattle.losses.specs.Counted.{missing_at}
use Rattle.losses.proofs.flushes.counted.none_counted.Goals as goal

pub loop-place-preserved : goal.loop-place-preserved
loop-place-preserved c =
    let k : ℕ = c.loop-place.place-index in
    let ps : List ℕ = c.args.places.now in
    let next : 0 + k ≡ k = omega arith in
    let pushed : MissingFlush = record { from = 0; at = slice_index_or ps k 0; failing = 0 } in
    let more : map (missing_at [] ps) (range_with_len 0 (k + 1)) ≡ map (missing_at [] ps) (range_with_len 0 k) ++ pushed ∷ [] =
    ap (map (missing_at [] ps)) (range_with_len-more 0 k) ∙ map_push (missing_at [] ps) (range_with_len 0 k) (0 + k)
    ∙ ap (λ (n : ℕ). map (missing_at [] ps) (range_with_len 0 k) ++ missing_at [] ps n ∷ []) next in
    c.in_ok-push.ensures.items ∙ ap (λ (xs : List MissingFlush). xs ++ pushed ∷ []) c.loop-place.invariant ∙ sym more

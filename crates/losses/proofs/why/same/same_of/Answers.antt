use Rattle.std.proofs.Common.{ℕ, ◌<◌, ◌∙◌, true, List, length, map, refl, arith}
use Rattle.std.specs.List.{slice_index_or}
use Rattle.std.proofs.lemmas.Option.{slice_get-get_or}
use Rattle.losses.proofs.Sames.{compare_more, flag_at}
use Rattle.losses.proofs.why.same.same_of.Goals as goal

pub loop-place-preserved : goal.loop-place-preserved
loop-place-preserved c =
    let outs : List (List ℕ) = map (λ o. o.now) c.args.outcomes.now in
    let example : ℕ = slice_index_or c.args.places.now c.loop-place.place 0 in
    let within = c.requires.places c.loop-place.place example (slice_get-get_or c.args.places.now c.loop-place.place 0 c.loop-place-test.true) in
    let long = c.loop-place.invariant.long in
    let inside : example < length c.loop-place.same.items = omega (arith, within, long) in
    compare_more outs c.args.begin c.args.places.now c.loop-place.same.items c.loop-place.place example _ _ _ c.loop-place.invariant refl within
    (c.index.ensures ∙ flag_at c.loop-place.same.items example _ true inside) c.are_alike-alike.ensures c.both.ensures

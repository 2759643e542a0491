use Rattle.std.proofs.Common.{◌≡◌, ◌+◌, ◌<◌, ◌∙◌, length, map, ℕ, true, List, arith}
use Rattle.std.specs.List.{slice_index_or}
use Rattle.losses.specs.declared.why.group.FailingGroup.{FailingGroup}
use Rattle.losses.specs.CountedGroups.{times, same_at, group_at}
use Rattle.losses.proofs.GroupCounting.{group_more, at_any_default}
use Rattle.losses.proofs.Sames.{flag_at}
use Rattle.losses.proofs.why.group.groups_of.Goals as goal

pub loop-place-preserved : goal.loop-place-preserved
loop-place-preserved c =
    let outs : List (List ℕ) = map (λ o. o.now) c.args.outcomes.now in
    let long = c.in_ok-counts.ensures.long in
    let wide = c.in_ok-same.ensures.long in
    let both = c.requires.long in
    let test = c.loop-place-test.true in
    let k : ℕ = c.loop-place.place in
    let below : k < length c.args.places.now = omega (arith, both, test) in
    let inside : k < length c.in_ok-counts.counts.items = omega (arith, long, below) in
    let within : k < length c.in_ok-same.same.items = omega (arith, wide, below) in
    let count : c.index.result.now ≡ times k c.args.places.now =
    c.index.ensures ∙ at_any_default c.in_ok-counts.counts.items k _ 0 inside ∙ c.in_ok-counts.ensures.counts k in
    let same : c.index-in-loop-place.result.now ≡ same_at outs c.args.begin c.args.places.now k =
    c.index-in-loop-place.ensures ∙ flag_at c.in_ok-same.same.items k _ true within ∙ c.in_ok-same.ensures.same k below in
    let g : FailingGroup = record { image = slice_index_or c.args.images.now k 0; line = c.args.begin + k; failing = c.index.result.now; same = c.index-in-loop-place.result.now } in
    let is : g ≡ group_at outs c.args.begin c.args.images.now c.args.places.now k =
    λ i. record { image = slice_index_or c.args.images.now k 0; line = c.args.begin + k; failing = count i; same = same i } in
    group_more outs c.args.begin c.args.images.now c.args.places.now k g c.loop-place.groups.items c.push_group.new.groups.items c.loop-place.invariant is c.in_ok-push_group.ensures

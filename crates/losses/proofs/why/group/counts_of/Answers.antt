use Rattle.std.proofs.Common.{ℕ, rules, ◌+◌, ◌<◌, ◌^◌, ◌∙◌, length, refl, arith}
use Rattle.std.specs.List.{slice_index_or}
use Rattle.std.proofs.lemmas.Option.{slice_get-get_or}
use Rattle.losses.proofs.GroupCounting.{times_before, count_more, none_counted, at_any_default}
use Rattle.losses.proofs.why.group.counts_of.Goals as goal

pub loop-place-init : goal.loop-place-init
loop-place-init c = none_counted c.args.places.now c.resize.new.self.items (search rules)

pub overflow_add-index_mut : goal.overflow_add-index_mut
overflow_add-index_mut c =
    let fits : length c.args.places.now < 2 ^ 64 = search rules in
    let place : ℕ = slice_index_or c.args.places.now c.loop-place.place-index 0 in
    let within = c.requires c.loop-place.place-index place (slice_get-get_or c.args.places.now c.loop-place.place-index 0 c.loop-place-test.true) in
    let inside : place < length c.loop-place.counts.items = omega (arith, within, c.loop-place.invariant.long) in
    let value = c.index_mut.ensures.value ∙ at_any_default c.loop-place.counts.items place _ 0 inside in
    let own = c.loop-place.invariant.each place in
    let few = times_before place c.loop-place.place-index c.args.places.now c.loop-place.auto.place-index-end in
    let test = c.loop-place-test.true in
    let small : c.index_mut.result.now + 1 < 2 ^ 64 = omega (arith, value, own, few, fits, test) in
    omega (arith, small)

pub loop-place-preserved : goal.loop-place-preserved
loop-place-preserved c =
    let place : ℕ = slice_index_or c.args.places.now c.loop-place.place-index 0 in
    let within = c.requires c.loop-place.place-index place (slice_get-get_or c.args.places.now c.loop-place.place-index 0 c.loop-place-test.true) in
    let inside : place < length c.loop-place.counts.items = omega (arith, within, c.loop-place.invariant.long) in
    count_more c.args.places.now c.loop-place.counts.items c.loop-place.place-index place c.index_mut.result.now c.loop-place.invariant c.loop-place-test.true refl
    inside (c.index_mut.ensures.value ∙ at_any_default c.loop-place.counts.items place _ 0 inside)

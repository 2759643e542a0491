use Rattle.std.proofs.Common.{◌∙◌, [], ◌∷◌, ap, arith}
use Rattle.shares.specs.Owned.{OtherValue}
use Rattle.shares.specs.Seats.{times}
use Rattle.shares.proofs.Deques.{length_set}
use Rattle.shares.proofs.Takes.{flat_set, flat_same, named_set}
use Rattle.shares.proofs.Seats.{times_append}
use Rattle.shares.proofs.hand.steal_any.Goals as goal

pub returns-in-Some-clause-some : goal.returns-in-Some-clause-some
returns-in-Some-clause-some g c = λ x.
    let (same, long, names) = c.loop-place.invariant in
    let moved = flat_set (λ o. o.got) x c.loop-place.others.items c.loop-place.place c.index_mut.result.now c.steal.new.self (omega (arith, c.loop-place-test.true)) c.index_mut.ensures.value in
    omega (arith, moved, ap (times x) same, ap (times x) c.in-Some.ensures.some, times_append x c.index_mut.result.now.got (c.in-Some.block ∷ []))

pub returns-in-Some-clause-names : goal.returns-in-Some-clause-names
returns-in-Some-clause-names g c =
    named_set (λ (o : OtherValue). o.name) c.loop-place.others.items c.loop-place.place c.index_mut.result.now c.steal.new.self c.index_mut.ensures.value c.steal.ensures.name ∙ c.loop-place.invariant.2

pub loop-place-preserved : goal.loop-place-preserved
loop-place-preserved g c =
    let (same, long, names) = c.loop-place.invariant in (
      flat_same (λ (o : OtherValue). o.got) c.loop-place.others.items c.loop-place.place c.index_mut.result.now c.steal.new.self c.index_mut.ensures.value c.in_default.ensures.none ∙ same,
      length_set c.loop-place.others.items c.loop-place.place c.steal.new.self ∙ long,
      named_set (λ (o : OtherValue). o.name) c.loop-place.others.items c.loop-place.place c.index_mut.result.now c.steal.new.self c.index_mut.ensures.value c.steal.ensures.name ∙ names,
    )

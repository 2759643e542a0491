use Rattle.std.proofs.Common.{ℕ, refl, arith, ap, ◌<◌, ◌/◌, ◌-◌}
use Rattle.choices.specs.Seeks.{Reaches}
use Rattle.choices.specs.Ways.{ways}
use Rattle.choices.proofs.Ranks.{inside, found_pick}
use Rattle.choices.proofs.rank.first_pick.Goals as goal

pub nonzero_div-pick : goal.nonzero_div-pick
nonzero_div-pick c = rw c.ways-rests.ensures.value (inside _ _ _ _ c.requires.some c.reaching-reach.ensures.reach).some

pub overflow_cast-pick : goal.overflow_cast-pick
overflow_cast-pick c =
    let told = (inside _ _ _ _ c.requires.some c.reaching-reach.ensures.reach).fate in
    let fate : (c.ways-2.result - (c.ways.result - c.args.number)) / c.ways-rests.result < c.args.fates = rw (c.ways-rests.ensures.value, c.ways-2.ensures.value) told in
    omega (arith, fate, c.requires.fates)

pub nonzero_rem-result : goal.nonzero_rem-result
nonzero_rem-result c = rw c.ways-rests.ensures.value (inside _ _ _ _ c.requires.some c.reaching-reach.ensures.reach).some

pub returns : goal.returns
returns c =
    let so : Reaches c.args.fates c.args.size (ways c.args.fates c.args.size (c.args.end - c.args.begin) - c.args.number) c.reaching-reach.result =
    rw (← c.ways.ensures.value) c.reaching-reach.ensures.reach in
    found_pick c.args.fates c.args.size c.args.begin c.args.end c.args.number c.reaching-reach.result
    c.requires.some c.requires.within c.requires.number c.reaching-reach.ensures.bound so
    (c.ways.result - c.args.number) (ap (λ (n : ℕ). n - c.args.number) c.ways.ensures.value)
    _ refl (rw (c.ways-2.ensures.value, c.ways-rests.ensures.value) refl) _ (rw (c.ways-2.ensures.value, c.ways-rests.ensures.value) refl)

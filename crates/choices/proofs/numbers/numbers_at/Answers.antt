use Rattle.std.proofs.Common.{ℕ, List, Some, ap, sym, ◌∙◌, subst, arith}
use Rattle.std.specs.Option.{option_map}
use Rattle.choices.specs.declared.pick.Pick.{Pick}
use Rattle.choices.specs.Picks.{ArePicks, most_fates}
use Rattle.choices.specs.Numbers.{numbers_of}
use Rattle.choices.proofs.Plans.{nth_picks, ranked_at-ways, same_picks}
use Rattle.choices.proofs.numbers.numbers_at.Goals as goal

pub nth_within-picks-requires-clause-number : goal.nth_within-picks-requires-clause-number
nth_within-picks-requires-clause-number c =
    rw (c.fates_of.ensures.value, c.volatile-parts.ensures.value)
    (omega (arith, c.requires.rest, ranked_at-ways c.args.plan.now c.args.bound c.args.tears c.args.cut))

pub numbers_of-requires-clause-picks : goal.numbers_of-requires-clause-picks
numbers_of-requires-clause-picks c =
    let are = nth_picks c.fates_of.result c.args.bound c.volatile-parts.result c.args.rest c.nth_within-picks.result.items c.fates_of.ensures.high c.nth_within-picks.ensures in
    subst (λ (ps : List Pick). ArePicks most_fates c.volatile-parts.result ps) (sym c.as_slice.ensures.value) are

pub returns : goal.returns
unfolding Rattle.choices.specs.Numbers.numbers_at
returns c =
    let there = same_picks _ _ _ _ _ _ _ c.fates_of.ensures.value c.volatile-parts.ensures.value c.nth_within-picks.ensures in
    ap (option_map numbers_of) there
    ∙ ap (λ (ns : List ℕ). Some ns) (ap numbers_of (sym c.as_slice.ensures.value) ∙ sym c.numbers_of.ensures)

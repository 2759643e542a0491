use Rattle.std.proofs.Common.{sym, ◌∙◌, ap, arith, slice_index_or, slice_get, Some}
use Rattle.std.proofs.lemmas.Option.{slice_get_within}
use Rattle.choices.specs.Picks.{fates_of}
use Rattle.choices.proofs.Plans.{nth_picks, found_choice, cut_there, same_ways, same_picks}
use Rattle.choices.proofs.ranked.choice_at.Goals as goal

pub bounds-cuts-place : goal.bounds-cuts-place
bounds-cuts-place c =
    let at = c.requires.inside.1 in
    slice_get_within c.cuts.result.now c.args.place at.cut (ap (λ ks. slice_get ks c.args.place) c.cuts.ensures.value ∙ at.wanted)

pub nth_within-picks-requires-clause-number : goal.nth_within-picks-requires-clause-number
nth_within-picks-requires-clause-number c =
    rw (c.fates_of.ensures.value, c.volatile.ensures.value)
    (same_ways _ _ _ _ _ _ c.requires.inside.1 _ c.cuts.ensures.value 0)

pub of-requires-clause-picks : goal.of-requires-clause-picks
of-requires-clause-picks c =
    nth_picks (fates_of c.args.tears) c.args.bound _ c.args.rest c.nth_within-picks.result.items (omega (arith, c.fates_of.ensures.value, c.fates_of.ensures.high))
    (same_picks _ _ _ _ _ _ _ c.fates_of.ensures.value c.volatile.ensures.value c.nth_within-picks.ensures)

pub returns : goal.returns
returns c = λ number at.
    found_choice _ _ _ _ _ _ at (slice_index_or c.cuts.result.now c.args.place 0) (cut_there _ _ _ _ _ _ at _ c.cuts.ensures.value 0)
    c.nth_within-picks.result.items (same_picks _ _ _ _ _ _ _ c.fates_of.ensures.value c.volatile.ensures.value c.nth_within-picks.ensures)
    ∙ ap (λ v. Some v) (sym c.of.ensures)

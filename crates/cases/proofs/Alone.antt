-- Sets of one fate, and fates of which no piece is wanted.
use Rattle.std.proofs.Common.{ℕ, ◌≡◌, nat_lt, true, false, not, List, [], ◌∷◌, length, filter, slice_index_or, None, refl, sym, ◌∙◌, ap}
use Rattle.epochs.specs.declared.part.Part.{Part}
use Rattle.epochs.specs.declared.unit.Unit.{Unit as LogUnit}
use Rattle.cases.specs.Rows.{shows}
use Rattle.cases.specs.Cases.{show_alike, firsts}
use Rattle.cases.specs.Sets.{fates_in, pieces_in, numbers_in}
use Rattle.cases.proofs.Splitting.{one_kind, pieces_none}

pub told_none : (pieces set : ℕ) (p : Part) (u : LogUnit) → pieces ≡ 0 → nat_lt 1 (length (firsts (show_alike p u (pieces_in pieces)) (fates_in set))) ≡ false
told_none pieces set p u is =
    ap (λ ps. nat_lt 1 (length (firsts (show_alike p u ps) (fates_in set)))) (ap pieces_in is ∙ pieces_none) ∙ one_kind (show_alike p u []) (fates_in set) (λ f g. refl)

pub told_whole : (pieces set : ℕ) (p : Part) (u : LogUnit) → set ≡ 1 → nat_lt 1 (length (firsts (show_alike p u (pieces_in pieces)) (fates_in set))) ≡ false
unfolding fates_in numbers_in
told_whole pieces set p u is = ap (λ n. nat_lt 1 (length (firsts (show_alike p u (pieces_in pieces)) (fates_in n)))) is

pub told_lost : (pieces set : ℕ) (p : Part) (u : LogUnit) → set ≡ 2 → nat_lt 1 (length (firsts (show_alike p u (pieces_in pieces)) (fates_in set))) ≡ false
unfolding fates_in numbers_in
told_lost pieces set p u is = ap (λ n. nat_lt 1 (length (firsts (show_alike p u (pieces_in pieces)) (fates_in n)))) is

none_left : (ps : List ℕ) → filter (λ (i : ℕ). false) ps ≡ []
none_left [] = refl
none_left (p ∷ ps) = none_left ps

all_left : (ps : List ℕ) → filter (λ (i : ℕ). true) ps ≡ ps
all_left [] = refl
all_left (p ∷ ps) = ap (λ qs. p ∷ qs) (all_left ps)

pub left_whole : (pieces set : ℕ) (p : Part) (u : LogUnit) → set ≡ 1
    → pieces_in 0 ≡ filter (λ i. not (shows (slice_index_or (fates_in set) 0 None) p u i)) (pieces_in pieces)
unfolding fates_in numbers_in
left_whole pieces set p u is =
    pieces_none ∙ sym (none_left (pieces_in pieces)) ∙ ap (λ n. filter (λ i. not (shows (slice_index_or (fates_in n) 0 None) p u i)) (pieces_in pieces)) (sym is)

pub left_lost : (pieces set : ℕ) (p : Part) (u : LogUnit) → set ≡ 2
    → pieces_in pieces ≡ filter (λ i. not (shows (slice_index_or (fates_in set) 0 None) p u i)) (pieces_in pieces)
unfolding fates_in numbers_in
left_lost pieces set p u is =
    sym (all_left (pieces_in pieces)) ∙ ap (λ n. filter (λ i. not (shows (slice_index_or (fates_in n) 0 None) p u i)) (pieces_in pieces)) (sym is)

-- Rows of parts, and the following choice found from the end.
use Rattle.std.proofs.Common.{ℕ, zero, suc, ◌≡◌, ◌+◌, ◌-◌, ◌<◌, ◌≤◌, List, [], ◌∷◌, ◌++◌, length, take, drop, Some, None, refl, sym, ◌∙◌, ap, arith, append_assoc, add-one}
use Rattle.std.proofs.Math.Seq.{drop-cons}
use Rattle.std.specs.List.{slice_index_or}
use Rattle.std.proofs.lemmas.List.{append-nil, length-drop, take-append-drop}
use Rattle.std.specs.Option.{option_map}
use Rattle.choices.specs.declared.pick.Pick.{Pick}
use Rattle.choices.specs.Steps.{first_picks, next_picks, after_rest, following, or_else, one_more, following_below}

-- a row of no parts adds nothing
pub no_row : (xs : List Pick) (a : ℕ) → xs ≡ xs ++ first_picks 0 a
unfolding first_picks
no_row xs a = sym (append-nil xs)

row_end : (i a : ℕ) → first_picks (suc i) a ≡ first_picks i a ++ record { part = a + i; fate = 0 } ∷ []
unfolding first_picks
row_end zero a = let e : a ≡ a + 0 = omega arith in ap (λ (u : ℕ). record { part = u; fate = 0 } ∷ []) e
row_end (suc i) a =
    let e : a + 1 + i ≡ a + suc i = omega arith in
    let rest = row_end i (a + 1) in
    ap (λ (ps : List Pick). record { part = a; fate = 0 } ∷ ps) rest
    ∙ ap (λ (u : ℕ). record { part = a; fate = 0 } ∷ (first_picks i (a + 1) ++ record { part = u; fate = 0 } ∷ [])) e

-- a row grows at its end
pub row_more : (xs ys : List Pick) (i a u : ℕ) → ys ≡ xs ++ first_picks i a → u ≡ a + i
    → ys ++ record { part = u; fate = 0 } ∷ [] ≡ xs ++ first_picks (i + 1) a
row_more xs ys i a u so at =
    rw (so, at, add-one i, row_end i a) (append_assoc xs (first_picks i a) (record { part = a + i; fate = 0 } ∷ []))

-- what stands before a departure stays
pub following_front : (m e : ℕ) (front rest ds : List Pick) → following m e rest ≡ Some ds → following m e (front ++ rest) ≡ Some (front ++ ds)
unfolding following
following_front m e [] rest ds h = h
following_front m e (d ∷ front) rest ds h =
    ap (λ o. after_rest d o (next_picks m e d (length (front ++ rest)))) (following_front m e front rest ds h)

following_cons : (m e : ℕ) (d : Pick) (ds : List Pick) → following m e ds ≡ None → following m e (d ∷ ds) ≡ next_picks m e d (length ds)
unfolding following
following_cons m e d ds h = ap (λ o. after_rest d o (next_picks m e d (length ds))) h

-- after the last departure nothing goes on
pub none_following : (m e : ℕ) (ds : List Pick) (n : ℕ) → length ds ≤ n → following m e (drop n ds) ≡ None
unfolding following
none_following m e [] zero h = refl
none_following m e [] (suc n) h = refl
none_following m e (d ∷ ds) zero h = absurd (omega (arith, h))
none_following m e (d ∷ ds) (suc n) h = none_following m e ds n (omega (arith, h))

-- the step of the departure with `beyond` others after it, which have none
pub step_at : (m e : ℕ) (ds : List Pick) (place beyond : ℕ) (d : Pick) → place ≡ length ds - 1 - beyond → beyond < length ds
    → following m e (drop (length ds - beyond) ds) ≡ None
    → following m e (drop place ds) ≡ next_picks m e (slice_index_or ds place d) beyond
step_at m e ds place beyond d at lt none =
    let next : suc place ≡ length ds - beyond = omega (arith, at, lt) in
    let split : drop place ds ≡ slice_index_or ds place d ∷ drop (suc place) ds = drop-cons ds place d (omega (arith, at, lt)) in
    let last : following m e (drop (suc place) ds) ≡ None = rw next none in
    let size : length (drop (suc place) ds) ≡ beyond = length-drop (suc place) ds ∙ omega (arith, at, lt) in
    ap (following m e) split ∙ following_cons m e (slice_index_or ds place d) (drop (suc place) ds) last
    ∙ ap (next_picks m e (slice_index_or ds place d)) size

-- the search from the end: the last departure that has a next one, and one that has none
pub step_found : (m e : ℕ) (ds : List Pick) (place beyond : ℕ) (d next : Pick) → place ≡ length ds - 1 - beyond → beyond < length ds
    → following m e (drop (length ds - beyond) ds) ≡ None
    → option_map (λ (p : Pick). p ∷ first_picks beyond (p.part + 1)) (Some next) ≡ next_picks m e (slice_index_or ds place d) beyond
    → following m e ds ≡ Some (take place ds ++ next ∷ first_picks (length ds - place - 1) (next.part + 1))
step_found m e ds place beyond d next at lt none found =
    let others : length ds - place - 1 ≡ beyond = omega (arith, at, lt) in
    ap (following m e) (sym (take-append-drop place ds))
    ∙ following_front m e (take place ds) (drop place ds) (next ∷ first_picks beyond (next.part + 1)) (step_at m e ds place beyond d at lt none ∙ sym found)
    ∙ ap (λ b. Some (take place ds ++ next ∷ first_picks b (next.part + 1))) (sym others)

-- where one place can't step, the search goes on one place before it
pub step_missed : (m e : ℕ) (ds : List Pick) (place beyond : ℕ) (d : Pick) → place ≡ length ds - 1 - beyond → beyond < length ds
    → following m e (drop (length ds - beyond) ds) ≡ None → None ≡ next_picks m e (slice_index_or ds place d) beyond
    → following m e (drop (length ds - (beyond + 1)) ds) ≡ None
step_missed m e ds place beyond d at lt none missed =
    let here : length ds - (beyond + 1) ≡ place = omega (arith, at, lt) in
    ap (λ n. following m e (drop n ds)) here ∙ step_at m e ds place beyond d at lt none ∙ sym missed

-- the following choice: as many departures, one more, or none
pub below_moved : (m s e : ℕ) (ds new : List Pick) → following m e ds ≡ Some new → following_below m s e ds ≡ Some new
unfolding following_below
below_moved m s e ds new h = ap (λ o. or_else o (one_more s e (length ds))) h

-- where no choice with as many departures follows, the first with one more does
pub below_more : (m s e : ℕ) (ds : List Pick) → following m e ds ≡ None → following_below m s e ds ≡ one_more s e (length ds)
unfolding following_below
below_more m s e ds h = ap (λ o. or_else o (one_more s e (length ds))) h

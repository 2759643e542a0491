-- Each kind of step keeps the board rule.
use Rattle.std.proofs.Common.{◌≡◌, ℕ, ◌+◌, ◌%◌, ◌^◌, ◌<◌, ◌≤◌, min, eqb, leb, Bool, true, false, List, [], ◌∷◌, slice_index, slice_set, sym, refl, ap, ◌∙◌, subst, ⊎_elim, mod-eq_of_lt, arith}
use Rattle.std.proofs.lemmas.Bool.Decides.{eqb_tells, leb_tells}
use mathlib.Core.Option.{some}
use lib.ListN.{get_elem?}
use Rattle.atomic_table.specs.Table.{State, Step, Allows, keeps}
use Rattle.atomic_table.proofs.Lists.{at_set}
use Rattle.shares.specs.declared.view.SeatStep.{SeatStep}
use Rattle.shares.specs.declared.view.SeatStep.TheVariants.{Drew, Posted, SawLeast, SawNext}
use Rattle.shares.specs.declared.view.SeatView.{SeatView}
use Rattle.shares.specs.declared.view.BoardLimits.{BoardLimits}
use Rattle.shares.specs.Steps.{total, least_of, bit, drew, drew_late, image_posted, shown_next, shown_least, draws, late_draws, least_posted, none_posted, posted_it, found_it, posts, finds}
use Rattle.shares.specs.Board.{with_step, Fits, BoardRule}
use Rattle.shares.specs.Moves.{draw_move, post_move, saw_least, saw_next}
use Rattle.shares.proofs.Lists.{total_snoc, total_set, total_at_most, greatest_snoc, least_snoc, least_set, least_bound, least_counted}

-- what a seat knows fits later words too
pub later : (limits : BoardLimits) (next least next' least' : ℕ) (v : SeatView) → next ≤ next' → least' ≤ least → Fits limits next least v → Fits limits next' least' v
later limits next least next' least' v up down h = record { late = h.late; idle = h.idle; below = let b = h.below in omega arith; above = let a = h.above in omega arith }

-- the views fit later words, where one of them has changed
pub each_after : (limits : BoardLimits) (next least next' least' : ℕ) (views : List SeatView) (id : ℕ) (w : SeatView) → next ≤ next' → least' ≤ least → Fits limits next' least' w
    → ((j : ℕ) (v : SeatView) → get_elem? views j ≡ some v → Fits limits next least v) → (j : ℕ) (v : SeatView) → get_elem? (slice_set views id w) j ≡ some v → Fits limits next' least' v
each_after limits next least next' least' views id w up down fits each j v at =
    ⊎_elim (λ t. subst (Fits limits next' least') t.1 fits) (λ t. later limits next least next' least' v up down (each j v t.1)) (at_set views id j w v at)

-- a seat with some part fits the words after its step
fits_made : (limits : BoardLimits) (next least next' least' : ℕ) (v : SeatView) (made : SeatStep) → Fits limits next least v → 0 < v.parts → next ≤ next' → least' ≤ least
    → late_draws limits.blocks v.steps + drew_late limits.blocks made ≤ v.parts → shown_next made ≤ next' → least' ≤ shown_least made → Fits limits next' least' (with_step v made)
fits_made limits next least next' least' v made h some_part up down late below above = record {
  late = omega (arith, total_snoc (drew_late limits.blocks) v.steps made);
  idle = λ none_left. absurd (omega arith);
  below = let b = h.below in omega (arith, greatest_snoc shown_next v.steps made);
  above = let a = h.above in omega (arith, least_snoc shown_least v.steps made);
}

-- how a step changes how often a number was drawn
abbrev Counts : ℕ → ℕ → SeatStep → Type 0
Counts next next' made = (b times : ℕ) → (b < next → times ≡ 1) × (next ≤ b → times ≡ 0) → (b < next' → times + drew b made ≡ 1) × (next' ≤ b → times + drew b made ≡ 0)

-- the least image is posted where there is one
least_is_posted : (limits : BoardLimits) (s : State (Unit {0}) SeatView) (h : BoardRule limits s) → h.least < none_posted → 0 < total (λ (u : SeatView). posts h.least u.steps) s.views
least_is_posted limits s h lower =
    let is = h.lowest in
    let all : 0 < total (λ (u : SeatView). posts (least_of (λ (w : SeatView). least_posted w.steps) s.views) u.steps) s.views =
    least_counted (λ (w : SeatView). least_posted w.steps) (λ i (u : SeatView). posts i u.steps) (λ u. least_counted image_posted posted_it by_step u.steps) s.views (omega arith) in
    rw is all
  where
    by_step : (made : SeatStep) → image_posted made < none_posted → 0 < posted_it (image_posted made) made
    by_step (Posted image found) lower = ⊎_elim (λ t. let one : bit (eqb image image) ≡ 1 = ap bit t.0 in omega arith) (λ t. absurd (t.1 refl)) (eqb_tells image image)
    by_step (Drew found) lower = absurd (omega arith)
    by_step (SawLeast found) lower = absurd (omega arith)
    by_step (SawNext found) lower = absurd (omega arith)

-- a step that finds an image as the least finds the least image of the board
abbrev FindsLeast : ℕ → SeatStep → Type 0
FindsLeast least made = (image : ℕ) → image < none_posted → 0 < found_it image made → image ≡ least

finds_it : (found least image : ℕ) → found ≡ least → 0 < bit (eqb found image) → image ≡ least
finds_it found least image e often = ⊎_elim (λ t. let same = t.1 in omega arith) (λ t. let none : bit (eqb found image) ≡ 0 = ap bit t.0 in absurd (omega arith)) (eqb_tells found image)

-- the rule after one step of a seat with some part
module _ (limits : BoardLimits) (s : State (Unit {0}) SeatView) (h : BoardRule limits s) (id : ℕ) (v : SeatView) (at : get_elem? s.views id ≡ some v) (some_part : 0 < v.parts) where
  moved : (made : SeatStep) (words : List ℕ) (next least : ℕ) → words ≡ next ∷ least ∷ [] → Counts h.next next made
      → ((times : ℕ) → h.next ≤ limits.blocks + times → next ≤ limits.blocks + (times + drew_late limits.blocks made))
      → late_draws limits.blocks v.steps + drew_late limits.blocks made ≤ v.parts
      → h.next ≤ next → shown_next made ≤ next → least ≡ min h.least (image_posted made) → least ≤ shown_least made → FindsLeast h.least made
      → BoardRule limits (record { words = words; homes = s.homes; views = slice_set s.views id (with_step v made) })
  moved made words next least are counts late few up below lowest above least_found = record {
    next = next;
    least = least;
    words = are;
    small = h.small;
    parts = omega (arith, total_set (λ (u : SeatView). u.parts) s.views id v w at, h.parts);
    once = λ b.
        let more : total (λ (u : SeatView). draws b u.steps) (slice_set s.views id w) ≡ total (λ (u : SeatView). draws b u.steps) s.views + drew b made =
        omega (arith, total_set (λ (u : SeatView). draws b u.steps) s.views id v w at, total_snoc (drew b) v.steps made) in
        let now = counts b (total (λ (u : SeatView). draws b u.steps) s.views) (h.once b) in
        ((λ lt. more ∙ now.0 lt), (λ le. more ∙ now.1 le));
    late =
        let all = late (total (λ (u : SeatView). late_draws limits.blocks u.steps) s.views) h.late in
        omega (arith, total_set (λ (u : SeatView). late_draws limits.blocks u.steps) s.views id v w at, total_snoc (drew_late limits.blocks) v.steps made);
    lowest = lowest ∙ ap (λ (n : ℕ). min n (image_posted made)) h.lowest ∙ sym (least_set (λ (u : SeatView). least_posted u.steps) s.views id v w (image_posted made) at (least_snoc image_posted v.steps made));
    found = λ image small often.
        let post_move : total (λ (u : SeatView). posts image u.steps) (slice_set s.views id w) ≡ total (λ (u : SeatView). posts image u.steps) s.views + posted_it image made =
        omega (arith, total_set (λ (u : SeatView). posts image u.steps) s.views id v w at, total_snoc (posted_it image) v.steps made) in
        let seen : total (λ (u : SeatView). finds image u.steps) (slice_set s.views id w) ≡ total (λ (u : SeatView). finds image u.steps) s.views + found_it image made =
        omega (arith, total_set (λ (u : SeatView). finds image u.steps) s.views id v w at, total_snoc (found_it image) v.steps made) in
        ⊎_elim
        (λ t. let before = t.1 in let was = h.found image small (omega arith) in omega arith)
        (λ t.
        let none_before = t.1 in
        let same : image ≡ h.least = least_found image small (omega arith) in
        let least_there : 0 < total (λ (u : SeatView). posts image u.steps) s.views = rw same (least_is_posted limits s h (omega arith)) in
        omega arith)
        (leb_tells 1 (total (λ (u : SeatView). finds image u.steps) s.views));
    each = each_after limits h.next h.least next least s.views id w up (omega arith) (fits_made limits h.next h.least next least v made (h.each id v at) some_part up (omega arith) few below above) h.each;
  }
    where
      w : SeatView
      w = with_step v made

  -- the same where the number of the next block stays
  looked : (made : SeatStep) (words : List ℕ) (least : ℕ) → words ≡ h.next ∷ least ∷ [] → ((b : ℕ) → drew b made ≡ 0) → drew_late limits.blocks made ≡ 0
      → shown_next made ≤ h.next → least ≡ min h.least (image_posted made) → least ≤ shown_least made → FindsLeast h.least made
      → BoardRule limits (record { words = words; homes = s.homes; views = slice_set s.views id (with_step v made) })
  looked made words least are draws_none ends_none below lowest above least_found =
      let fits = (h.each id v at).late in
      moved made words h.next least are
      (λ b times was. let none_drawn = draws_none b in ((λ lt. let one = was.0 lt in omega arith), (λ le. let zero_times = was.1 le in omega arith)))
      (λ times late. omega arith) (omega arith) (omega arith) below lowest above least_found

-- one more number is drawn
counts_draw : (next found : ℕ) → found ≡ next → Counts next (next + 1) (Drew found)
counts_draw next found e b times was =
    ⊎_elim
    (λ t. let hit : bit (eqb found b) ≡ 1 = ap bit t.0 in let here = t.1 in let none_yet = was.1 (omega arith) in ((λ lt. omega arith), (λ le. absurd (omega arith))))
    (λ t. let miss : bit (eqb found b) ≡ 0 = ap bit t.0 in let apart = t.1 in
    ((λ lt. let one = was.0 (lt_of b next (omega arith) (λ same. apart (e ∙ sym same))) in omega arith), (λ le. let zero_times = was.1 (omega arith) in omega arith)))
    (eqb_tells found b)
  where
    lt_of : (b next : ℕ) → b ≤ next → (b ≡ next → ⊥) → b < next
    lt_of b next le apart = omega arith

-- a draw that finds a block is within the blocks, and one that finds none is counted
late_draw : (blocks next found times : ℕ) → found ≡ next → next ≤ blocks + times → next + 1 ≤ blocks + (times + bit (leb blocks found))
late_draw blocks next found times e late =
    ⊎_elim
    (λ t. let hit : bit (leb blocks found) ≡ 1 = ap bit t.0 in omega arith)
    (λ t. let miss : bit (leb blocks found) ≡ 0 = ap bit t.0 in let early = t.1 in omega arith)
    (leb_tells blocks found)

at_most_one : (b : Bool) → bit b ≤ 1
at_most_one true = omega arith
at_most_one false = omega arith

-- the number of the next block is far from where the word wraps
pub few_draws : (limits : BoardLimits) (s : State (Unit {0}) SeatView) (h : BoardRule limits s) → h.next < 8589934592
few_draws limits s h =
    let late = h.late in
    let small = h.small in
    omega (arith, total_at_most (λ (u : SeatView). late_draws limits.blocks u.steps) (λ (u : SeatView). u.parts) s.views (λ j u at. (h.each j u at).late), h.parts)

-- the word of the least image is at most its start
pub least_within : (limits : BoardLimits) (s : State (Unit {0}) SeatView) (h : BoardRule limits s) → h.least ≤ none_posted
least_within limits s h = omega (arith, h.lowest, least_bound (λ (u : SeatView). least_posted u.steps) s.views)

pub draws_as : (limits : BoardLimits) (slots id : ℕ) (v : SeatView) (c : List (ℕ × Unit {0})) (st : Step (Unit {0})) → late_draws limits.blocks v.steps < v.parts
    → Allows (BoardRule limits) slots id (v, c) 0 (λ n. (n + 1) % 2 ^ 64) (draw_move st (v, c))
draws_as limits slots id v c st early s h count at fits =
    let found : slice_index s.words 0 ≡ h.next = ap (λ (ws : List ℕ). slice_index ws 0) h.words in
    let after : (slice_index s.words 0 + 1) % 2 ^ 64 ≡ h.next + 1 = mod-eq_of_lt (omega (arith, few_draws limits s h)) ∙ ap (λ (n : ℕ). n + 1) found in
    let made = Drew (slice_index s.words 0) in
    let below = (h.each id v at).below in (
      with_step v made,
      keeps,
      tt,
      moved limits s h id v at (omega arith) made (slice_set s.words 0 ((slice_index s.words 0 + 1) % 2 ^ 64)) (h.next + 1) h.least
          (λ i. slice_set (h.words i) 0 (after i))
          (counts_draw h.next (slice_index s.words 0) found)
          (λ times late. late_draw limits.blocks h.next (slice_index s.words 0) times found late)
          (omega (arith, at_most_one (leb limits.blocks (slice_index s.words 0))))
          (omega arith) (omega arith) (omega (arith, h.lowest, least_within limits s h)) (omega (arith, h.lowest, least_within limits s h)) (λ image small often. absurd (omega arith)),
      (refl, omega arith),
    )

pub posts_as : (limits : BoardLimits) (slots id : ℕ) (v : SeatView) (c : List (ℕ × Unit {0})) (st : Step (Unit {0})) → 0 < v.parts
    → Allows (BoardRule limits) slots id (v, c) 1 (λ n. min n st.first) (post_move st (v, c))
posts_as limits slots id v c st some_part s h count at fits =
    let found : slice_index s.words 1 ≡ h.least = ap (λ (ws : List ℕ). slice_index ws 1) h.words in
    let after : min (slice_index s.words 1) st.first ≡ min h.least st.first = ap (λ (n : ℕ). min n st.first) found in
    let above = (h.each id v at).above in
    let made = Posted st.first (slice_index s.words 1) in (
      with_step v made,
      keeps,
      tt,
      looked limits s h id v at some_part made (slice_set s.words 1 (min (slice_index s.words 1) st.first)) (min h.least st.first)
          (λ i. slice_set (h.words i) 1 (after i)) (λ b. refl) refl (omega arith) refl (omega arith) (λ image small often. finds_it (slice_index s.words 1) h.least image found often),
      (refl, omega arith),
    )

pub sees_least_as : (limits : BoardLimits) (slots id : ℕ) (v : SeatView) (c : List (ℕ × Unit {0})) (st : Step (Unit {0})) → 0 < v.parts
    → Allows (BoardRule limits) slots id (v, c) 1 (λ n. n) (saw_least st (v, c))
sees_least_as limits slots id v c st some_part s h count at fits =
    let found : slice_index s.words 1 ≡ h.least = ap (λ (ws : List ℕ). slice_index ws 1) h.words in
    let above = (h.each id v at).above in
    let made = SawLeast (slice_index s.words 1) in (
      with_step v made,
      keeps,
      tt,
      looked limits s h id v at some_part made (slice_set s.words 1 (slice_index s.words 1)) h.least
          (λ i. slice_set (h.words i) 1 (slice_index (h.words i) 1)) (λ b. refl) refl (omega arith) (omega (arith, least_within limits s h)) (omega arith) (λ image small often. finds_it (slice_index s.words 1) h.least image found often),
      (refl, omega arith),
    )

pub sees_next_as : (limits : BoardLimits) (slots id : ℕ) (v : SeatView) (c : List (ℕ × Unit {0})) (st : Step (Unit {0})) → 0 < v.parts
    → Allows (BoardRule limits) slots id (v, c) 0 (λ n. n) (saw_next st (v, c))
sees_next_as limits slots id v c st some_part s h count at fits =
    let found : slice_index s.words 0 ≡ h.next = ap (λ (ws : List ℕ). slice_index ws 0) h.words in
    let below = (h.each id v at).below in
    let made = SawNext (slice_index s.words 0) in (
      with_step v made,
      keeps,
      tt,
      looked limits s h id v at some_part made (slice_set s.words 0 (slice_index s.words 0)) h.least
          (λ i. slice_set (h.words i) 0 (slice_index (h.words i) 0)) (λ b. refl) refl (omega arith) (omega (arith, least_within limits s h)) (omega (arith, least_within limits s h)) (λ image small often. absurd (omega arith)),
      (refl, omega arith),
    )

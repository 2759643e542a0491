-- The board rule holds of a new board, and is kept where seats come, where they are joined, and where the last one looks.
use Rattle.std.proofs.Common.{◌≡◌, ℕ, zero, suc, ◌+◌, ◌<◌, ◌≤◌, min, List, [], ◌∷◌, ◌++◌, slice_index, slice_set, sym, refl, ap, ◌∙◌, subst, subst₂, ⊎_elim, arith}
use mathlib.Core.Option.{some, some-injective, some-ne-none}
use lib.ListN.{get_elem?}
use Rattle.atomic_table.specs.Table.{State, Step, Allows, Splits, Joins, Enters, opening, keeps}
use Rattle.atomic_table.proofs.Lists.{at_snoc, set_else, set_again}
use Rattle.shares.specs.declared.view.SeatView.{SeatView}
use Rattle.shares.specs.declared.view.BoardLimits.{BoardLimits}
use Rattle.shares.specs.Steps.{total, least_of, drew, drew_late, image_posted, shown_next, shown_least, draws, late_draws, least_posted, none_posted, posted_it, found_it, posts, finds}
use Rattle.shares.specs.Board.{view_of, DrewBelow, ArePosted, Fits, BoardRule}
use Rattle.shares.specs.Moves.{first_view, newcomer, one_part, less_one, joint_view, enter_move, learned_next, learned_least}
use Rattle.shares.proofs.Lists.{total_append, total_snoc, total_set, greatest_append, least_bound, least_snoc, least_append, least_set, least_out, least_part, total_alone, least_alone}
use Rattle.shares.proofs.Moves.{each_after, least_within}

-- a seat that made no step fits whatever words
fits_new : (limits : BoardLimits) (next least parts : ℕ) → least ≤ none_posted → Fits limits next least (view_of parts [])
fits_new limits next least parts bound = record { late = omega arith; idle = λ e. refl; below = omega arith; above = bound }

pub begins : (limits : BoardLimits) → limits.blocks + limits.seats < 8589934592 → BoardRule limits (opening (0 ∷ none_posted ∷ []) [] (first_view limits))
begins limits small = record {
  next = 0;
  least = none_posted;
  words = refl;
  small = small;
  parts = omega arith;
  once = λ b. ((λ lt. absurd (omega arith)), (λ le. refl));
  late = omega arith;
  lowest = refl;
  found = λ image small often. absurd (omega arith);
  each = only;
}
  where
    only : (j : ℕ) (v : SeatView) → get_elem? (first_view limits ∷ []) j ≡ some v → Fits limits 0 none_posted v
    only zero v at = subst (Fits limits 0 none_posted) (some-injective (first_view limits) v at) (fits_new limits 0 none_posted limits.seats (omega arith))
    only (suc j) v at = absurd (some-ne-none v (sym at))

-- a seat comes that made no step, where the others know together what they knew
module _ (limits : BoardLimits) (s : State (Unit {0}) SeatView) (h : BoardRule limits s) (parts : ℕ) (views : List SeatView) where
  comes : total (λ (u : SeatView). u.parts) views + parts ≡ limits.seats
      → ((b : ℕ) → total (λ (u : SeatView). draws b u.steps) views ≡ total (λ (u : SeatView). draws b u.steps) s.views)
      → total (λ (u : SeatView). late_draws limits.blocks u.steps) views ≡ total (λ (u : SeatView). late_draws limits.blocks u.steps) s.views
      → least_of (λ (u : SeatView). least_posted u.steps) views ≡ least_of (λ (u : SeatView). least_posted u.steps) s.views
      → ((i : ℕ) → total (λ (u : SeatView). finds i u.steps) views ≡ total (λ (u : SeatView). finds i u.steps) s.views)
      → ((i : ℕ) → total (λ (u : SeatView). posts i u.steps) views ≡ total (λ (u : SeatView). posts i u.steps) s.views)
      → ((j : ℕ) (u : SeatView) → get_elem? views j ≡ some u → Fits limits h.next h.least u)
      → BoardRule limits (record { words = s.words; homes = s.homes; views = views ++ view_of parts [] ∷ [] })
  comes seats same_draws same_late same_least same_finds same_posts each = record {
    next = h.next;
    least = h.least;
    words = h.words;
    small = h.small;
    parts = omega (arith, total_snoc (λ (u : SeatView). u.parts) views new, seats);
    once = λ b.
        let same : total (λ (u : SeatView). draws b u.steps) (views ++ new ∷ []) ≡ total (λ (u : SeatView). draws b u.steps) s.views =
        omega (arith, total_snoc (λ (u : SeatView). draws b u.steps) views new, same_draws b) in
        let was = h.once b in
        ((λ lt. same ∙ was.0 lt), (λ le. same ∙ was.1 le));
    late = omega (arith, total_snoc (λ (u : SeatView). late_draws limits.blocks u.steps) views new, same_late, h.late);
    lowest = omega (arith, least_snoc (λ (u : SeatView). least_posted u.steps) views new, same_least, h.lowest, least_within limits s h);
    found = λ image small often.
        let before : 0 < total (λ (u : SeatView). finds image u.steps) s.views = omega (arith, total_snoc (λ (u : SeatView). finds image u.steps) views new, same_finds image) in
        let was = h.found image small before in
        omega (arith, total_snoc (λ (u : SeatView). posts image u.steps) views new, same_posts image);
    each = λ j u at. ⊎_elim (each j u) (λ e. subst (Fits limits h.next h.least) e (fits_new limits h.next h.least parts (least_within limits s h))) (at_snoc views new u j at);
  }
    where
      new : SeatView
      new = view_of parts []

pub enters : (limits : BoardLimits) (slots : ℕ) (st : Step (Unit {0})) (c : SeatView × List (ℕ × Unit {0})) → Enters (BoardRule limits) slots 0 (λ n w. enter_move st c n (w, []))
enters limits slots st c s h count fits = (newcomer, comes limits s h 0 s.views (omega (arith, h.parts)) (λ b. refl) refl refl (λ i. refl) (λ i. refl) h.each, refl)

pub gives : (limits : BoardLimits) (id : ℕ) (v : SeatView) → v.steps ≡ [] → 0 < v.parts → Splits (BoardRule limits) id v (less_one v) one_part
gives limits id v no_step some_part s h at = comes limits s h 1 (slice_set s.views id (less_one v))
    (omega (arith, total_set (λ (u : SeatView). u.parts) s.views id v (less_one v) at, h.parts))
    (λ b. omega (arith, total_set (λ (u : SeatView). draws b u.steps) s.views id v (less_one v) at))
    (omega (arith, total_set (λ (u : SeatView). late_draws limits.blocks u.steps) s.views id v (less_one v) at))
    (omega (arith, least_set (λ (u : SeatView). least_posted u.steps) s.views id v (less_one v) none_posted at (omega (arith, least_bound image_posted v.steps)), least_bound (λ (u : SeatView). least_posted u.steps) s.views))
    (λ i. omega (arith, total_set (λ (u : SeatView). finds i u.steps) s.views id v (less_one v) at))
    (λ i. omega (arith, total_set (λ (u : SeatView). posts i u.steps) s.views id v (less_one v) at))
    (each_after limits h.next h.least h.next h.least s.views id (less_one v) (omega arith) (omega arith) fewer h.each)
  where
    none_late : late_draws limits.blocks v.steps ≡ 0
    none_late = ap (late_draws limits.blocks) no_step

    fewer : Fits limits h.next h.least (less_one v)
    fewer = record { late = omega (arith, none_late); idle = λ e. no_step; below = (h.each id v at).below; above = (h.each id v at).above }

-- the element that was put at a place is there
here : (xs : List SeatView) (i : ℕ) (a b : SeatView) → get_elem? xs i ≡ some b → get_elem? (slice_set xs i a) i ≡ some a
here [] i a b at = absurd (some-ne-none b (sym at))
here (x ∷ xs) zero a b at = refl
here (x ∷ xs) (suc i) a b at = here xs i a b at

-- a seat takes in what another knows, which is left with nothing
pub takes_in : (limits : BoardLimits) (id : ℕ) (v : SeatView) (other : ℕ) (w : SeatView) → Joins (BoardRule limits) id v other w (joint_view v w) newcomer
takes_in limits id v other w s h at apart at_other = record {
  next = h.next;
  least = h.least;
  words = h.words;
  small = h.small;
  parts = omega (arith, twice (λ (u : SeatView). u.parts), h.parts);
  once = λ b.
      let same : total (λ (u : SeatView). draws b u.steps) after ≡ total (λ (u : SeatView). draws b u.steps) s.views =
      omega (arith, twice (λ (u : SeatView). draws b u.steps), total_append (drew b) v.steps w.steps) in
      let was = h.once b in
      ((λ lt. same ∙ was.0 lt), (λ le. same ∙ was.1 le));
  late = omega (arith, twice (λ (u : SeatView). late_draws limits.blocks u.steps), total_append (drew_late limits.blocks) v.steps w.steps, h.late);
  lowest = h.lowest ∙ sym same_least;
  found = λ image small often.
      let found : total (λ (u : SeatView). finds image u.steps) after ≡ total (λ (u : SeatView). finds image u.steps) s.views =
      omega (arith, twice (λ (u : SeatView). finds image u.steps), total_append (found_it image) v.steps w.steps) in
      let posted : total (λ (u : SeatView). posts image u.steps) after ≡ total (λ (u : SeatView). posts image u.steps) s.views =
      omega (arith, twice (λ (u : SeatView). posts image u.steps), total_append (posted_it image) v.steps w.steps) in
      let was = h.found image small (omega arith) in
      omega arith;
  each = each_after limits h.next h.least h.next h.least one_set other newcomer (omega arith) (omega arith) (fits_new limits h.next h.least 0 (least_within limits s h))
      (each_after limits h.next h.least h.next h.least s.views id both (omega arith) (omega arith) fits_both h.each);
}
  where
    both : SeatView
    both = joint_view v w

    one_set : List SeatView
    one_set = slice_set s.views id both

    after : List SeatView
    after = slice_set one_set other newcomer

    was_there : get_elem? s.views other ≡ some w
    was_there = sym (set_else s.views id other both apart) ∙ at_other

    twice : (f : SeatView → ℕ) → total f after + f w + f v ≡ total f s.views + f both + f newcomer
    twice f = omega (arith, total_set f s.views id v both at, total_set f one_set other w newcomer at_other)

    posted_by_both : least_posted both.steps ≡ min (least_posted v.steps) (least_posted w.steps)
    posted_by_both = least_append image_posted v.steps w.steps

    same_least : least_of (λ (u : SeatView). least_posted u.steps) after ≡ least_of (λ (u : SeatView). least_posted u.steps) s.views
    same_least = omega (
      arith,
      least_set (λ (u : SeatView). least_posted u.steps) s.views id v both (least_posted w.steps) at posted_by_both,
      least_part (λ (u : SeatView). least_posted u.steps) s.views other w was_there,
      least_out (λ (u : SeatView). least_posted u.steps) one_set id other both w newcomer (here s.views id both v at) at_other (λ e. apart (sym e)) (omega (arith, posted_by_both)) refl,
    )

    fits_both : Fits limits h.next h.least both
    fits_both =
        let mine = h.each id v at in
        let others = h.each other w was_there in
        record {
          late = omega (arith, mine.late, others.late, total_append (drew_late limits.blocks) v.steps w.steps);
          idle = λ none_left. λ i. mine.idle (omega arith) i ++ others.idle (omega arith) i;
          below = omega (arith, mine.below, others.below, greatest_append shown_next v.steps w.steps);
          above = omega (arith, mine.above, others.above, least_append shown_least v.steps w.steps);
        }

-- nothing changes where the seat that looks keeps its view
same_rule : (limits : BoardLimits) (s : State (Unit {0}) SeatView) (words : List ℕ) (views : List SeatView) → words ≡ s.words → views ≡ s.views → BoardRule limits s
    → BoardRule limits (record { words = words; homes = s.homes; views = views })
same_rule limits s words views same_words same_views h = subst₂ (λ ws vs. BoardRule limits (record { words = ws; homes = s.homes; views = vs })) (sym same_words) (sym same_views) h

module _ (limits : BoardLimits) (slots id : ℕ) (v : SeatView) (c : List (ℕ × Unit {0})) (st : Step (Unit {0})) (all : limits.seats ≤ v.parts) where
  -- who has every part knows how often each number was drawn
  all_draws : (s : State (Unit {0}) SeatView) (h : BoardRule limits s) → get_elem? s.views id ≡ some v → DrewBelow h.next (λ b. draws b v.steps)
  all_draws s h at b =
      let mine : total (λ (u : SeatView). draws b u.steps) s.views ≡ draws b v.steps =
      total_alone (λ (u : SeatView). u.parts) (λ (u : SeatView). draws b u.steps) s.views id v at (omega (arith, h.parts)) (λ i u there none_left. ap (draws b) ((h.each i u there).idle none_left)) in
      let was = h.once b in
      ((λ lt. sym mine ∙ was.0 lt), (λ le. sym mine ∙ was.1 le))

  -- and that each image that it found as the least is one that it posted
  all_found : (s : State (Unit {0}) SeatView) (h : BoardRule limits s) → get_elem? s.views id ≡ some v → ArePosted (λ i. finds i v.steps) (λ i. posts i v.steps)
  all_found s h at i small often =
      let found : total (λ (u : SeatView). finds i u.steps) s.views ≡ finds i v.steps =
      total_alone (λ (u : SeatView). u.parts) (λ (u : SeatView). finds i u.steps) s.views id v at (omega (arith, h.parts)) (λ j u there none_left. ap (finds i) ((h.each j u there).idle none_left)) in
      let posted : total (λ (u : SeatView). posts i u.steps) s.views ≡ posts i v.steps =
      total_alone (λ (u : SeatView). u.parts) (λ (u : SeatView). posts i u.steps) s.views id v at (omega (arith, h.parts)) (λ j u there none_left. ap (posts i) ((h.each j u there).idle none_left)) in
      let was = h.found i small (omega arith) in
      omega arith

  pub learns_next : Allows (BoardRule limits) slots id (v, c) 0 (λ n. n) (learned_next st (v, c))
  learns_next s h count at fits =
      let found : slice_index s.words 0 ≡ h.next = ap (λ (ws : List ℕ). slice_index ws 0) h.words in (
        v,
        keeps,
        tt,
        same_rule limits s (slice_set s.words 0 (slice_index s.words 0)) (slice_set s.views id v) ((λ i. slice_set (h.words i) 0 (slice_index (h.words i) 0)) ∙ sym h.words) (set_again s.views id v at) h,
        (refl, subst (λ n. DrewBelow n (λ b. draws b v.steps)) (sym found) (all_draws s h at), let below = (h.each id v at).below in omega arith),
      )

  pub learns_least : Allows (BoardRule limits) slots id (v, c) 1 (λ n. n) (learned_least st (v, c))
  learns_least s h count at fits =
      let found : slice_index s.words 1 ≡ h.least = ap (λ (ws : List ℕ). slice_index ws 1) h.words in
      let mine = least_alone (λ (u : SeatView). u.parts) (λ (u : SeatView). least_posted u.steps) s.views id v at (omega (arith, h.parts)) (least_bound image_posted v.steps)
      (λ i u there none_left. ap least_posted ((h.each i u there).idle none_left)) in (
        v,
        keeps,
        tt,
        same_rule limits s (slice_set s.words 1 (slice_index s.words 1)) (slice_set s.views id v) ((λ i. slice_set (h.words i) 1 (slice_index (h.words i) 1)) ∙ sym h.words) (set_again s.views id v at) h,
        (refl, found ∙ h.lowest ∙ mine, let above = (h.each id v at).above in omega arith, all_found s h at),
      )

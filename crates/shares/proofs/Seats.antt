-- What a seat keeps over its steps, and what the seats know together.
use Rattle.std.proofs.Common.{◌≡◌, ℕ, zero, suc, ◌+◌, ◌-◌, ◌<◌, ◌≤◌, ◌==◌, leb, eqb, Bool, true, false, if◌then◌else◌, List, [], ◌∷◌, ◌++◌, length, filter, All, Option, None, Some, Result, Ok, Err, IfOk, IfErr, slice_get, sym, refl, ap, ◌∙◌, subst, ⊎_elim, append-nil, length-append, arith}
use Rattle.std.specs.List.{cons_option, filter_map}
use Rattle.std.proofs.lemmas.Bool.Decides.{leb_tells, eqb_tells, nat_tests}
use Rattle.std.proofs.lemmas.List.Concat.{flat_map-append}
use Rattle.std.proofs.lemmas.List.Elements.{filter-append, filter_map-append}
use Rattle.std.proofs.lemmas.Option.{get_or_from_slice_get, slice_get_within}
use Rattle.base.proofs.Lists.{slice_get-append_right}
use Rattle.atomic_table.specs.Table.{Me}
use Rattle.shares.specs.declared.view.SeatStep.{SeatStep}
use Rattle.shares.specs.declared.view.SeatView.{SeatView}
use Rattle.shares.specs.declared.view.SeatStep.TheVariants.{Drew, Posted, SawLeast, SawNext}
use Rattle.shares.specs.Steps.{bit, drew, drew_late, late_draws, draws, shown_next, shown_least, next_seen, least_seen}
use Rattle.shares.specs.Board.{view_of, with_step, DrewBelow}
use Rattle.shares.specs.Moves.{joint_view}
use Rattle.shares.specs.Seats.{BoardName, SeatValue, all_steps, took, taken_blocks, all_taken, times, IsFirstUndrawn, AreDrawnOnce, AreTakenOnce}
use Rattle.shares.proofs.Lists.{total_snoc, total_append, total_parts, greatest_append, least_append}

-- a seat's token after one step
pub after_step : (blocks : ℕ) (made : SeatStep) (me after : Me (Unit {0}) SeatView) (ended now_ended : ℕ) → (me.1 ≡ []) × (me.0.parts ≡ 1) × (late_draws blocks me.0.steps ≡ ended)
    → after ≡ (with_step me.0 made, me.1) → ended + drew_late blocks made ≡ now_ended → (after.1 ≡ []) × (after.0.parts ≡ 1) × (late_draws blocks after.0.steps ≡ now_ended)
after_step blocks made me after ended now_ended own e count =
    let late : late_draws blocks me.0.steps ≡ ended = own.2 in
    let counted : late_draws blocks (me.0.steps ++ made ∷ []) ≡ now_ended = omega (arith, total_snoc (drew_late blocks) me.0.steps made) in
    (ap (λ m. m.1) e ∙ own.0, ap (λ m. m.0.parts) e ∙ own.1, ap (λ m. late_draws blocks m.0.steps) e ∙ counted)

pub in_time : (blocks found : ℕ) → found < blocks → bit (leb blocks found) ≡ 0
in_time blocks found early = ⊎_elim (λ t. let late = t.1 in absurd (omega arith)) (λ t. ap bit t.0) (leb_tells blocks found)

pub too_late : (blocks found : ℕ) → blocks ≤ found → bit (leb blocks found) ≡ 1
too_late blocks found late = ⊎_elim (λ t. ap bit t.0) (λ t. let early = t.1 in absurd (omega arith)) (leb_tells blocks found)

-- what holds of all elements holds of one in the middle
pub all_middle : {X : Type 0} (P : X → Type 0) (xs ys all : List X) (x : X) → xs ++ x ∷ ys ≡ all → All P all → P x
all_middle P xs ys all x e h =
    let z : length xs + 0 ≡ length xs = omega arith in
    let there : slice_get (xs ++ x ∷ ys) (length xs) ≡ Some x = rw (← z) (slice_get-append_right xs (x ∷ ys) 0) in
    let at : slice_get all (length xs) ≡ Some x = rw (← e) there in
    subst P (get_or_from_slice_get all (length xs) x x at) (h (length xs) x (slice_get_within all (length xs) x at))

-- the seat that takes in one more of those seats
pub takes_next : (taken_blocks : List SeatValue) (seat : SeatValue) (me token after : Me (Unit {0}) SeatView) → me ≡ (view_of (length taken_blocks) (all_steps taken_blocks), []) → token.0.parts ≡ 1 → token.0.steps ≡ seat.steps
    → after ≡ (joint_view me.0 token.0, me.1) → after ≡ (view_of (length (taken_blocks ++ seat ∷ [])) (all_steps (taken_blocks ++ seat ∷ [])), [])
takes_next taken_blocks seat me token after known_so_far one_part same_steps e =
    let parts : length taken_blocks + token.0.parts ≡ length (taken_blocks ++ seat ∷ []) = omega (arith, length-append taken_blocks (seat ∷ [])) in
    let steps : all_steps taken_blocks ++ token.0.steps ≡ all_steps (taken_blocks ++ seat ∷ []) =
    ap (λ (s : List SeatStep). all_steps taken_blocks ++ s) (same_steps ∙ sym (append-nil seat.steps)) ∙ sym (flat_map-append (λ (s : SeatValue). s.steps) taken_blocks (seat ∷ [])) in
    e ∙ ap (λ (m : Me (Unit {0}) SeatView). (joint_view m.0 token.0, m.1)) known_so_far ∙ (λ i. (view_of (parts i) (steps i), []))

pub first_undrawn : (blocks next : ℕ) (steps : List SeatStep) → next < blocks → DrewBelow next (λ b. draws b steps) → IsFirstUndrawn blocks steps next
first_undrawn blocks next steps lt drew_below = record { there = lt; undrawn = (drew_below next).1 (omega arith); before = λ b below. (drew_below b).0 below }

pub all_drawn : (blocks next : ℕ) (steps : List SeatStep) → blocks ≤ next → DrewBelow next (λ b. draws b steps) → AreDrawnOnce blocks steps
all_drawn blocks next steps le drew_below = record { once = λ b lt. (drew_below b).0 (omega arith) }

-- the steps that found none of those blocks left: those that drew the next number, and the others
late_draws_from : (blocks : ℕ) (steps : List SeatStep) → late_draws blocks steps ≡ late_draws (blocks + 1) steps + draws blocks steps
late_draws_from blocks steps = total_parts (drew_late blocks) (drew_late (blocks + 1)) (drew blocks) one steps
  where
    one : (made : SeatStep) → drew_late blocks made ≡ drew_late (blocks + 1) made + drew blocks made
    one (Drew found) = grind (arith, nat_tests)
    one _ = refl

-- where that many numbers past the blocks were drawn, that many draws found none left
late_numbers : (more blocks : ℕ) (steps : List SeatStep) → ((b : ℕ) → b < blocks + more → draws b steps ≡ 1) → more ≤ late_draws blocks steps
late_numbers zero blocks steps once = omega arith
late_numbers (suc more) blocks steps once =
    let here : draws blocks steps ≡ 1 = once blocks (omega arith) in
    let beyond = late_numbers more (blocks + 1) steps (λ b lt. once b (omega arith)) in
    omega (arith, late_draws_from blocks steps)

pub seen_within : (blocks next : ℕ) (steps : List SeatStep) → blocks ≤ next → DrewBelow next (λ b. draws b steps) → next_seen steps ≤ next → next_seen steps ≤ blocks + late_draws blocks steps
seen_within blocks next steps le drew_below seen = omega (arith, late_numbers (next - blocks) blocks steps (λ b lt. (drew_below b).0 (omega arith)))

-- what a seat saw is among what all saw
pub seen_by_one : (seats : List SeatValue) (i : ℕ) (seat : SeatValue) → slice_get seats i ≡ Some seat → (next_seen seat.steps ≤ next_seen (all_steps seats)) × (least_seen (all_steps seats) ≤ least_seen seat.steps)
seen_by_one [] i seat at = absurd (let bad : None ≡ Some seat = at in cc)
seen_by_one (s ∷ seats) zero seat at =
    let same : s ≡ seat = some_same at in
    let next = greatest_append shown_next s.steps (all_steps seats) in
    let least = least_append shown_least s.steps (all_steps seats) in
    let next_is = ap (λ (k : SeatValue). next_seen k.steps) same in
    let least_is = ap (λ (k : SeatValue). least_seen k.steps) same in
    (omega arith, omega arith)
  where
    some_same : Some s ≡ Some seat → s ≡ seat
    some_same e = cc
seen_by_one (s ∷ seats) (suc i) seat at =
    let here = seen_by_one seats i seat at in
    let next = greatest_append shown_next s.steps (all_steps seats) in
    let least = least_append shown_least s.steps (all_steps seats) in
    (omega (arith, here.0), omega (arith, here.1))

-- the blocks that were taken

took_block : (blocks found : ℕ) → found < blocks → took blocks (Drew found) ≡ Some found
took_block blocks found early = rw (in_time_test blocks found early) refl
  where
    in_time_test : (blocks found : ℕ) → found < blocks → leb blocks found ≡ false
    in_time_test blocks found early = grind (arith, nat_tests)

took_none : (blocks found : ℕ) → blocks ≤ found → took blocks (Drew found) ≡ None
took_none blocks found late = rw (too_late_test blocks found late) refl
  where
    too_late_test : (blocks found : ℕ) → blocks ≤ found → leb blocks found ≡ true
    too_late_test blocks found late = grind (arith, nat_tests)

-- a draw takes its block
pub takes_block : (blocks found : ℕ) (before after : List SeatStep) → after ≡ before ++ Drew found ∷ [] → found < blocks → filter_map (took blocks) after ≡ filter_map (took blocks) before ++ found ∷ []
takes_block blocks found before after e early =
    ap (filter_map (took blocks)) e ∙ filter_map-append (took blocks) before (Drew found ∷ [])
    ∙ ap (λ (o : Option ℕ). filter_map (took blocks) before ++ cons_option o []) (took_block blocks found early)

-- any other step takes none
pub takes_none : (blocks : ℕ) (made : SeatStep) (before after : List SeatStep) → after ≡ before ++ made ∷ [] → took blocks made ≡ None → filter_map (took blocks) after ≡ filter_map (took blocks) before
takes_none blocks made before after e none_took =
    ap (filter_map (took blocks)) e ∙ filter_map-append (took blocks) before (made ∷ [])
    ∙ ap (λ (o : Option ℕ). filter_map (took blocks) before ++ cons_option o []) none_took ∙ append-nil (filter_map (took blocks) before)

pub draw_takes_none : (blocks found : ℕ) (before after : List SeatStep) → after ≡ before ++ Drew found ∷ [] → blocks ≤ found → filter_map (took blocks) after ≡ filter_map (took blocks) before
draw_takes_none blocks found before after e late = takes_none blocks (Drew found) before after e (took_none blocks found late)

pub has_ended : (blocks found : ℕ) (before after : List SeatStep) → after ≡ before ++ Drew found ∷ [] → blocks ≤ found → 0 < late_draws blocks after
has_ended blocks found before after e late =
    let one = too_late blocks found late in
    let same = ap (late_draws blocks) e in
    omega (arith, total_snoc (drew_late blocks) before (Drew found))

-- a block was taken as often as it was drawn

times_cons : (b found : ℕ) (ns : List ℕ) → times b (found ∷ ns) ≡ bit (eqb found b) + times b ns
times_cons b found ns = step (found == b)
  where
    step : (t : Bool) → length (if t then found ∷ filter (λ (m : ℕ). m == b) ns else filter (λ (m : ℕ). m == b) ns) ≡ bit t + times b ns
    step true = omega arith
    step false = omega arith

pub times_append : (b : ℕ) (xs ys : List ℕ) → times b (xs ++ ys) ≡ times b xs + times b ys
times_append b xs ys = ap length (filter-append (λ (m : ℕ). m == b) xs ys) ∙ length-append (filter (λ (m : ℕ). m == b) xs) (filter (λ (m : ℕ). m == b) ys)

taken_as_drawn : (blocks b : ℕ) (steps : List SeatStep) → b < blocks → times b (filter_map (took blocks) steps) ≡ draws b steps
taken_as_drawn blocks b [] lt = refl
taken_as_drawn blocks b (Drew found ∷ steps) lt = ⊎_elim
    (λ t.
    let late = t.1 in
    let none_took : took blocks (Drew found) ≡ None = took_none blocks found late in
    let same : times b (filter_map (took blocks) (Drew found ∷ steps)) ≡ times b (filter_map (took blocks) steps) = ap (λ (o : Option ℕ). times b (cons_option o (filter_map (took blocks) steps))) none_took in
    let apart : bit (eqb found b) ≡ 0 = ⊎_elim (λ u. let here = u.1 in absurd (omega arith)) (λ u. ap bit u.0) (eqb_tells found b) in
    let rest = taken_as_drawn blocks b steps lt in
    omega arith)
    (λ t.
    let early = t.1 in
    let one_took : took blocks (Drew found) ≡ Some found = took_block blocks found early in
    let same : times b (filter_map (took blocks) (Drew found ∷ steps)) ≡ times b (found ∷ filter_map (took blocks) steps) = ap (λ (o : Option ℕ). times b (cons_option o (filter_map (took blocks) steps))) one_took in
    let more = times_cons b found (filter_map (took blocks) steps) in
    let rest = taken_as_drawn blocks b steps lt in
    omega arith)
    (leb_tells blocks found)
taken_as_drawn blocks b (Posted image found ∷ steps) lt = let rest = taken_as_drawn blocks b steps lt in omega arith
taken_as_drawn blocks b (SawLeast found ∷ steps) lt = let rest = taken_as_drawn blocks b steps lt in omega arith
taken_as_drawn blocks b (SawNext found ∷ steps) lt = let rest = taken_as_drawn blocks b steps lt in omega arith

all_as_drawn : (board : BoardName) (b : ℕ) (seats : List SeatValue) → b < board.blocks → All (λ (s : SeatValue). s.board ≡ board) seats → times b (all_taken seats) ≡ draws b (all_steps seats)
all_as_drawn board b [] lt own = refl
all_as_drawn board b (seat ∷ seats) lt own =
    let here : seat.board ≡ board = own 0 seat (omega arith) in
    let first : times b (taken_blocks seat) ≡ draws b seat.steps = ap (λ (n : BoardName). times b (filter_map (took n.blocks) seat.steps)) here ∙ taken_as_drawn board.blocks b seat.steps lt in
    let rest = all_as_drawn board b seats lt (λ i d within. own (suc i) d (omega (arith, within))) in
    omega (arith, times_append b (taken_blocks seat) (all_taken seats), total_append (drew b) seat.steps (all_steps seats))

pub all_taken_once : (board : BoardName) (seats : List SeatValue) → All (λ (s : SeatValue). s.board ≡ board) seats → AreDrawnOnce board.blocks (all_steps seats) → AreTakenOnce board.blocks seats
all_taken_once board seats own drawn_once = record { once = λ b lt. all_as_drawn board b seats lt own ∙ drawn_once.once b lt }

-- who found no block left has seen more blocks drawn than there are
seen_past : (blocks : ℕ) (steps : List SeatStep) → 0 < late_draws blocks steps → blocks < next_seen steps
seen_past blocks [] h = absurd (omega arith)
seen_past blocks (Drew found ∷ steps) h = ⊎_elim
    (λ t. let late = t.1 in omega arith)
    (λ t. let none_late : bit (leb blocks found) ≡ 0 = ap bit t.0 in let rest = seen_past blocks steps (omega arith) in omega arith)
    (leb_tells blocks found)
seen_past blocks (Posted image found ∷ steps) h = let rest = seen_past blocks steps (omega arith) in omega arith
seen_past blocks (SawLeast found ∷ steps) h = let rest = seen_past blocks steps (omega arith) in omega arith
seen_past blocks (SawNext found ∷ steps) h = let rest = seen_past blocks steps (omega arith) in omega arith

pub none_ended : (blocks at : ℕ) (steps : List SeatStep) → at < blocks → next_seen steps ≤ at → late_draws blocks steps ≡ 0
none_ended blocks at steps lt seen = ⊎_elim
    (λ t. let some_late = t.1 in let past = seen_past blocks steps (omega arith) in absurd (omega arith))
    (λ t. let few = t.1 in omega arith)
    (leb_tells 1 (late_draws blocks steps))

-- clauses of an answer lead to others
pub ok_then : {T E : Type 0} (r : Result T E) (A C : T → Type 0) → IfOk r A → ((x : T) → A x → C x) → IfOk r C
ok_then (Ok x) A C a f = f x a
ok_then (Err e) A C a f = tt

pub err_both : {T E : Type 0} (r : Result T E) (A B C : E → Type 0) → IfErr r A → IfErr r B → ((x : E) → A x → B x → C x) → IfErr r C
err_both (Ok x) A B C a b f = tt
err_both (Err e) A B C a b f = f e a b

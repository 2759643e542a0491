-- When all workers are back.
use Rattle.std.proofs.Common.{ℕ, zero, suc, ◌≡◌, ◌+◌, ◌<◌, ◌≤◌, Bool, true, false, ◌||◌, ⊎_elim, List, [], ◌∷◌, ◌++◌, length, map, flat_map, All, Result, Ok, Err, IfOk, is_ok, Some, slice_get, refl, sym, ◌∙◌, ap, subst, arith, append-nil}
use Rattle.std.proofs.lemmas.Grind.{flat_map-append}
use mathlib.Core.List.{reverse, reverse-append}
use lib.ListN.{length-reverse}
use Rattle.std.proofs.lemmas.List.{length-map, map-append}
use Rattle.shares.specs.Steps.{total, late_draws, drew_late}
use Rattle.shares.specs.Seats.{BoardName, BoardValue, SeatValue, HasEnded, all_steps, all_taken, taken_blocks, times}
use Rattle.shares.specs.declared.deque.Phase.TheVariants.{Refused}
use Rattle.shares.specs.Hands.{HandPlace, HandValue, IsEmptyHand, IsShut, AreLeft, is_refused, some_refused}
use Rattle.shares.proofs.Lists.{total_append}
use Rattle.shares.proofs.Seats.{times_append}
use Rattle.workers.specs.declared.crew.Done.{Done}
use Rattle.workers.specs.declared.crew.WorkerStart.{WorkerStart}
use Rattle.workers.specs.Failing.{Subject}
use Rattle.workers.specs.Pieces.{PieceValue, block_count, pieces_at}
use Rattle.workers.specs.Taking.{HandsOver, HasTaken, IsSettled}
use Rattle.workers.specs.Crew.{HasDone, IsDone, AreDone, items_or_none, pieces_of, AreParted, AreBack}
use Rattle.workers.proofs.HandingOver.{nothing_yet, both}
use Rattle.workers.proofs.Runs.{count_blocks}

module _ {X : Type 0} where
  -- what workers who are done have together
  record AllHand (s : Subject) (board : BoardName) (done : List (Done X)) : Type 0 where
    pub handed : HandsOver s (all_steps (map (λ (d : Done X). d.seat) done)) (flat_map pieces_of done)
    pub ended : length done ≤ late_draws board.blocks (all_steps (map (λ (d : Done X). d.seat) done))
    pub own : All (λ (seat : SeatValue). seat.board ≡ board) (map (λ (d : Done X). d.seat) done)
    pub settled : All IsSettled (map (λ (d : Done X). d.hand) done)
    pub together : (x : ℕ) → pieces_at (flat_map pieces_of done) x + total (λ (h : HandValue). times x h.pushed) (map (λ (d : Done X). d.hand) done) + total (λ (h : HandValue). times x h.list) (map (λ (d : Done X). d.hand) done)
        ≡ times x (all_taken (map (λ (d : Done X). d.seat) done)) + total (λ (h : HandValue). times x h.got) (map (λ (d : Done X). d.hand) done)

all_tail : {X : Type 0} (P : X → Type 0) (x : X) (xs : List X) → All P (x ∷ xs) → All P xs
all_tail P x xs h i d lt = h (suc i) d (omega (arith, lt))

all_cons : {X : Type 0} (P : X → Type 0) (x : X) (xs : List X) → P x → All P xs → All P (x ∷ xs)
all_cons P x xs p h zero d lt = p
all_cons P x xs p h (suc i) d lt = h i d (omega (arith, lt))

pub all_snoc : {X : Type 0} (P : X → Type 0) (xs : List X) (x : X) → All P xs → P x → All P (xs ++ x ∷ [])
all_snoc P [] x h own = all_cons P x [] own (λ i d lt. absurd (omega (arith, lt)))
all_snoc P (y ∷ xs) x h own = all_cons P y (xs ++ x ∷ []) (h 0 y (omega arith)) (all_snoc P xs x (all_tail P y xs h) own)

pub all_front : {X : Type 0} (P : X → Type 0) (xs ys : List X) → All P (xs ++ ys) → All P xs
all_front P [] ys h = λ i d lt. absurd (omega (arith, lt))
all_front P (x ∷ xs) ys h = all_cons P x xs (h 0 x (omega arith)) (all_front P xs ys (all_tail P x (xs ++ ys) h))

pub ok_both : {V E : Type 0} (r : Result V E) (P Q R : V → Type 0) → IfOk r P → IfOk r Q → ((v : V) → P v → Q v → R v) → IfOk r R
ok_both (Ok v) P Q R h g f = f v h g
ok_both (Err e) P Q R h g f = tt

one_ok : {V E : Type 0} (r : Result V E) (P : V → Type 0) (items : V → List PieceValue) (C : List PieceValue → Type 0) → is_ok r ≡ true → IfOk r P → ((v : V) → P v → C (items v)) → C (items_or_none r items)
one_ok (Ok v) P items C ok h f = f v h
one_ok (Err e) P items C ok h f = absurd (let bad : false ≡ true = ok in cc)

pieces_both : (ps qs : List PieceValue) (x : ℕ) → pieces_at (ps ++ qs) x ≡ pieces_at ps x + pieces_at qs x
pieces_both ps qs x =
    let blocks : List PieceValue → List ℕ = λ (rs : List PieceValue). map (λ (r : PieceValue). r.block) rs in
    let both : blocks (ps ++ qs) ≡ blocks ps ++ blocks qs = rw map-append refl in
    omega (arith, count_blocks (ps ++ qs) x, count_blocks ps x, count_blocks qs x, ap (times x) both, times_append x (blocks ps) (blocks qs))

all_hand : {X : Type 0} (s : Subject) (board : BoardName) (done : List (Done X)) → All (HasDone s board) done → All (λ (d : Done X). is_ok d.pieces ≡ true) done → AllHand s board done
all_hand s board [] are ok = record { handed = nothing_yet s; ended = omega arith; own = λ i d lt. absurd (omega (arith, lt)); settled = λ i d lt. absurd (omega (arith, lt)); together = λ x. refl }
all_hand {X} s board (d ∷ done) are ok =
    let first = are 0 d (omega arith) in
    let rest = all_hand s board done (all_tail (HasDone s board) d done are) (all_tail (λ (e : Done X). is_ok e.pieces ≡ true) d done ok) in
    let own : HasTaken s board d.seat d.hand [] (pieces_of d) × HasEnded d.seat × IsSettled d.hand =
    one_ok d.pieces (λ pieces. HasTaken s board d.seat d.hand [] pieces.items × HasEnded d.seat × IsSettled d.hand) (λ pieces. pieces.items)
    (λ ps. HasTaken s board d.seat d.hand [] ps × HasEnded d.seat × IsSettled d.hand) (ok 0 d (omega arith)) first (λ pieces h. h) in
    let late : late_draws d.seat.board.blocks d.seat.steps ≡ late_draws board.blocks d.seat.steps = ap (λ (b : BoardName). late_draws b.blocks d.seat.steps) own.0.board_is in
    record {
      handed = both s d.seat.steps _ (pieces_of d) _ own.0.handed rest.handed;
      ended = omega (arith, own.1, late, rest.ended, total_append (drew_late board.blocks) d.seat.steps (all_steps (map (λ (e : Done X). e.seat) done)));
      own = all_cons (λ (seat : SeatValue). seat.board ≡ board) d.seat _ own.0.board_is rest.own;
      settled = all_cons IsSettled d.hand _ own.2 rest.settled;
      together = λ x. omega (arith, own.0.together x, rest.together x, pieces_both (pieces_of d) (flat_map pieces_of done) x, times_append x (taken_blocks d.seat) (all_taken (map (λ (e : Done X). e.seat) done)));
    }

turned_one : (h : HandValue) (hs : List HandValue) → reverse (h ∷ hs) ≡ reverse hs ++ h ∷ []
turned_one h hs = reverse-append (h ∷ []) hs

total_reverse : (f : HandValue → ℕ) (hs : List HandValue) → total f (reverse hs) ≡ total f hs
total_reverse f [] = refl
total_reverse f (h ∷ hs) = rw (turned_one h hs) (omega (arith, total_append f (reverse hs) (h ∷ []), total_reverse f hs))

-- where the push of a closing mark was refused to none, all hands that are back are shut

either : (a b : Bool) → a || b ≡ false → (a ≡ false) × (b ≡ false)
either false b e = (refl, e)
either true b e = absurd (let bad : true ≡ false = e in cc)

where_none_refused : (hs : List HandValue) → All IsSettled hs → some_refused hs ≡ false → All IsShut hs
where_none_refused [] h e = λ i d lt. absurd (omega (arith, lt))
where_none_refused (x ∷ hs) h e =
    let parts = either (is_refused x.phase) (some_refused hs) e in
    let own : IsShut x = ⊎_elim (λ (shut : IsShut x). shut) (λ (refused : x.phase ≡ Refused). absurd (let bad : false ≡ true = sym parts.0 ∙ ap is_refused refused in cc)) (h 0 x (omega arith)) in
    all_cons IsShut x hs own (where_none_refused hs (all_tail IsSettled x hs h) parts.1)

all_reverse : (hs : List HandValue) → All IsSettled hs → All IsSettled (reverse hs)
all_reverse [] h = h
all_reverse (x ∷ hs) h = subst (All IsSettled) (sym (turned_one x hs)) (all_snoc IsSettled (reverse hs) x (all_reverse hs (all_tail IsSettled x hs h)) (h 0 x (omega arith)))

pub hands_shut : {X : Type 0} (s : Subject) (board : BoardName) (places : List HandPlace) (done : List (Done X)) (seats : List SeatValue) (hands turned : List HandValue) (pieces : List PieceValue)
    → AreDone s board places done → AreParted done seats hands pieces → turned ≡ reverse hands → some_refused turned ≡ false → All IsShut turned
hands_shut {X} s board places done seats hands turned pieces are parts is none =
    let settled = subst (All IsSettled) (sym parts.hands_are) (all_hand s board done are.each parts.all).settled in
    where_none_refused turned (subst (All IsSettled) (sym is) (all_reverse hands settled)) none

-- the seats and the pieces of workers who are all done, and what is left in their hands
pub all_back : {X : Type 0} (s : Subject) (board : BoardValue) (places : List HandPlace) (done : List (Done X)) (seats : List SeatValue) (hands : List HandValue) (pieces : List PieceValue) (left : List ℕ)
    → AreDone s board.name places done → AreParted done seats hands pieces → AreLeft (reverse hands) left → All (λ (b : ℕ). b < block_count s) left
    → board.seats ≡ length done → 0 < length done → board.name.blocks ≡ block_count s → block_count s ≤ 262144 → AreBack s board seats pieces left
all_back {X} s board places done seats hands pieces left are parts rest below count some blocks few =
    let all = all_hand s board.name done are.each parts.all in
    let same : length seats ≡ length done = ap length parts.seats_are ∙ length_map done in
    record {
      own = subst (λ (ss : List SeatValue). All (λ (seat : SeatValue). seat.board ≡ board.name) ss) (sym parts.seats_are) all.own;
      all = omega (arith, same, count);
      blocks = blocks;
      few = few;
      pieces_are = rw (parts.seats_are, parts.pieces_are) all.handed;
      ended = rw parts.seats_are (omega (arith, all.ended, some));
      together = λ x. omega (
        arith,
        all.together x,
        rest.together x,
        ap (λ (ps : List PieceValue). pieces_at ps x) parts.pieces_are,
        ap (λ (ss : List SeatValue). times x (all_taken ss)) parts.seats_are,
        ap (total (λ (h : HandValue). times x h.pushed)) parts.hands_are,
        ap (total (λ (h : HandValue). times x h.list)) parts.hands_are,
        ap (total (λ (h : HandValue). times x h.got)) parts.hands_are,
        total_reverse (λ (h : HandValue). times x h.pushed) hands,
        total_reverse (λ (h : HandValue). times x h.list) hands,
        total_reverse (λ (h : HandValue). times x h.got) hands,
      );
      left_below = below;
    }
  where
    length_map : (ds : List (Done X)) → length (map (λ (d : Done X). d.seat) ds) ≡ length ds
    length_map [] = refl
    length_map (d ∷ ds) = ap suc (length_map ds)

map_reverse : {A B : Type 0} (f : A → B) (xs : List A) → map f (reverse xs) ≡ reverse (map f xs)
map_reverse f [] = refl
map_reverse f (x ∷ xs) = ap (map f) (reverse-append (x ∷ []) xs) ∙ map-append f (reverse xs) (x ∷ []) ∙ ap (λ ys. ys ++ f x ∷ []) (map_reverse f xs) ∙ sym (reverse-append (f x ∷ []) (map f xs))

reverse_twice : {A : Type 0} (xs : List A) → reverse (reverse xs) ≡ xs
reverse_twice [] = refl
reverse_twice (x ∷ xs) = ap reverse (reverse-append (x ∷ []) xs) ∙ reverse-append (reverse xs) (x ∷ []) ∙ ap (λ ys. x ∷ ys) (reverse_twice xs)

hand_places : {X : Type 0} (done : List (Done X)) → map (λ (h : HandValue). h.place) (map (λ (d : Done X). d.hand) done) ≡ map (λ (d : Done X). d.hand.place) done
hand_places [] = refl
hand_places {X} (d ∷ done) = ap (λ ps. d.hand.place ∷ ps) (hand_places done)

-- hands that were given out from the last one on are back in their order
pub places_back : {X : Type 0} (s : Subject) (board : BoardName) (jobs places : List HandPlace) (done : List (Done X)) (seats : List SeatValue) (hands turned : List HandValue) (pieces : List PieceValue)
    → jobs ≡ reverse places → AreDone s board jobs done → AreParted done seats hands pieces → turned ≡ reverse hands → map (λ (h : HandValue). h.place) turned ≡ places
places_back s board jobs places done seats hands turned pieces given are parts is =
    ap (map (λ (h : HandValue). h.place)) is ∙ map_reverse (λ (h : HandValue). h.place) hands ∙ ap (λ hs. reverse (map (λ (h : HandValue). h.place) hs)) parts.hands_are
    ∙ ap reverse (hand_places done ∙ are.places_are ∙ given) ∙ reverse_twice places

-- as many are back as went out
pub done_count : {X : Type 0} (s : Subject) (board : BoardName) (jobs places : List HandPlace) (done : List (Done X)) → jobs ≡ reverse places → AreDone s board jobs done → length done ≡ length places
done_count {X} s board jobs places done given are =
    sym (length-map done (λ (d : Done X). d.hand.place)) ∙ ap length (are.places_are ∙ given) ∙ length-reverse places

-- each job gives what a worker of its hand is done with
pub all_given : {X : Type 0} (s : Subject) (board : BoardName) (jobs : List (WorkerStart X)) (done : List (Done X)) → length done ≡ length jobs
    → ((i : ℕ) (j : WorkerStart X) (d : Done X) → slice_get jobs i ≡ Some j → slice_get done i ≡ Some d → IsDone s board j.hand.place d) → AreDone s board (map (λ (j : WorkerStart X). j.hand.place) jobs) done
all_given s board [] [] same each = record { places_are = refl; each = λ i d lt. absurd (omega (arith, lt)) }
all_given s board [] (d ∷ done) same each = absurd (omega (arith, same))
all_given s board (j ∷ jobs) [] same each = absurd (omega (arith, same))
all_given s board (j ∷ jobs) (d ∷ done) same each =
    let first = each 0 j d refl refl in
    let rest = all_given s board jobs done (omega (arith, same)) (λ i. each (suc i)) in
    record { places_are = (λ i. first.0 i ∷ rest.places_are i); each = all_cons (HasDone s board) d done first.1 rest.each }

-- as the workers are taken one by one

pub one_parted : {X : Type 0} (done : List (Done X)) (d : Done X) (seats : List SeatValue) (hands : List HandValue) (pieces own : List PieceValue) → AreParted done seats hands pieces → is_ok d.pieces ≡ true → pieces_of d ≡ own
    → AreParted (done ++ d ∷ []) (seats ++ d.seat ∷ []) (hands ++ d.hand ∷ []) (pieces ++ own)
one_parted {X} done d seats hands pieces own h ok e = record {
  all = all_snoc (λ (x : Done X). is_ok x.pieces ≡ true) done d h.all ok;
  seats_are = rw (h.seats_are, map-append) refl;
  hands_are = rw (h.hands_are, map-append) refl;
  pieces_are = rw (flat_map-append pieces_of done (d ∷ []), h.pieces_are) (ap (λ (ps : List PieceValue). flat_map pieces_of done ++ ps) (sym (append-nil (pieces_of d) ∙ e)));
}

-- hands are given out from the last one on
pub turned_place : (rest : List HandValue) (hand : HandValue) → reverse (map (λ (h : HandValue). h.place) (rest ++ hand ∷ [])) ≡ hand.place ∷ reverse (map (λ (h : HandValue). h.place) rest)
turned_place rest hand = ap reverse (map-append (λ (h : HandValue). h.place) rest (hand ∷ [])) ∙ reverse-append (map (λ (h : HandValue). h.place) rest) (hand.place ∷ [])

-- a job for each seat, with an empty hand
pub jobs_fresh : {X : Type 0} (name : BoardName) (jobs : List (WorkerStart X)) (seats : List SeatValue) → map (λ (j : WorkerStart X). j.seat) jobs ≡ seats → All (λ (s : SeatValue). (s.board ≡ name) × (s.steps ≡ [])) seats
    → All (λ (j : WorkerStart X). IsEmptyHand j.hand) jobs → All (λ (j : WorkerStart X). (j.seat.board ≡ name) × (j.seat.steps ≡ []) × (IsEmptyHand j.hand)) jobs
jobs_fresh {X} name jobs seats e h empty = over jobs (subst (All (λ (s : SeatValue). (s.board ≡ name) × (s.steps ≡ []))) (sym e) h) empty
  where
    over : (js : List (WorkerStart X)) → All (λ (s : SeatValue). (s.board ≡ name) × (s.steps ≡ [])) (map (λ (j : WorkerStart X). j.seat) js) → All (λ (j : WorkerStart X). IsEmptyHand j.hand) js
        → All (λ (j : WorkerStart X). (j.seat.board ≡ name) × (j.seat.steps ≡ []) × (IsEmptyHand j.hand)) js
    over [] h g = λ i d lt. absurd (omega (arith, lt))
    over (j ∷ js) h g = all_cons (λ (k : WorkerStart X). (k.seat.board ≡ name) × (k.seat.steps ≡ []) × (IsEmptyHand k.hand)) j js
        ((h 0 j.seat (omega arith)).0, (h 0 j.seat (omega arith)).1, g 0 j (omega arith))
        (over js (all_tail (λ (s : SeatValue). (s.board ≡ name) × (s.steps ≡ [])) j.seat (map (λ (k : WorkerStart X). k.seat) js) h) (all_tail (λ (k : WorkerStart X). IsEmptyHand k.hand) j js g))

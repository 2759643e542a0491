-- What the workers of a run come back with.
use Rattle.std.specs.Prelude.{ℕ, ◌≡◌, ◌+◌, ◌<◌, ◌≤◌, true, List, [], map, length, flat_map, All, Result, Ok, Err, IfOk, is_ok}
use Rattle.shares.specs.Steps.{late_draws}
use Rattle.shares.specs.Seats.{BoardName, BoardValue, SeatValue, HasEnded, all_steps, all_taken, times}
use Rattle.shares.specs.Hands.{HandPlace, HandValue}
use Rattle.workers.specs.declared.crew.Done.{Done}
use Rattle.workers.specs.Failing.{Subject}
use Rattle.workers.specs.Pieces.{PieceValue, block_count, pieces_at}
use Rattle.workers.specs.Taking.{HandsOver, HasTaken, IsSettled}

-- a worker that found memory is back from that board with its pieces, found no block left, and has closed its hand
abbrev pub HasDone : {X : Type 0} → Subject → BoardName → Done X → Type 0
HasDone s board d = IfOk d.pieces (λ pieces. HasTaken s board d.seat d.hand [] pieces.items × HasEnded d.seat × IsSettled d.hand)

-- it is back with the hand of that place
abbrev pub IsDone : {X : Type 0} → Subject → BoardName → HandPlace → Done X → Type 0
IsDone s board place d = (d.hand.place ≡ place) × HasDone s board d

-- all are back, with the hands of those places
pub record AreDone {X : Type 0} (s : Subject) (board : BoardName) (places : List HandPlace) (done : List (Done X)) : Type 0 where
  pub places_are : map (λ (d : Done X). d.hand.place) done ≡ places
  pub each : All (HasDone s board) done

abbrev pub items_or_none : {V E : Type 0} → Result V E → (V → List PieceValue) → List PieceValue
items_or_none (Ok pieces) items = items pieces
items_or_none (Err e) items = []

abbrev pub pieces_of : {X : Type 0} → Done X → List PieceValue
pieces_of d = items_or_none d.pieces (λ pieces. pieces.items)

-- every worker found memory; these are their seats, their hands, and all their pieces
pub record AreParted {X : Type 0} (done : List (Done X)) (seats : List SeatValue) (hands : List HandValue) (pieces : List PieceValue) : Type 0 where
  pub all : All (λ (d : Done X). is_ok d.pieces ≡ true) done
  pub seats_are : seats ≡ map (λ (d : Done X). d.seat) done
  pub hands_are : hands ≡ map (λ (d : Done X). d.hand) done
  pub pieces_are : pieces ≡ flat_map pieces_of done

-- all workers of a run are back, with their pieces. What they drew they judged or left in their hands, each block as often.
pub record AreBack (s : Subject) (board : BoardValue) (seats : List SeatValue) (pieces : List PieceValue) (left : List ℕ) : Type 0 where
  pub own : All (λ (seat : SeatValue). seat.board ≡ board.name) seats
  pub all : board.seats ≤ length seats
  pub blocks : board.name.blocks ≡ block_count s
  pub few : block_count s ≤ 262144
  pub pieces_are : HandsOver s (all_steps seats) pieces
  pub ended : 0 < late_draws board.name.blocks (all_steps seats)
  pub together : (x : ℕ) → pieces_at pieces x + times x left ≡ times x (all_taken seats)
  pub left_below : All (λ (b : ℕ). b < block_count s) left

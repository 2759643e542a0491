-- What a worker has of the blocks that it took.
use Rattle.std.proofs.Common.{ℕ, ◌≡◌, ◌+◌, ◌<◌, List, [], ◌∷◌, ◌++◌, map, refl, sym, ◌∙◌, ap, subst, arith}
use Rattle.std.proofs.lemmas.List.{map-append}
use Rattle.shares.specs.declared.view.SeatStep.TheVariants.{Drew}
use Rattle.shares.specs.Seats.{BoardName, SeatValue, DrawsNone, taken_blocks, times}
use Rattle.shares.specs.declared.deque.Phase.{Phase}
use Rattle.shares.specs.Hands.{HandValue, IsEmptyHand, IsTake, GivesOwn, in_phase}
use Rattle.shares.proofs.Takes.{take_own}
use Rattle.shares.proofs.Seats.{times_append}
use Rattle.workers.specs.Failing.{Subject}
use Rattle.workers.specs.Pieces.{PieceValue, block_count, piece_of, pieces_at}
use Rattle.workers.specs.Taking.{AddsPiece, HasTaken}
use Rattle.workers.proofs.HandingOver.{nothing_yet, full_more, keeps_posts, nothing_keeps, drew_keeps, draws_none_keeps}
use Rattle.workers.proofs.Runs.{count_blocks}

-- the blocks of pieces, with one more piece
pub one_more : (ps : List PieceValue) (p : PieceValue) (x : ℕ) → pieces_at (ps ++ p ∷ []) x ≡ pieces_at ps x + times x (p.block ∷ [])
one_more ps p x =
    let blocks : List PieceValue → List ℕ = λ (qs : List PieceValue). map (λ (q : PieceValue). q.block) qs in
    let both : blocks (ps ++ p ∷ []) ≡ blocks ps ++ p.block ∷ [] = rw map-append refl in
    omega (arith, count_blocks (ps ++ p ∷ []) x, count_blocks ps x, ap (times x) both, times_append x (blocks ps) (p.block ∷ []))

pub none_taken : (s : Subject) (seat : SeatValue) (hand : HandValue) → seat.steps ≡ [] → IsEmptyHand hand → HasTaken s seat.board seat hand [] []
none_taken s seat hand e empty =
    let none : taken_blocks seat ≡ [] = rw e refl in
    record {
      board_is = refl;
      handed = rw e (nothing_yet s);
      together = λ x. omega (arith, ap (times x) none, ap (λ (h : HandValue). times x h.pushed) empty, ap (λ (h : HandValue). times x h.list) empty, ap (λ (h : HandValue). times x h.got) empty);
    }

-- after a take, its answer is about to be judged
pub takes : (s : Subject) (board : BoardName) (seat after : SeatValue) (hand rest : HandValue) (answer : List ℕ) (ps : List PieceValue)
    → HasTaken s board seat hand [] ps → after.board ≡ seat.board → IsTake hand seat answer rest after → HasTaken s board after rest answer ps
takes s board seat after hand rest answer ps h same take = record {
  board_is = same ∙ h.board_is;
  handed = keeps_posts s seat.steps after.steps ps (nothing_keeps seat.steps after.steps take.quiet) h.handed;
  together = λ x. omega (
    arith,
    h.together x,
    take.together x,
    take.gets x,
    ap (times x) take.draws,
    times_append x (taken_blocks seat) take.drawn,
    ap (times x) take.pushes,
    times_append x hand.pushed take.pushed,
  );
}

-- and so is a block that it drew alone
pub draws_one : (s : Subject) (board : BoardName) (seat after : SeatValue) (hand : HandValue) (block : ℕ) (ps : List PieceValue)
    → HasTaken s board seat hand [] ps → after.board ≡ seat.board → after.steps ≡ seat.steps ++ Drew block ∷ [] → taken_blocks after ≡ taken_blocks seat ++ block ∷ [] → HasTaken s board after hand (block ∷ []) ps
draws_one s board seat after hand block ps h same steps e = record {
  board_is = same ∙ h.board_is;
  handed = keeps_posts s seat.steps after.steps ps (drew_keeps block seat.steps after.steps steps) h.handed;
  together = λ x. omega (arith, h.together x, ap (times x) e, times_append x (taken_blocks seat) (block ∷ []));
}

pub draws_no_more : (s : Subject) (board : BoardName) (seat after : SeatValue) (hand : HandValue) (ps : List PieceValue)
    → HasTaken s board seat hand [] ps → after.board ≡ seat.board → DrawsNone seat after → taken_blocks after ≡ taken_blocks seat → HasTaken s board after hand [] ps
draws_no_more s board seat after hand ps h same none e = record {
  board_is = same ∙ h.board_is;
  handed = keeps_posts s seat.steps after.steps ps (draws_none_keeps seat after none) h.handed;
  together = λ x. omega (arith, h.together x, ap (times x) e);
}

-- when it is judged, there is one more piece
pub judges : (s : Subject) (board : BoardName) (seat after : SeatValue) (hand : HandValue) (block : ℕ) (ps : List PieceValue) (p : PieceValue)
    → HasTaken s board seat hand (block ∷ []) ps → after.board ≡ seat.board → taken_blocks after ≡ taken_blocks seat → AddsPiece s block seat.steps after.steps p → HasTaken s board after hand [] (ps ++ p ∷ [])
judges s board seat after hand block ps p h same e adds = record {
  board_is = same ∙ h.board_is;
  handed = adds.adds ps h.handed;
  together = λ x. omega (arith, h.together x, one_more ps p x, ap (times x) e, ap (λ (b : ℕ). times x (b ∷ [])) adds.block_is);
}

-- a hand that closes has what it had
pub rephased : (s : Subject) (board : BoardName) (seat : SeatValue) (hand after : HandValue) (phase : Phase) (ps : List PieceValue) → after ≡ in_phase hand phase → HasTaken s board seat hand [] ps → HasTaken s board seat after [] ps
rephased s board seat hand after phase ps is h = record {
  board_is = h.board_is;
  handed = h.handed;
  together = λ x. omega (arith, h.together x, ap (λ (v : HandValue). times x v.pushed) is, ap (λ (v : HandValue). times x v.list) is, ap (λ (v : HandValue). times x v.got) is);
}

-- a block that a closing hand kept is judged
pub judges_kept : (s : Subject) (board : BoardName) (seat : SeatValue) (hand rest : HandValue) (block : ℕ) (ps : List PieceValue) (p : PieceValue) → GivesOwn hand block rest → p ≡ piece_of s block → block < block_count s
    → HasTaken s board seat hand [] ps → HasTaken s board seat rest [] (ps ++ p ∷ [])
judges_kept s board seat hand rest block ps p own is lower h =
    let adds : AddsPiece s block seat.steps seat.steps (piece_of s block) = record { block_is = refl; adds = λ pieces handed. full_more s block seat.steps pieces handed lower } in
    subst (λ (q : PieceValue). HasTaken s board seat rest [] (ps ++ q ∷ [])) (sym is)
    (judges s board seat seat rest block ps (piece_of s block) (takes s board seat seat hand rest (block ∷ []) ps h refl (take_own hand rest seat block own)) refl refl adds)

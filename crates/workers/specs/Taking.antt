-- What workers hand over of the blocks that they took.
use Rattle.std.specs.Prelude.{ℕ, ◌≡◌, ◌+◌, ◌*◌, ◌<◌, ◌≤◌, ◌⊎◌, ◌++◌, false, true, List, [], ◌∷◌}
use Rattle.shares.specs.declared.view.SeatStep.{SeatStep}
use Rattle.shares.specs.Steps.{posts, finds}
use Rattle.shares.specs.Seats.{BoardName, SeatValue, taken_blocks, times}
use Rattle.shares.specs.declared.deque.Phase.TheVariants.{Refused}
use Rattle.shares.specs.Hands.{HandValue, IsShut}
use Rattle.workers.specs.declared.found.BlockFound.{BlockFound}
use Rattle.workers.specs.declared.found.BlockFound.TheVariants.{Lines, Passed}
use Rattle.workers.specs.Counting.{reaches}
use Rattle.workers.specs.Failing.{Subject}
use Rattle.workers.specs.Least.{least_image}
use Rattle.workers.specs.Pieces.{PieceValue, EachPiece, ArePieces, AreFull, full_lines, pieces_at}

-- a block was passed over only after an image before all of it that was found as the least one posted
abbrev pub IsSeen : List SeatStep → ℕ → BlockFound → Type 0
IsSeen steps block (Lines own) = Unit {0}
IsSeen steps block (Passed image) = (image < 64 * block) × (0 < finds image steps)

-- pieces of a run that workers hand over who made those steps. They post images less the first one that is judged. Of what they posted
-- each image fails in a full piece, or one before it does.
pub record HandsOver (s : Subject) (steps : List SeatStep) (pieces : List PieceValue) : Type 0 where
  pub own : ArePieces s pieces
  pub full : s.first ≡ false → AreFull pieces
  pub seen : EachPiece (λ p. IsSeen steps p.block p.found) pieces
  pub posted : (image : ℕ) → 0 < posts image steps → reaches (least_image (full_lines pieces)) (s.from + image) ≡ true

-- later steps that posted nothing more
pub record KeepsPosts (before after : List SeatStep) : Type 0 where
  pub posted : (image : ℕ) → posts image after ≡ posts image before
  pub found : (image : ℕ) → finds image before ≤ finds image after

-- with later steps, the piece of one more block is handed over
pub record AddsPiece (s : Subject) (block : ℕ) (before after : List SeatStep) (p : PieceValue) : Type 0 where
  pub block_is : p.block ≡ block
  pub adds : (pieces : List PieceValue) → HandsOver s before pieces → HandsOver s after (pieces ++ p ∷ [])

-- what a worker has with its seat and its hand. The blocks of its pieces, those that it is about to judge, those that it pushed and
-- those in its list are together, each as often, those that it drew and those that it popped or stole.
pub record HasTaken (s : Subject) (board : BoardName) (seat : SeatValue) (hand : HandValue) (judging : List ℕ) (pieces : List PieceValue) : Type 0 where
  pub board_is : seat.board ≡ board
  pub handed : HandsOver s seat.steps pieces
  pub together : (x : ℕ) → pieces_at pieces x + times x judging + times x hand.pushed + times x hand.list ≡ times x (taken_blocks seat) + times x hand.got

-- the hand of a worker that is back is shut, or the push of a closing mark was refused to it
abbrev pub IsSettled : HandValue → Type 0
IsSettled hand = IsShut hand ⊎ (hand.phase ≡ Refused)

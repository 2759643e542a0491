-- The board and its seats, as contracts see them.
use Rattle.std.specs.Prelude.{◌≡◌, ℕ, ◌<◌, ◌≤◌, ◌==◌, nat_le, if◌then◌else◌, List, [], ◌∷◌, ◌++◌, length, filter, flat_map, Option, None, Some}
use Rattle.std.specs.List.{filter_map}
use Rattle.atomic_table.specs.Seated.{TableId}
use Rattle.shares.specs.declared.view.SeatStep.{SeatStep}
use Rattle.shares.specs.declared.view.SeatStep.TheVariants.{Drew}
use Rattle.shares.specs.Steps.{draws, late_draws, none_posted, posts, finds}

-- which board it is, and its number of blocks
pub record BoardName : Type 0 where
  pub table : TableId
  pub blocks : ℕ

abbrev pub board_name : TableId → ℕ → BoardName
board_name table blocks = record { table = table; blocks = blocks }

pub record BoardValue : Type 0 where
  pub name : BoardName
  pub seats : ℕ

-- a seat: its board, and the steps that it made, in order
pub record SeatValue : Type 0 where
  pub board : BoardName
  pub steps : List SeatStep

-- a draw of the seat found no block left
abbrev pub HasEnded : SeatValue → Type 0
HasEnded seat = 0 < late_draws seat.board.blocks seat.steps

-- a seat that draws none: it had ended and makes no step, or its one step finds every block drawn
abbrev pub DrawsNone : SeatValue → SeatValue → Type 0
DrawsNone before after =
    (HasEnded before → after.steps ≡ before.steps)
    × (¬ HasEnded before → (found : ℕ) × (before.board.blocks ≤ found) × (after.steps ≡ before.steps ++ Drew found ∷ []))

-- the steps of all seats
abbrev pub all_steps : List SeatValue → List SeatStep
all_steps seats = flat_map (λ (s : SeatValue). s.steps) seats

-- the block that a step took, if it took one
abbrev pub took : ℕ → SeatStep → Option ℕ
took blocks (Drew found) = if nat_le blocks found then None else Some found
took blocks _ = None

-- the blocks that a seat took, in order
abbrev pub taken_blocks : SeatValue → List ℕ
taken_blocks seat = filter_map (took seat.board.blocks) seat.steps

-- the blocks that those seats took
abbrev pub all_taken : List SeatValue → List ℕ
all_taken seats = flat_map taken_blocks seats

-- how often a number is in a list
abbrev pub times : ℕ → List ℕ → ℕ
times n ns = length (filter (λ (m : ℕ). m == n) ns)

-- of that many blocks this is the first that no step drew
pub record IsFirstUndrawn (blocks : ℕ) (steps : List SeatStep) (block : ℕ) : Type 0 where
  pub there : block < blocks
  pub undrawn : draws block steps ≡ 0
  pub before : (b : ℕ) → b < block → draws b steps ≡ 1

-- each of that many blocks was drawn in those steps, once
pub record AreDrawnOnce (blocks : ℕ) (steps : List SeatStep) : Type 0 where
  pub once : (b : ℕ) → b < blocks → draws b steps ≡ 1

-- each image that those steps found as the least is one that they posted
pub record FoundArePosted (steps : List SeatStep) : Type 0 where
  pub each : (image : ℕ) → image < none_posted → 0 < finds image steps → 0 < posts image steps

-- each of that many blocks was taken by one of those seats, once
pub record AreTakenOnce (blocks : ℕ) (seats : List SeatValue) : Type 0 where
  pub once : (b : ℕ) → b < blocks → times b (all_taken seats) ≡ 1

-- Pieces of the work, and their collection.
use Rattle.std.specs.Prelude.{ℕ, ◌+◌, ◌*◌, ◌/◌, ◌≡◌, ◌<◌, ◌≤◌, ◌==◌, Bool, true, false, ◌&&◌, nat_lt, nat_le, List, length, filter, Some, slice_get, []}
use Rattle.std.specs.List.{flat_map, range_with_len, list_any}
use Rattle.base.specs.declared.causes.WorkCause.TheVariants as work
use Rattle.base.specs.declared.refusal.Refusal.{Refusal}
use Rattle.base.specs.Refusals.{work_refusal}
use Rattle.report.specs.Line.{FailingLine}
use Rattle.workers.specs.declared.found.BlockFound.{BlockFound}
use Rattle.workers.specs.declared.found.BlockFound.TheVariants.{Lines, Passed}
use Rattle.workers.specs.Failing.{Subject, judged_count, part}

-- a piece of the work: the lines of a block, or the image after which the block was passed over. That is its number less that of the
-- first image that is judged.
pub record PieceValue : Type 0 where
  pub block : ℕ
  pub found : BlockFound

-- into how many blocks the images that are judged fall
abbrev pub block_count : Subject → ℕ
block_count s = (judged_count s + 63) / 64

-- the full piece of that block
abbrev pub piece_of : Subject → ℕ → PieceValue
piece_of s block = record { block = block; found = Lines (part s block) }

abbrev pub lines_of : BlockFound → List FailingLine
lines_of (Lines own) = own
lines_of (Passed image) = []

-- the lines of the full pieces
abbrev pub full_lines : List PieceValue → List FailingLine
full_lines pieces = flat_map (λ (p : PieceValue). lines_of p.found) pieces

-- whether a piece counts beside the lines of the full pieces. A passed one does where the image that it names comes before all of its
-- block, and does not precede each image of those lines. It names that image less `from`, with which the first block begins.
abbrev pub counts : ℕ → List FailingLine → ℕ → BlockFound → Bool
counts from lines block (Lines own) = true
counts from lines block (Passed image) = nat_lt image (64 * block) && list_any (λ (l : FailingLine). nat_le l.image (from + image)) lines

-- the pieces of a block
abbrev pub of_block : List PieceValue → ℕ → List PieceValue
of_block pieces block = filter (λ (p : PieceValue). p.block == block) pieces

-- how many pieces there are of a block
abbrev pub pieces_at : List PieceValue → ℕ → ℕ
pieces_at pieces block = length (of_block pieces block)

-- how many of them count
abbrev pub counted_at : ℕ → List PieceValue → ℕ → ℕ
counted_at from pieces block = length (filter (λ (p : PieceValue). counts from (full_lines pieces) p.block p.found) (of_block pieces block))

-- the lines of the pieces of a block
abbrev pub lines_at : List PieceValue → ℕ → List FailingLine
lines_at pieces block = full_lines (of_block pieces block)

-- the lines of the pieces by block
unfoldable pub lines_by_block : List PieceValue → ℕ → List FailingLine
lines_by_block pieces blocks = flat_map (lines_at pieces) (range_with_len 0 blocks)

-- the first block that has two pieces or more
pub record IsFirstTwice (pieces : List PieceValue) (blocks block : ℕ) : Type 0 where
  pub within : block < blocks
  pub twice : 2 ≤ pieces_at pieces block
  pub before : (b : ℕ) → b < block → pieces_at pieces b ≤ 1

-- no block has two pieces, and this is the first that has none that counts
pub record IsFirstMissing (from : ℕ) (pieces : List PieceValue) (blocks block : ℕ) : Type 0 where
  pub within : block < blocks
  pub once : (b : ℕ) → b < blocks → pieces_at pieces b ≤ 1
  pub missing : counted_at from pieces block ≡ 0
  pub before : (b : ℕ) → b < block → counted_at from pieces b ≡ 1

-- each block has one piece, and it counts
abbrev pub AreWhole : ℕ → List PieceValue → ℕ → Type 0
AreWhole from pieces blocks = (b : ℕ) → b < blocks → (pieces_at pieces b ≡ 1) × (counted_at from pieces b ≡ 1)

-- the refusals of a collection: first a block with two pieces, then one without, each the lowest
pub data RefusesPieces (from : ℕ) (pieces : List PieceValue) (blocks : ℕ) : Refusal → Type 0 where
  two_pieces : (block : ℕ) → IsFirstTwice pieces blocks block → RefusesPieces from pieces blocks (work_refusal work.PieceTwice block)
  no_piece : (block : ℕ) → IsFirstMissing from pieces blocks block → RefusesPieces from pieces blocks (work_refusal work.PieceMissing block)
  no_memory : RefusesPieces from pieces blocks (work_refusal work.Memory 0)

-- P of each piece
abbrev pub EachPiece : (PieceValue → Type 0) → List PieceValue → Type 0
EachPiece P pieces = (i : ℕ) (p : PieceValue) → slice_get pieces i ≡ Some p → P p

-- a full piece has the part of its block
abbrev pub HasPart : Subject → ℕ → BlockFound → Type 0
HasPart s block (Lines own) = own ≡ part s block
HasPart s block (Passed image) = Unit {0}

-- each piece is one of the run
abbrev pub ArePieces : Subject → List PieceValue → Type 0
ArePieces s pieces = EachPiece (λ p. (p.block < block_count s) × HasPart s p.block p.found) pieces

abbrev pub passes : BlockFound → Bool
passes (Lines own) = false
passes (Passed image) = true

-- no piece was passed over
abbrev pub AreFull : List PieceValue → Type 0
AreFull pieces = EachPiece (λ p. passes p.found ≡ false) pieces

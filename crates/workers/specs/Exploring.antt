-- The pieces of a run.
use Rattle.std.specs.Prelude.{ℕ, ◌*◌, ◌≡◌, ◌<◌, Bool, true, false, ◌&&◌, nat_lt, List}
use Rattle.workers.specs.Failing.{Subject}
use Rattle.workers.specs.Pieces.{PieceValue, ArePieces, AreFull, EachPiece, block_count, counts, full_lines, pieces_at}

-- whether a block is passed over after that failing image, less the first one that is judged. It is where only the first failing
-- image is asked for, and all of the block lies after it.
abbrev pub passes_over : Subject → ℕ → ℕ → Bool
passes_over s block image = s.first && nat_lt image (64 * block)

-- the pieces of a run: one of each block, each of which counts
pub record ArePiecesOf (s : Subject) (pieces : List PieceValue) : Type 0 where
  pub once : (b : ℕ) → b < block_count s → pieces_at pieces b ≡ 1
  pub own : ArePieces s pieces
  pub counted : EachPiece (λ p. counts s.from (full_lines pieces) p.block p.found ≡ true) pieces
  pub full : s.first ≡ false → AreFull pieces

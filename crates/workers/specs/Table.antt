-- The pieces so far by block, in the terms that the code computes with.
use Rattle.std.specs.Prelude.{ℕ, ◌≡◌, ◌<◌, ◌≤◌, min, Bool, true, not, List, [], length, Option, None, Some, slice_get}
use Rattle.report.specs.Line.{FailingLine}
use Rattle.workers.specs.Counting.{counts_with}
use Rattle.workers.specs.Least.{least_image}
use Rattle.workers.specs.Pieces.{PieceValue, of_block, pieces_at, lines_of, full_lines, IsFirstTwice}

-- the first block with two pieces, if there is one
abbrev pub IsTwice : List PieceValue → ℕ → Option ℕ → Type 0
IsTwice pieces blocks None = (b : ℕ) → b < blocks → pieces_at pieces b ≤ 1
IsTwice pieces blocks (Some block) = IsFirstTwice pieces blocks block

-- each row is the first piece of its block, if there is one
pub record AreRows (pieces : List PieceValue) (blocks : ℕ) (rows : List (Option PieceValue)) (twice least : Option ℕ) : Type 0 where
  pub count : length rows ≡ blocks
  pub each : (b : ℕ) (row : Option PieceValue) → slice_get rows b ≡ Some row → row ≡ slice_get (of_block pieces b) 0
  pub first : IsTwice pieces blocks twice
  pub lowest : least ≡ least_image (full_lines pieces)

-- the first of two such blocks
abbrev pub first_of : Option ℕ → ℕ → ℕ
first_of None block = block
first_of (Some other) block = min other block

-- whether a row has no piece that counts
abbrev pub is_missing : ℕ → Option ℕ → Option PieceValue → Bool
is_missing from least None = true
is_missing from least (Some p) = not (counts_with from least p.block p.found)

abbrev pub row_lines : Option PieceValue → List FailingLine
row_lines None = []
row_lines (Some p) = lines_of p.found

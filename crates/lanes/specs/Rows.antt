-- Words of this crate's own functions on the rows of a sector.
use Rattle.std.specs.Prelude.{◌≡◌, ℕ, ◌*◌, ◌<◌, List, length, take, drop, slice_index}

-- the 64 bytes of a row
unfoldable pub row_of : List ℕ → ℕ → List ℕ
row_of bytes row = take 64 (drop (64 * row) bytes)

-- v has eight lanes, and lane j holds f j
pub record HasLanes (v : List ℕ) (f : ℕ → ℕ) : Type 0 where
  pub long : length v ≡ 8
  pub each : (j : ℕ) → j < 8 → slice_index v j ≡ f j

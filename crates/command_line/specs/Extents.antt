-- Images, as they stand after --images (docs/COMMANDS.md, Options): two numbers with two points between.
use Rattle.std.specs.Prelude.{ℕ, ◌≡◌, ◌<◌, ◌==◌, Bool, List, ◌∷◌, length}
use Rattle.std.specs.List.{position_or_len, before_first, after_first}
use Rattle.command_line.specs.Number.{IsNumber}

abbrev pub is_point : ℕ → Bool
is_point byte = byte == 46

-- a point stands in a text
abbrev pub HasPoint : List ℕ → Type 0
HasPoint text = position_or_len is_point text < length text

-- a text is cut at its first point
pub record IsCutAtPoint (text word rest : List ℕ) : Type 0 where
  pub point : HasPoint text
  pub before : word ≡ before_first is_point text
  pub beyond : rest ≡ after_first is_point text

-- a text is the images from one number to below another
pub record IsRange (text : List ℕ) (from to : ℕ) : Type 0 where
  pub point : HasPoint text
  pub first : IsNumber 64 (before_first is_point text) from
  pub rest : List ℕ
  pub second : after_first is_point text ≡ 46 ∷ rest
  pub last : IsNumber 64 rest to

abbrev pub NoRange : List ℕ → Type 0
NoRange text = (from to : ℕ) → IsRange text from to → ⊥

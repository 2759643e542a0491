-- A list of entries, as it stands after --flush (docs/COMMANDS.md, Options): numbers with commas between.
use Rattle.std.specs.Prelude.{ℕ, ◌≡◌, ◌<◌, ◌≤◌, ◌==◌, Bool, List, [], ◌∷◌, length}
use Rattle.std.specs.List.{position_or_len, before_first, after_first}
use Rattle.command_line.specs.Number.{IsNumber}

abbrev pub is_comma : ℕ → Bool
is_comma byte = byte == 44

-- a comma stands in a text
abbrev pub HasComma : List ℕ → Type 0
HasComma text = position_or_len is_comma text < length text

-- a text is cut at its first comma
pub record IsCut (text word rest : List ℕ) : Type 0 where
  pub comma : HasComma text
  pub before : word ≡ before_first is_comma text
  pub beyond : rest ≡ after_first is_comma text

-- a text is the list of these entries: one number, or one before the first comma and the list of the others after it
abbrev pub IsFlushList : List ℕ → List ℕ → Type 0
IsFlushList text [] = ⊥
IsFlushList text (entry ∷ []) = (HasComma text → ⊥) × IsNumber 32 text entry
IsFlushList text (entry ∷ next ∷ entries) =
    HasComma text × IsNumber 32 (before_first is_comma text) entry × IsFlushList (after_first is_comma text) (next ∷ entries)

-- a text is the list of no entries, that many at most
abbrev pub NoFlushList : ℕ → List ℕ → Type 0
NoFlushList most text = (entries : List ℕ) → length entries ≤ most → IsFlushList text entries → ⊥

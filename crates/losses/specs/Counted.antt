-- The flushes that are missing, each with the windows that are counted there (docs/CRASH-MODEL.md, Where a flush helps).
use Rattle.std.specs.Prelude.{ℕ, ◌==◌, ◌≡◌, nat_lt, max, List, [], ◌∷◌, length, map, filter}
use Rattle.std.specs.List.{range_with_len, slice_index_or}
use Rattle.losses.specs.declared.flushes.window.Window.{Window}
use Rattle.losses.specs.declared.flushes.counted.MissingFlush.{MissingFlush}
use Rattle.losses.specs.Places.{ArePlaces}

-- how many of the places stand before the window: it is counted at the next, the first that it holds
abbrev pub places_before : List ℕ → Window → ℕ
places_before ps w = length (filter (λ (p : ℕ). nat_lt p w.start) ps)

-- the windows that are counted at the place of that number
abbrev pub counted_at : List ℕ → ℕ → List Window → List Window
counted_at ps number ws = filter (λ (w : Window). places_before ps w == number) ws

-- the greatest start of some windows
abbrev pub greatest_start : List Window → ℕ
greatest_start [] = 0
greatest_start (w ∷ ws) = max w.start (greatest_start ws)

-- a flush at the place of that number
abbrev pub missing_at : List Window → List ℕ → ℕ → MissingFlush
missing_at ws ps number = record {
  from = greatest_start (counted_at ps number ws);
  at = slice_index_or ps number 0;
  failing = length (counted_at ps number ws);
}

-- a flush at each of the places
abbrev pub missing : List Window → List ℕ → List MissingFlush
missing ws ps = map (missing_at ws ps) (range_with_len 0 (length ps))

pub record AreMissing (ws : List Window) (ms : List MissingFlush) : Type 0 where
  pub places : List ℕ
  pub picked : ArePlaces ws places
  pub listed : ms ≡ missing ws places

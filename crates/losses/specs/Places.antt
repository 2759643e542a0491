-- Which places of flushes are picked for some windows (docs/CRASH-MODEL.md, Where a flush helps). A place is the entry right before
-- which the flush stands.
use Rattle.std.specs.Prelude.{ℕ, ◌≡◌, ◌<◌, ◌≤◌, List, length, take, slice_get, Some}
use Rattle.losses.specs.declared.flushes.window.Window.{Window}

-- the window holds the place
pub record Holds (w : Window) (p : ℕ) : Type 0 where
  pub from : w.start ≤ p
  pub to : p ≤ w.end

-- the window holds one of the places
pub record HoldsOne (w : Window) (ps : List ℕ) : Type 0 where
  pub number : ℕ
  pub place : ℕ
  pub there : slice_get ps number ≡ Some place
  pub holds : Holds w place

-- the window holds none of the places
abbrev pub HoldsNone : Window → List ℕ → Type 0
HoldsNone w ps = (i p : ℕ) → slice_get ps i ≡ Some p → ¬ (Holds w p)

-- after some places the next: the end of the first window that holds none of them
pub record IsNext (ws : List Window) (ps : List ℕ) (p : ℕ) : Type 0 where
  pub number : ℕ
  pub window : Window
  pub there : slice_get ws number ≡ Some window
  pub end : window.end ≡ p
  pub none : HoldsNone window ps
  pub first : (i : ℕ) (w : Window) → slice_get ws i ≡ Some w → HoldsNone w ps → p ≤ w.end

-- each window holds one of the places
abbrev pub Covers : List Window → List ℕ → Type 0
Covers ws ps = (i : ℕ) (w : Window) → slice_get ws i ≡ Some w → HoldsOne w ps

-- one place after the other, until each window holds one
pub record ArePlaces (ws : List Window) (ps : List ℕ) : Type 0 where
  pub each : (i p : ℕ) → slice_get ps i ≡ Some p → IsNext ws (take i ps) p
  pub all : Covers ws ps

-- windows of a log of n entries, of which each has a place and none has entry 0
abbrev pub AreWindows : ℕ → List Window → Type 0
AreWindows n ws = (i : ℕ) (w : Window) → slice_get ws i ≡ Some w → (1 ≤ w.start) × (w.start ≤ w.end) × (w.end < n)

-- a table of the entries: of the windows that end at an entry the greatest start, or 0 where none ends there
pub record AreStarts (n : ℕ) (ws : List Window) (starts : List ℕ) : Type 0 where
  pub long : length starts ≡ n
  pub greatest : (i : ℕ) (w : Window) (s : ℕ) → slice_get ws i ≡ Some w → slice_get starts w.end ≡ Some s → w.start ≤ s
  pub real : (e s : ℕ) → slice_get starts e ≡ Some s → 1 ≤ s → (i : ℕ) × (w : Window) × (slice_get ws i ≡ Some w) × (w.end ≡ e) × (w.start ≡ s)

-- The board rule: what holds of the board's words and of all that its seats know, at every moment (docs/PROVED.md, Threads and the cache).
use Rattle.std.specs.Prelude.{◌≡◌, ℕ, ◌+◌, ◌<◌, ◌≤◌, List, [], ◌∷◌, ◌++◌}
use mathlib.Core.Option.{some}
use lib.ListN.{get_elem?}
use Rattle.atomic_table.specs.Table.{State}
use Rattle.shares.specs.declared.view.SeatStep.{SeatStep}
use Rattle.shares.specs.declared.view.SeatView.{SeatView}
use Rattle.shares.specs.declared.view.BoardLimits.{BoardLimits}
use Rattle.shares.specs.Steps.{total, least_of, draws, late_draws, none_posted, least_posted, next_seen, least_seen, posts, finds}

abbrev pub view_of : ℕ → List SeatStep → SeatView
view_of parts steps = record { parts = parts; steps = steps }

-- the view after one more step
abbrev pub with_step : SeatView → SeatStep → SeatView
with_step v made = view_of v.parts (v.steps ++ made ∷ [])

-- the blocks below n were drawn in those steps, each once, and no other number was
abbrev pub DrewBelow : ℕ → (ℕ → ℕ) → Type 0
DrewBelow n times = (b : ℕ) → (b < n → times b ≡ 1) × (n ≤ b → times b ≡ 0)

-- each image that was found as the least, so often, was posted, so often
abbrev pub ArePosted : (ℕ → ℕ) → (ℕ → ℕ) → Type 0
ArePosted found posted = (image : ℕ) → image < none_posted → 0 < found image → 0 < posted image

-- what one seat knows, beside the words: it finds no block left at most once for each part, a seat without a part knows nothing,
-- nothing seen in `next` is above it, and nothing seen in `least` is below it
pub record Fits (limits : BoardLimits) (next least : ℕ) (v : SeatView) : Type 0 where
  pub late : late_draws limits.blocks v.steps ≤ v.parts
  pub idle : v.parts ≡ 0 → v.steps ≡ []
  pub below : next_seen v.steps ≤ next
  pub above : least ≤ least_seen v.steps

-- each seat has one part of the right to know the whole, and who has every part knows all that was drawn and posted
pub record BoardRule (limits : BoardLimits) (s : State (Unit {0}) SeatView) : Type 0 where
  pub next : ℕ
  pub least : ℕ
  pub words : s.words ≡ next ∷ least ∷ []
  -- the word `next` doesn't wrap
  pub small : limits.blocks + limits.seats < 8589934592
  pub parts : total (λ (v : SeatView). v.parts) s.views ≡ limits.seats
  -- each number below `next` is drawn in one view, once
  pub once : DrewBelow next (λ b. total (λ (v : SeatView). draws b v.steps) s.views)
  -- `next` passes the number of blocks only by draws that found none left
  pub late : next ≤ limits.blocks + total (λ (v : SeatView). late_draws limits.blocks v.steps) s.views
  -- `least` is the smallest image posted in any view
  pub lowest : least ≡ least_of (λ (v : SeatView). least_posted v.steps) s.views
  -- an image that a view found as the least was posted in some view
  pub found : ArePosted (λ i. total (λ (v : SeatView). finds i v.steps) s.views) (λ i. total (λ (v : SeatView). posts i v.steps) s.views)
  pub each : (j : ℕ) (v : SeatView) → get_elem? s.views j ≡ some v → Fits limits next least v

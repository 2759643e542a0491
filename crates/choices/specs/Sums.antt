-- The table of the numbers of choices before each wanted cut, and the search in it.
use Rattle.std.specs.Prelude.{ℕ, ◌+◌, ◌≡◌, ◌<◌, ◌≤◌, Bool, List, length}
use Rattle.std.specs.List.{slice_index_or}
use Rattle.epochs.specs.Cuts.{cuts_of}
use Rattle.epochs.specs.Plan.{PlanValue}
use Rattle.choices.specs.Choices.{ranked_before}

-- a table, as contracts see it: of which plan it is, and of which choices
pub record StartsValue : Type 0 where
  pub plan : PlanValue
  pub bound : ℕ
  pub tears : Bool

-- how many choices the first i wanted cuts have, for each i up to some
pub record AreSumsUpTo (plan : PlanValue) (bound : ℕ) (tears : Bool) (last : ℕ) (sums : List ℕ) : Type 0 where
  pub long : length sums ≡ last + 1
  pub each : (i : ℕ) → i ≤ last → slice_index_or sums i 0 ≡ length (ranked_before plan bound tears i)

-- for each i up to their number
abbrev pub AreSums : PlanValue → ℕ → Bool → List ℕ → Type 0
AreSums plan bound tears sums = AreSumsUpTo plan bound tears (length (cuts_of plan.kind plan.log.entries)) sums

-- the number at that place is not above `number`, and the one after it is
pub record FallsAt (sums : List ℕ) (number place : ℕ) : Type 0 where
  pub inside : place + 1 < length sums
  pub low : slice_index_or sums place 0 ≤ number
  pub high : number < slice_index_or sums (place + 1) 0

-- The search of a choice by its number, in the terms that the code computes with.
use Rattle.std.specs.Prelude.{ℕ, ◌+◌, ◌-◌, ◌≡◌, ◌<◌, ◌≤◌, List, ◌∷◌, slice_get}
use Rattle.std.specs.Option.{option_map}
use Rattle.choices.specs.declared.pick.Pick.{Pick}
use Rattle.choices.specs.Picks.{ranked_picks}
use Rattle.choices.specs.Ways.{ways}

-- choice `number` of i departures among the parts from `begin` to below `end` begins with `pick`, and
-- goes on as choice `rest` of the other departures after that part
pub record Begins (m i begin end number : ℕ) (pick : Pick) (rest : ℕ) : Type 0 where
  pub low : begin ≤ pick.part
  pub high : pick.part < end
  pub fate : pick.fate < m
  pub within : rest < ways m (i - 1) (end - (pick.part + 1))
  pub value : slice_get (ranked_picks m i begin (end - begin)) number
      ≡ option_map (λ (ds : List Pick). pick ∷ ds) (slice_get (ranked_picks m (i - 1) (pick.part + 1) (end - (pick.part + 1))) rest)

-- among that few parts there are `left` choices, and among no fewer
pub record Reaches (m i left r : ℕ) : Type 0 where
  pub some : 1 ≤ r
  pub reach : left ≤ ways m i r
  pub least : ways m i (r - 1) < left

-- Two numbers with two points between, cut at the first point.
use Rattle.std.proofs.Common.{◌≢◌, List, ℕ, ◌∷◌, ◌∙◌}
use Rattle.command_line.specs.Extents.{IsCutAtPoint, NoRange}

-- no second point stands after the first
pub no_second : (text word rest : List ℕ) → IsCutAtPoint text word rest → ((last : List ℕ) → rest ≢ 46 ∷ last) → NoRange text
no_second text word rest cut none from to r = none r.rest (cut.beyond ∙ r.second)

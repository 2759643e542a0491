-- The choices of departures at one cut, as one list in its order (docs/CRASH-MODEL.md, Fates and choices,
-- Order and numbers of the images). A departure is given by numbers: its part by the place among the
-- volatile parts of the cut, its fate by the place in the order of the fates.
use Rattle.std.specs.Prelude.{ℕ, zero, suc, ◌+◌, ◌*◌, ◌<◌, Bool, true, false, List, [], ◌∷◌, ◌++◌, map}
use Rattle.std.specs.List.{All}
use Rattle.choices.specs.declared.pick.Pick.{Pick}

-- in how many places a part may be torn: after 1 to 7 of its eighths
abbrev pub tears_of_part : ℕ
tears_of_part = 7

-- how many fates a part may have beside whole: it is dropped, or one side of a tear is lost
abbrev pub most_fates : ℕ
most_fates = 1 + 2 * tears_of_part

-- with torn writes, or without
abbrev pub fates_of : Bool → ℕ
fates_of true = most_fates
fates_of false = 1

-- part a with each of j fates from t on, before each of the given rests
abbrev pub beginning : ℕ → ℕ → ℕ → List (List Pick) → List (List Pick)
beginning a t zero rests = []
beginning a t (suc j) rests = map (λ (rest : List Pick). record { part = a; fate = t } ∷ rest) rests ++ beginning a (t + 1) j rests

-- all choices of i departures among k parts from part a on, with m fates, in order: those that begin
-- with part a come before those that begin after it
unfoldable pub ranked_picks : ℕ → ℕ → ℕ → ℕ → List (List Pick)
ranked_picks m zero a k = [] ∷ []
ranked_picks m (suc i) a zero = []
ranked_picks m (suc i) a (suc k) = beginning a 0 m (ranked_picks m i (a + 1) k) ++ ranked_picks m (suc i) (a + 1) k

-- all choices of fewer than s departures among v parts, by the number of departures
unfoldable pub fewer : ℕ → ℕ → ℕ → List (List Pick)
fewer m zero v = []
fewer m (suc s) v = fewer m s v ++ ranked_picks m s 0 v

-- all choices of at most `bound` departures
abbrev pub picks_within : ℕ → ℕ → ℕ → List (List Pick)
picks_within m bound v = fewer m (suc bound) v

-- departures of parts below v, by fates below m
abbrev pub ArePicks : ℕ → ℕ → List Pick → Type 0
ArePicks m v picks = All (λ (pick : Pick). (pick.part < v) × (pick.fate < m)) picks

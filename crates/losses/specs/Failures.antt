-- What fails at each cut, of a program that fails on some images (docs/CRASH-MODEL.md, Order and numbers of the images).
use Rattle.std.specs.Prelude.{ℕ, ◌≡◌, ◌+◌, ◌-◌, ◌<◌, ◌≤◌, nat_le, nat_lt, Bool, ◌&&◌, List, [], length, map, filter, slice_get, Some}
use Rattle.std.specs.Option.{option_map_or}
use Rattle.epochs.specs.Cuts.{cuts_of}
use Rattle.choices.specs.Choices.{ranked_choices, ranked_at, ranked_before}
use Rattle.choices.specs.Numbers.{numbers_at}
use Rattle.choices.specs.Sums.{StartsValue}
use Rattle.losses.specs.CountedGroups.{AreGrouped}
use Rattle.losses.specs.declared.why.cut.CutFailures.{CutFailures}

-- numbers of images, rising
abbrev pub AreInOrder : List ℕ → Type 0
AreInOrder ns = (i j n m : ℕ) → i < j → slice_get ns i ≡ Some n → slice_get ns j ≡ Some m → n < m

-- images of a run, rising
pub record AreImages (s : StartsValue) (failing : List ℕ) : Type 0 where
  pub ordered : AreInOrder failing
  pub within : (i n : ℕ) → slice_get failing i ≡ Some n → n < length (ranked_choices s.plan s.bound s.tears)

-- the number of the first image at the wanted cut of that place
abbrev pub first_at : StartsValue → ℕ → ℕ
first_at s place = length (ranked_before s.plan s.bound s.tears place)

-- the images that are numbered below `end`, and those from `first` on to below `end`
abbrev pub is_below : ℕ → ℕ → Bool
is_below end n = nat_lt n end

abbrev pub is_between : ℕ → ℕ → ℕ → Bool
is_between first end n = nat_le first n && nat_lt n end

-- on how many images before the wanted cut of that place the program fails
abbrev pub failing_before : StartsValue → List ℕ → ℕ → ℕ
failing_before s failing place = length (filter (is_below (first_at s place)) failing)

-- the images on which the program fails, at the wanted cut of that place
abbrev pub failing_at : StartsValue → List ℕ → ℕ → List ℕ
failing_at s failing place = filter (is_between (first_at s place) (first_at s (place + 1))) failing

-- the departures of an image by numbers, at a cut whose images begin with `first`
abbrev pub numbers_in : StartsValue → ℕ → ℕ → ℕ → List ℕ
numbers_in s cut first image = option_map_or (λ (ns : List ℕ). ns) (numbers_at s.plan s.bound s.tears cut (image - first)) []

-- images of a cut whose images begin with `first`, rising
pub record AreOfCut (s : StartsValue) (cut first : ℕ) (images : List ℕ) : Type 0 where
  pub ordered : AreInOrder images
  pub low : (i n : ℕ) → slice_get images i ≡ Some n → first ≤ n
  pub high : (i n : ℕ) → slice_get images i ≡ Some n → n < first + length (ranked_at s.plan s.bound s.tears cut)

-- what fails at the wanted cut of a place
pub record IsCut (s : StartsValue) (failing : List ℕ) (outcomes : List (List ℕ)) (place : ℕ) (c : CutFailures) : Type 0 where
  pub wanted : slice_get (cuts_of s.plan.kind s.plan.log.entries) place ≡ Some c.cut
  pub images : c.images ≡ length (ranked_at s.plan s.bound s.tears c.cut)
  pub fails : c.failing ≡ length (failing_at s failing place)
  pub grouped : AreGrouped outcomes (failing_before s failing place) (failing_at s failing place) (map (numbers_in s c.cut (first_at s place)) (failing_at s failing place)) c.groups.items

-- at each wanted cut
pub record AreCuts (s : StartsValue) (failing : List ℕ) (outcomes : List (List ℕ)) (cs : List CutFailures) : Type 0 where
  pub all : length cs ≡ length (cuts_of s.plan.kind s.plan.log.entries)
  pub each : (place : ℕ) (c : CutFailures) → slice_get cs place ≡ Some c → IsCut s failing outcomes place c

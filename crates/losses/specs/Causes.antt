-- What fails of each program at each cut, as a text (docs/OUTPUT.md, The text of `why`).
use Rattle.std.specs.Prelude.{ℕ, ◌≡◌, ◌+◌, List, [], ◌∷◌, ◌++◌, length, slice_get, Some}
use Rattle.choices.specs.Sums.{StartsValue}
use Rattle.losses.specs.declared.why.cut.CutFailures.{CutFailures}
use Rattle.losses.specs.Failures.{AreCuts}
use Rattle.losses.specs.WhyText.{cuts_text}

-- what fails at each wanted cut of each program, by the images on which it fails and what it ends in on each
abbrev pub AreCauses : StartsValue → (ℕ → List ℕ) → (ℕ → List (List ℕ)) → List (List CutFailures) → Type 0
AreCauses s images outcomes causes = (program : ℕ) (cuts : List CutFailures) → slice_get causes program ≡ Some cuts → AreCuts s (images program) (outcomes program) cuts

-- the text of the cuts of the programs from that number on
abbrev pub causes_from : StartsValue → (ℕ → List (List ℕ)) → ℕ → List (List CutFailures) → List ℕ
causes_from s outcomes number [] = []
causes_from s outcomes number (cuts ∷ causes) = cuts_text s.plan.by s (outcomes number) number cuts ++ causes_from s outcomes (number + 1) causes

-- what was appended says what fails of a program at each cut
pub record TellsProgram (s : StartsValue) (images : List ℕ) (outcomes : List (List ℕ)) (program : ℕ) (old new : List ℕ) : Type 0 where
  pub cuts : List CutFailures
  pub is : AreCuts s images outcomes cuts
  pub text : new ≡ old ++ cuts_text s.plan.by s outcomes program cuts

-- and of that many programs
pub record TellsPrograms (s : StartsValue) (images : ℕ → List ℕ) (outcomes : ℕ → List (List ℕ)) (count : ℕ) (old new : List ℕ) : Type 0 where
  pub causes : List (List CutFailures)
  pub all : length causes ≡ count
  pub each : AreCauses s images outcomes causes
  pub text : new ≡ old ++ causes_from s outcomes 0 causes

-- The page of failures of a run: what a page takes of each program, by the images on which it fails and what it ends in on each, whoever
-- found these.
use Rattle.std.specs.Prelude.{ℕ, ◌≡◌, List, length, filter, slice_get, Some}
use Rattle.choices.specs.Sums.{StartsValue}
use Rattle.losses.specs.Counted.{AreMissing}
use Rattle.losses.specs.Failures.{AreCuts}
use Rattle.losses.specs.declared.cure.failure.Failure.{Failure}
use Rattle.losses.specs.FailureWindows.{windows_in}
use Rattle.losses.specs.CureText.{is_of, is_uncured}
use Rattle.crash_page.specs.declared.program.ProgramFailures.{ProgramFailures}
use Rattle.page_parts.specs.Judges.{judge_text}
use Rattle.crash_page.specs.Page.{page_text, outcomes_of}

-- the failures of a program, of those of a run
abbrev pub own_failures : ℕ → List Failure → List Failure
own_failures program fs = filter (is_of program) fs

-- What fails of a program: on how many of these images, which are all on which it does; what it ends in on each; what fails at each wanted
-- cut; the flushes that are missing for its failures; and of how many of these no flush takes the image away.
pub record IsFailing (s : StartsValue) (images : List ℕ) (outcomes : List (List ℕ)) (program : ℕ) (fs : List Failure) (f : ProgramFailures) : Type 0 where
  pub failing : f.failing ≡ length images
  pub outcomes_are : outcomes_of f ≡ outcomes
  pub cuts : AreCuts s images outcomes f.cuts.items
  pub missing : AreMissing (windows_in (own_failures program fs)) f.missing.items
  pub uncured : f.uncured ≡ length (filter (is_uncured program) fs)

-- the same of that many programs, of which this may be said
pub record AreFailing (s : StartsValue) (Said : ℕ → List ℕ → Type 0) (images : ℕ → List ℕ) (outcomes : ℕ → List (List ℕ)) (fs : List Failure) (count : ℕ) (programs : List ProgramFailures) : Type 0 where
  pub all : length programs ≡ count
  pub named : (program : ℕ) (f : ProgramFailures) → slice_get programs program ≡ Some f → Said program (judge_text f.judge)
  pub each : (program : ℕ) (f : ProgramFailures) → slice_get programs program ≡ Some f → IsFailing s (images program) (outcomes program) program fs f

-- the bytes are their page, with a text about the run
pub record IsPage (about : List ℕ) (s : StartsValue) (Said : ℕ → List ℕ → Type 0) (images : ℕ → List ℕ) (outcomes : ℕ → List (List ℕ)) (fs : List Failure) (count : ℕ) (bytes : List ℕ) : Type 0 where
  pub programs : List ProgramFailures
  pub are : AreFailing s Said images outcomes fs count programs
  pub page : bytes ≡ page_text about s programs

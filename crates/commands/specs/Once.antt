-- Each image on which a program fails stands once in what `why` prints.
use Rattle.std.specs.Prelude.{ℕ, ◌≡◌, Bool, List, length, map, slice_get, Some}
use Rattle.std.specs.List.{sum_by}
use Rattle.choices.specs.Sums.{StartsValue}
use Rattle.losses.specs.declared.why.group.FailingGroup.{FailingGroup}
use Rattle.losses.specs.declared.why.cut.CutFailures.{CutFailures}
use Rattle.losses.specs.ProgramOutcomes.{outcomes_failing}
use Rattle.losses.specs.Failures.{numbers_in, first_at, failing_before, failing_at}
use Rattle.losses.specs.GroupLaws.{StandOnce}
use Rattle.workers.specs.Failing.{failing_lines}
use Rattle.request.specs.declared.settings.Settings.{Settings}
use Rattle.request.specs.Source.{Recording}
use Rattle.runs.specs.Explore.{subject_of}
use Rattle.runs.specs.Why.{images_failing, starts_of, IsExplained}

-- The failing images of the wanted cut of a place stand once in its groups: each under one, that of the example in which the same is
-- lost and the same is torn as in a choice that is a part of its own. The numbers of the groups are those of the images that stand
-- under them, and add up to that of the cut.
pub record StandAtCut (s : StartsValue) (images : List ℕ) (outcomes : List (List ℕ)) (place : ℕ) (c : CutFailures) : Type 0 where
  pub numbers : sum_by (λ (g : FailingGroup). g.failing) c.groups.items ≡ c.failing
  pub once : StandOnce outcomes (failing_before s images place) (failing_at s images place) (map (numbers_in s c.cut (first_at s place)) (failing_at s images place)) c.groups.items

-- These images stand once in what fails at each cut: the numbers of the cuts add up to theirs.
pub record StandAtCuts (s : StartsValue) (images : List ℕ) (outcomes : List (List ℕ)) (cs : List CutFailures) : Type 0 where
  pub all : sum_by (λ (c : CutFailures). c.failing) cs ≡ length images
  pub each : (place : ℕ) (c : CutFailures) → slice_get cs place ≡ Some c → StandAtCut s images outcomes place c

-- The images on which a program fails, by the lines of the report, stand once in what `why` says of it.
abbrev pub EachImageStandsOnce : Type 0
EachImageStandsOnce = (text : Recording) (files : List (List ℕ)) (s : Settings) (bytes : List ℕ) (failing : Bool) (e : IsExplained text files s bytes failing) (program : ℕ)
    (cuts : List CutFailures) → slice_get e.tells.causes program ≡ Some cuts
    → StandAtCuts (starts_of s e.value) (images_failing program (failing_lines (subject_of s e.value e.checkers))) (outcomes_failing program (failing_lines (subject_of s e.value e.checkers))) cuts

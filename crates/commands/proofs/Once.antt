-- Each image on which a program fails stands once in what `why` prints.
use Rattle.std.proofs.Common.{ℕ, ◌+◌, List, map, refl, sym, ◌∙◌, subst}
use Rattle.std.proofs.lemmas.List.{length-map}
use Rattle.choices.specs.Laws.{ListIsSet}
use Rattle.choices.specs.Sums.{StartsValue}
use Rattle.choices.proofs.Plans.{before_more}
use Rattle.checker.specs.Checker.{CheckerValue}
use Rattle.logfmt.specs.Bounds.{LogValue}
use Rattle.report.specs.Line.{FailingLine}
use Rattle.report.specs.Marks.{marks_of}
use Rattle.losses.specs.declared.why.cut.CutFailures.{CutFailures}
use Rattle.losses.specs.ProgramOutcomes.{outcomes_failing}
use Rattle.losses.specs.Failures.{AreImages, IsCut, AreCuts, numbers_in, first_at, failing_before, failing_at}
use Rattle.losses.specs.GroupLaws.{EachStandsOnce, AllStand}
use Rattle.losses.proofs.Between.{of_cut}
use Rattle.losses.proofs.Ordered.{are_choices}
use Rattle.workers.specs.Failing.{failing_lines}
use Rattle.workers.specs.Laws.{LinesAreSet}
use Rattle.request.specs.declared.settings.Settings.{Settings}
use Rattle.runs.specs.Explore.{subject_of}
use Rattle.runs.specs.Why.{images_failing, starts_of}
use Rattle.commands.specs.Once.{StandAtCut, StandAtCuts, EachImageStandsOnce}
use Rattle.runs.proofs.Explained.{are_images, marked_are_failing}

-- the images on which a program fails are images of the run
run_images : LinesAreSet → (s : Settings) (value : LogValue) (checkers : List CheckerValue) (program : ℕ)
    → AreImages (starts_of s value) (images_failing program (failing_lines (subject_of s value checkers)))
run_images law s value checkers program =
    let ls : List FailingLine = failing_lines (subject_of s value checkers) in
    subst (AreImages (starts_of s value)) (marked_are_failing program ls)
    (are_images law s value checkers (starts_of s value) ls (marks_of ls) program refl refl refl)

-- those of a cut stand once in its groups
stand_at_cut : ListIsSet → EachStandsOnce → (s : StartsValue) (images : List ℕ) (outcomes : List (List ℕ)) (place : ℕ) (c : CutFailures) → AreImages s images
    → IsCut s images outcomes place c → StandAtCut s images outcomes place c
stand_at_cut listed law s images outcomes place c are is =
    let own : List ℕ = failing_at s images place in
    let more = before_more s.plan s.bound s.tears place c.cut is.wanted in
    let choices =
    are_choices listed s c.cut (first_at s place) own
    (of_cut s images own c.cut (first_at s place) (first_at s (place + 1)) are refl more) in
    let once = law outcomes (failing_before s images place) own (map (numbers_in s c.cut (first_at s place)) own) c.groups.items choices
    (length-map own (numbers_in s c.cut (first_at s place))) is.grouped in
    record { numbers = once.adds_up ∙ sym is.fails; once = once }

-- and all of them at the cuts
pub stand_at_cuts : ListIsSet → EachStandsOnce → AllStand → (s : StartsValue) (images : List ℕ) (outcomes : List (List ℕ)) (cs : List CutFailures) → AreImages s images
    → AreCuts s images outcomes cs → StandAtCuts s images outcomes cs
stand_at_cuts listed law all s images outcomes cs are cuts =
    record { all = all s images outcomes cs are cuts; each = λ place c at. stand_at_cut listed law s images outcomes place c are (cuts.each place c at) }

pub each_image_stands_once : LinesAreSet → ListIsSet → EachStandsOnce → AllStand → EachImageStandsOnce
each_image_stands_once set listed law all text files s bytes failing e program cuts at =
    let ls : List FailingLine = failing_lines (subject_of s e.value e.checkers) in
    stand_at_cuts listed law all (starts_of s e.value) (images_failing program ls) (outcomes_failing program ls) cuts
    (run_images set s e.value e.checkers program) (e.tells.each program cuts at)

-- Accepted checkers run safely on crash images, since these are devices of their log's size.
use Rattle.std.proofs.Common.{ℕ, ◌≡◌, ◌⊎◌, inl, inr, true, false, slice_get, Some, is_some, sym, ap, refl, subst, ◌∙◌}
use Rattle.std.proofs.lemmas.Option.{same_Some}
use Rattle.logfmt.specs.Bounds.{IsLog}
use Rattle.choices.specs.Choices.{ChoiceValue}
use Rattle.images.specs.Views.{ViewValue, view_of, sectors_of, context_at}
use Rattle.images.proofs.Devices.{images_are_devices}
use Rattle.helpers.specs.declared.device.Context.{Context}
use Rattle.machine.specs.Outcome.{Ending, Verdict, Stopped, OutOfSteps, Stray}
use Rattle.checker.specs.Checker.{CheckerValue, Suits, IsFor, AreFor, judgement}
use Rattle.checker.proofs.Suiting.{suits_image, for_each}
use Rattle.report.specs.Line.{FailingLine}
use Rattle.verifier.specs.Verdicts.{VerifiedValue}
use Rattle.soundness.specs.Accepted.{IsImage, IsSafeRun, AcceptedRunsSafely}
use Rattle.soundness.specs.Guards.{IsSafeRunWithGuards, GuardedRunsSafely}
use Rattle.workers.specs.Failing.{Subject, ending_at}
use Rattle.workers.specs.Laws.{IsFailing}
use Rattle.workers.specs.Safe.{IsVerdict, IsAcceptedBy, IsAcceptedFor, IsOverWithGuards, AcceptedCheckersRunSafely}
use Rattle.workers.proofs.Sets.{listed}

-- a crash image is one on which accepted programs run safely
pub is_image : (view : ViewValue) → IsLog view.log → IsImage view.log.sectors (sectors_of view) (context_at view.log view.cut)
is_image view is =
    let shows = images_are_devices view is in
    record {
      count = shows.count;
      whole = λ n sector there. record { long = shows.long n sector there; bytes = shows.bytes n sector there };
      told = refl;
      epoch = shows.fits.epoch;
      marks = shows.fits.marks;
    }

-- a checker that is for the device of the log may judge it
pub may_judge : (view : ViewValue) (context : Context) (checker : CheckerValue) → IsLog view.log → context ≡ context_at view.log view.cut
    → IsFor view.log.sectors checker.verified → Suits checker.verified (sectors_of view) context
may_judge view context checker is told fits =
    suits_image checker.verified view.log.sectors (sectors_of view) context fits (subst (IsImage view.log.sectors (sectors_of view)) (sym told) (is_image view is))

-- as each checker of a run is
pub each_fits : (s : Subject) (view : ViewValue) (choice : ChoiceValue) (n : ℕ) (checker : CheckerValue) → AreFor s.plan.log.sectors s.checkers
    → view ≡ view_of s.plan choice → slice_get s.checkers n ≡ Some checker → IsFor view.log.sectors checker.verified
each_fits s view choice n checker fit e there =
    subst (λ (v : ViewValue). IsFor v.log.sectors checker.verified) (sym e) (for_each s.plan.log.sectors s.checkers n checker fit there)

-- without guards

safe_at : AcceptedRunsSafely → (s : Subject) (checker : CheckerValue) (choice : ChoiceValue) → IsLog s.plan.log → IsAcceptedFor s checker
    → IsSafeRun checker.program (sectors_of (view_of s.plan choice)) (context_at s.plan.log choice.cut) checker.limit
safe_at sound s checker choice is it =
    sound checker.program s.plan.log.sectors checker.limit (sectors_of (view_of s.plan choice)) (context_at s.plan.log choice.cut) it.accepted
    (is_image (view_of s.plan choice) is)

pub verdict_at : (s : Subject) (checker : CheckerValue) (choice : ChoiceValue) → is_some checker.guards ≡ false
    → IsSafeRun checker.program (sectors_of (view_of s.plan choice)) (context_at s.plan.log choice.cut) checker.limit → IsVerdict (ending_at s choice checker)
unfolding ending_at judgement
verdict_at s checker choice kind safe = (safe.answer, safe.codes, rw kind safe.ends)

of_line : AcceptedRunsSafely → (s : Subject) (l : FailingLine) (checker : CheckerValue) → IsLog s.plan.log → IsFailing s l
    → slice_get s.checkers l.program ≡ Some checker → IsAcceptedFor s checker → IsVerdict l.ending
of_line sound s l checker is failing named accepted =
    let same : checker ≡ failing.checker = same_Some checker failing.checker (sym named ∙ failing.of_program) in
    let it : IsAcceptedFor s failing.checker = subst (IsAcceptedFor s) same accepted in
    subst IsVerdict (sym failing.ends) (verdict_at s failing.checker failing.choice it.kind (safe_at sound s failing.checker failing.choice is it))

-- with guards

guarded_at : GuardedRunsSafely → (s : Subject) (checker : CheckerValue) (choice : ChoiceValue) → IsLog s.plan.log → (it : IsAcceptedBy true s checker)
    → IsSafeRunWithGuards checker.program it.accepted.0 (sectors_of (view_of s.plan choice)) (context_at s.plan.log choice.cut) checker.limit
guarded_at sound s checker choice is it =
    let v : VerifiedValue = record { guards = true; program = checker.program; sectors = s.plan.log.sectors; budget = checker.limit; table = it.accepted.0 } in
    sound v (sectors_of (view_of s.plan choice)) (context_at s.plan.log choice.cut) it.accepted.1 refl (is_image (view_of s.plan choice) is)

pub over_at : (s : Subject) (checker : CheckerValue) (choice : ChoiceValue) (it : IsAcceptedBy true s checker)
    → IsSafeRunWithGuards checker.program it.accepted.0 (sectors_of (view_of s.plan choice)) (context_at s.plan.log choice.cut) checker.limit
    → IsOverWithGuards s checker it (ending_at s choice checker)
unfolding ending_at judgement
over_at s checker choice it safe = rw it.kind safe.ends

guarded_line : GuardedRunsSafely → (s : Subject) (l : FailingLine) (checker : CheckerValue) → IsLog s.plan.log → IsFailing s l
    → slice_get s.checkers l.program ≡ Some checker → (it : IsAcceptedBy true s checker) → IsOverWithGuards s checker it l.ending
guarded_line sound s l checker is failing named it =
    let same : checker ≡ failing.checker = same_Some checker failing.checker (sym named ∙ failing.of_program) in
    let ends : ending_at s failing.choice checker ≡ l.ending = ap (ending_at s failing.choice) same ∙ sym failing.ends in
    subst (IsOverWithGuards s checker it) ends (over_at s checker failing.choice it (guarded_at sound s checker failing.choice is it))

-- that is a verdict or a stray
pub verdict_or_stray : (s : Subject) (checker : CheckerValue) (it : IsAcceptedBy true s checker) (e : Ending) → IsOverWithGuards s checker it e
    → IsVerdict e ⊎ ((slot : ℕ) × (e ≡ Stray slot))
verdict_or_stray s checker it (Verdict answer codes) over = inl (answer, codes, refl)
verdict_or_stray s checker it (Stopped cause slot) over = absurd over
verdict_or_stray s checker it OutOfSteps over = absurd over
verdict_or_stray s checker it (Stray slot) over = inr (slot, refl)

pub accepted_run_safely : AcceptedRunsSafely → GuardedRunsSafely → AcceptedCheckersRunSafely
accepted_run_safely sound guarded = record {
  images = λ s checker is accepted image choice there. safe_at sound s checker choice is accepted;
  lines = λ s i l checker is there named accepted. of_line sound s l checker is ((listed s).sound i l there) named accepted;
  guarded_images = λ s checker is accepted image choice there. guarded_at guarded s checker choice is accepted;
  guarded_lines = λ s i l checker is there named accepted. guarded_line guarded s l checker is ((listed s).sound i l there) named accepted;
}

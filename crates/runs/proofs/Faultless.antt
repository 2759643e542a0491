-- Without a limit of steps that is asked for, no run has a fault or spends its limit; with guards one may stray at a guarded slot.
use Rattle.std.proofs.Common.{ℕ, zero, suc, ◌≡◌, Bool, true, false, if◌then◌else◌, List, [], ◌∷◌, Option, None, Some, is_some, slice_get, refl, sym, ◌∙◌, ap, subst}
use Rattle.std.proofs.lemmas.Option.{same_Some}
use Rattle.logfmt.specs.Bounds.{LogValue, IsLog}
use Rattle.verifier.specs.Verdicts.{VerifiedValue, IsVerified, IsAcceptedWith}
use Rattle.checker.specs.Checker.{CheckerValue}
use Rattle.workers.specs.Failing.{Subject}
use Rattle.workers.specs.Safe.{IsAcceptedBy, AcceptedCheckersRunSafely}
use Rattle.workers.proofs.Sets.{listed}
use Rattle.request.proofs.Logs.{bounds_of, device_of}
use Rattle.request.specs.declared.settings.Settings.{Settings}
use Rattle.runs.specs.Programs.{IsAcceptedChecker, IsRunWithin}
use Rattle.request.specs.Source.{Recording, HasImages}
use Rattle.runs.specs.Explore.{AreCheckersOf, IsSafe, subject_of}

accepted_one : (checked : Option ℕ) (guards : Bool) (sectors : ℕ) (c : CheckerValue) → checked ≡ None → IsRunWithin checked guards sectors c → IsAcceptedChecker guards sectors c
accepted_one None guards sectors c free within = within
accepted_one (Some limit) guards sectors c free within = absurd (let bad : Some limit ≡ None = free in cc)

-- each program is accepted
pub accepted_all : (s : Settings) (files : List (List ℕ)) (checkers : List CheckerValue) (n : ℕ) (c : CheckerValue) → AreCheckersOf s files checkers → s.checked ≡ None
    → slice_get checkers n ≡ Some c → IsAcceptedChecker s.guards s.sectors c
accepted_all s files [] n c made free there = absurd (let bad : None ≡ Some c = there in cc)
accepted_all s [] (d ∷ checkers) n c made free there = absurd made
accepted_all s (bytes ∷ files) (d ∷ checkers) zero c made free there =
    subst (λ (x : CheckerValue). IsAcceptedChecker s.guards s.sectors x) (same_Some d c there) (accepted_one s.checked s.guards s.sectors d free made.0.within)
accepted_all s (bytes ∷ files) (d ∷ checkers) (suc n) c made free there = accepted_all s files checkers n c made.1 free there

some_if : (b : Bool) (n : ℕ) → is_some (if b then Some n else None) ≡ b
some_if true n = refl
some_if false n = refl

-- for the device of the log
pub accepted_by : (guards : Bool) (subject : Subject) (sectors : ℕ) (c : CheckerValue) → subject.plan.log.sectors ≡ sectors → IsAcceptedChecker guards sectors c → IsAcceptedBy guards subject c
accepted_by guards subject sectors c device h =
    let v : VerifiedValue = h.verified in
    let n : ℕ = subject.plan.log.sectors in
    let kind : IsVerified (record { guards = guards; program = v.program; sectors = v.sectors; budget = v.budget; table = v.table }) =
    subst (λ (g : Bool). IsVerified (record { guards = g; program = v.program; sectors = v.sectors; budget = v.budget; table = v.table })) h.kind h.is in
    let size : IsVerified (record { guards = guards; program = v.program; sectors = n; budget = v.budget; table = v.table }) =
    subst (λ (k : ℕ). IsVerified (record { guards = guards; program = v.program; sectors = k; budget = v.budget; table = v.table })) (h.size ∙ sym device) kind in
    record {
      accepted = subst (λ (x : CheckerValue). IsAcceptedWith guards x.program n x.limit) (sym h.made) (v.table, size);
      kind = ap (λ (x : CheckerValue). is_some x.guards) h.made ∙ some_if v.guards _ ∙ h.kind;
    }

-- so no run has a fault
safe_by : AcceptedCheckersRunSafely → (guards : Bool) (subject : Subject) → IsLog subject.plan.log
    → ((n : ℕ) (c : CheckerValue) → slice_get subject.checkers n ≡ Some c → IsAcceptedBy guards subject c) → IsSafe guards subject
safe_by sound false subject is accepted = record {
  runs = λ n c there. (accepted n c there, sound.images subject c is (accepted n c there));
  lines = λ i l there.
      let failing = (listed subject).sound i l there in
      sound.lines subject i l failing.checker is there failing.of_program (accepted l.program failing.checker failing.of_program);
}
safe_by sound true subject is accepted = record {
  runs = λ n c there. (accepted n c there, sound.guarded_images subject c is (accepted n c there));
  lines = λ i l there.
      let failing = (listed subject).sound i l there in
      record {
        checker = failing.checker;
        of_program = failing.of_program;
        is = accepted l.program failing.checker failing.of_program;
        over = sound.guarded_lines subject i l failing.checker is there failing.of_program (accepted l.program failing.checker failing.of_program);
      };
}

pub faultless : AcceptedCheckersRunSafely → (text : Recording) (s : Settings) (files : List (List ℕ)) (log : LogValue) (checkers : List CheckerValue) → HasImages text s log
    → AreCheckersOf s files checkers → s.checked ≡ None → IsSafe s.guards (subject_of s log checkers)
faultless sound text s files log checkers source made free =
    let is : IsLog log = bounds_of text s log source.reads in
    let subject : Subject = subject_of s log checkers in
    safe_by sound s.guards subject is
    (λ n c there. accepted_by s.guards subject s.sectors c (device_of text s log source.reads) (accepted_all s files checkers n c made free there))

-- What stands in the list of a run's jobs: rising images, and outcomes by keys.
use Rattle.std.proofs.Common.{ℕ, zero, suc, ◌≡◌, ◌+◌, ◌≤◌, inl, inr, List, [], ◌∷◌, ◌++◌, length, Option, None, Some, option_map, slice_get, refl, sym, ◌∙◌, ap, arith}
use Rattle.std.specs.Option.{option_and_then}
use Rattle.std.specs.List.{cons_option, filter_map, range_with_len}
use Rattle.choices.specs.Choices.{ChoiceValue}
use Rattle.checker.specs.Checker.{CheckerValue}
use Rattle.machine.specs.Outcome.{fails}
use Rattle.verdict_cache.specs.Endings.{ending_on}
use Rattle.verdict_cache.specs.Laws.{OneImageTells}
use Rattle.workers.specs.Failing.{Subject, choices_of, ending_at}
use Rattle.explore_core.specs.declared.job.Job.{Job}
use Rattle.explore_core.specs.Jobs.{Rise, Agree}
use Rattle.run_jobs.specs.Jobs.{Numbers, AreNumbers, ShareKey, job_with, job_at, job_of, image_jobs, jobs_from}
use Rattle.run_jobs.specs.Laws.{FailByOutcome}

-- a job of the run, of that image
pub record IsRunJob (s : Subject) (n : Numbers) (j : Job) : Type 0 where
  pub choice : ChoiceValue
  pub of_image : slice_get (choices_of s) j.image ≡ Some choice
  pub program : ℕ
  pub checker : CheckerValue
  pub of_program : slice_get s.checkers program ≡ Some checker
  pub key : j.key ≡ n.key j.image program
  pub outcome : j.outcome ≡ n.ending (ending_at s choice checker)
  pub fail : j.fails ≡ fails (ending_at s choice checker)

abbrev IsOfOption : Subject → Numbers → ℕ → Option Job → Type 0
IsOfOption s n i None = Unit {0}
IsOfOption s n i (Some j) = (j.image ≡ i) × IsRunJob s n j

of_pair : (s : Subject) (n : Numbers) (i p : ℕ) → IsOfOption s n i (job_of s n i p)
unfolding job_of
of_pair s n i p = at_choice (slice_get (choices_of s) i) refl
  where
    at_checker : (choice : ChoiceValue) (o : Option CheckerValue) → slice_get (choices_of s) i ≡ Some choice → slice_get s.checkers p ≡ o
        → IsOfOption s n i (option_map (λ checker. job_with n i p (ending_at s choice checker)) o)
    at_checker choice None there named = tt
    at_checker choice (Some checker) there named = (
      refl,
      record {
        choice = choice;
        of_image = there;
        program = p;
        checker = checker;
        of_program = named;
        key = refl;
        outcome = refl;
        fail = refl;
      },
    )

    at_choice : (o : Option ChoiceValue) → slice_get (choices_of s) i ≡ o → IsOfOption s n i (option_and_then (λ choice. job_at s n i choice p) o)
    at_choice None there = tt
    at_choice (Some choice) there = at_checker choice (slice_get s.checkers p) there refl

-- images never fall

lower : (low high : ℕ) (js : List Job) → low ≤ high → Rise high js → Rise low js
lower low high [] le h = tt
lower low high (j ∷ js) le h = (omega (arith, le, h.0), h.1)

rise_option : (s : Subject) (n : Numbers) (i low : ℕ) (o : Option Job) (rest more : List Job) → IsOfOption s n i o → low ≤ i
    → ((a : ℕ) → a ≤ i → Rise a (rest ++ more)) → Rise low (cons_option o rest ++ more)
rise_option s n i low None rest more is le h = h low le
rise_option s n i low (Some j) rest more is le h = (omega (arith, is.0, le), h j.image (omega (arith, is.0)))

rise_checkers : (s : Subject) (n : Numbers) (i low a k : ℕ) (more : List Job) → low ≤ i → Rise i more
    → Rise low (filter_map (job_of s n i) (range_with_len a k) ++ more)
rise_checkers s n i low a zero more le h = lower low i more le h
rise_checkers s n i low a (suc k) more le h =
    rise_option s n i low (job_of s n i a) (filter_map (job_of s n i) (range_with_len (a + 1) k)) more (of_pair s n i a) le
    (λ b lt. rise_checkers s n i b (a + 1) k more lt h)

pub rise_images : (s : Subject) (n : Numbers) (low a k : ℕ) → low ≤ a → Rise low (jobs_from s n a k)
rise_images s n low a zero le = tt
rise_images s n low a (suc k) le = rise_checkers s n a low 0 (length s.checkers) (jobs_from s n (a + 1) k) le (rise_images s n a (a + 1) k (omega arith))

-- each is a job of the run

abbrev AreAll : Subject → Numbers → List Job → Type 0
AreAll s n [] = Unit {0}
AreAll s n (j ∷ js) = IsRunJob s n j × AreAll s n js

all_append : (s : Subject) (n : Numbers) (xs ys : List Job) → AreAll s n xs → AreAll s n ys → AreAll s n (xs ++ ys)
all_append s n [] ys h g = g
all_append s n (x ∷ xs) ys h g = (h.0, all_append s n xs ys h.1 g)

all_option : (s : Subject) (n : Numbers) (i : ℕ) (o : Option Job) (js : List Job) → IsOfOption s n i o → AreAll s n js → AreAll s n (cons_option o js)
all_option s n i None js is h = h
all_option s n i (Some j) js is h = (is.1, h)

all_checkers : (s : Subject) (n : Numbers) (i a k : ℕ) → AreAll s n (filter_map (job_of s n i) (range_with_len a k))
all_checkers s n i a zero = tt
all_checkers s n i a (suc k) = all_option s n i (job_of s n i a) (filter_map (job_of s n i) (range_with_len (a + 1) k)) (of_pair s n i a) (all_checkers s n i (a + 1) k)

all_images : (s : Subject) (n : Numbers) (a k : ℕ) → AreAll s n (jobs_from s n a k)
all_images s n a zero = tt
all_images s n a (suc k) = all_append s n (image_jobs s n a) (jobs_from s n (a + 1) k) (all_checkers s n a 0 (length s.checkers)) (all_images s n (a + 1) k)

at_place : (s : Subject) (n : Numbers) (js : List Job) (i : ℕ) (j : Job) → AreAll s n js → slice_get js i ≡ Some j → IsRunJob s n j
at_place s n [] i j h there = absurd (let bad : None ≡ Some j = there in cc)
at_place s n (x ∷ xs) zero j h there = same (let e : Some x ≡ Some j = there in cc) h.0
  where
    same : {x : Job} → x ≡ j → IsRunJob s n x → IsRunJob s n j
    same e is = rw (← e) is
at_place s n (x ∷ xs) (suc i) j h there = at_place s n xs i j h.1 there

-- endings of one key

told : (s : Subject) (a b : ChoiceValue) (p q : ℕ) (c d : CheckerValue) → OneImageTells → ShareKey s a p b q
    → slice_get s.checkers p ≡ Some c → slice_get s.checkers q ≡ Some d → ending_at s a c ≡ ending_at s b d
unfolding ending_at
told s a b p q c d tell share first second =
    let e : ending_on s.plan a c ≡ ending_on s.plan b d = tell s.plan s.checkers a p c share.key first share.one b q d second share.other in e

same_pair : (s : Subject) (a b : ChoiceValue) (i j p q : ℕ) (c d : CheckerValue) → i ≡ j → p ≡ q
    → slice_get (choices_of s) i ≡ Some a → slice_get (choices_of s) j ≡ Some b
    → slice_get s.checkers p ≡ Some c → slice_get s.checkers q ≡ Some d → ending_at s a c ≡ ending_at s b d
same_pair s a b i j p q c d same again here there first second =
    let choices : Some a ≡ Some b = sym here ∙ ap (slice_get (choices_of s)) same ∙ there in
    let checkers : Some c ≡ Some d = sym first ∙ ap (slice_get s.checkers) again ∙ second in
    let e : a ≡ b = cc in
    let f : c ≡ d = cc in
    rw (e, f) refl

agree_two : (s : Subject) (n : Numbers) (a b : Job) → OneImageTells → AreNumbers s n → IsRunJob s n a → IsRunJob s n b → a.key ≡ b.key → a.outcome ≡ b.outcome
agree_two s n a b tell numbers ha hb e =
    let key : n.key a.image ha.program ≡ n.key b.image hb.program = sym ha.key ∙ e ∙ hb.key in
    let ending : ending_at s ha.choice ha.checker ≡ ending_at s hb.choice hb.checker = elim (numbers.keys a.image ha.program b.image hb.program ha.choice hb.choice ha.of_image hb.of_image key) [
      | inl same ↦ same_pair s ha.choice hb.choice a.image b.image ha.program hb.program ha.checker hb.checker same.0 same.1 ha.of_image hb.of_image ha.of_program hb.of_program
      | inr share ↦ told s ha.choice hb.choice ha.program hb.program ha.checker hb.checker tell share ha.of_program hb.of_program
    ] in
    ha.outcome ∙ ap n.ending ending ∙ sym hb.outcome

pub agree_images : (s : Subject) (n : Numbers) (a k : ℕ) → OneImageTells → AreNumbers s n → Agree (jobs_from s n a k)
agree_images s n a k tell numbers = λ i l x y at there e.
    agree_two s n x y tell numbers (at_place s n (jobs_from s n a k) i x (all_images s n a k) at) (at_place s n (jobs_from s n a k) l y (all_images s n a k) there) e

fail_two : (s : Subject) (n : Numbers) (a b : Job) → AreNumbers s n → IsRunJob s n a → IsRunJob s n b → a.outcome ≡ b.outcome → a.fails ≡ b.fails
fail_two s n a b numbers ha hb e =
    ha.fail ∙ numbers.endings (ending_at s ha.choice ha.checker) (ending_at s hb.choice hb.checker) (sym ha.outcome ∙ e ∙ hb.outcome) ∙ sym hb.fail

pub fail_images : (s : Subject) (n : Numbers) (a k : ℕ) → AreNumbers s n → FailByOutcome (jobs_from s n a k)
fail_images s n a k numbers = λ i l x y at there e.
    fail_two s n x y numbers (at_place s n (jobs_from s n a k) i x (all_images s n a k) at) (at_place s n (jobs_from s n a k) l y (all_images s n a k) there) e

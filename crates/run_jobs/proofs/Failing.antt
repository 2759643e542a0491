-- The failing jobs of a run are its lines.
use Rattle.std.proofs.Common.{ℕ, zero, suc, ◌≡◌, ◌+◌, ◌*◌, ◌-◌, ◌<◌, inl, inr, min, Bool, true, false, cond, if◌then◌else◌, List, [], ◌∷◌, ◌++◌, length, map, Option, None, Some, option_map, slice_get, refl, sym, ◌∙◌, ap, ap₂, subst, arith, append-nil}
use Rattle.std.specs.Option.{option_and_then}
use Rattle.std.specs.List.{cons_option, filter_map, flat_map, range_with_len}
use Rattle.std.proofs.lemmas.Bool.{cases_lt}
use Rattle.std.proofs.lemmas.Grind.{flat_map-append}
use Rattle.std.proofs.lemmas.List.{map-append}
use Rattle.std.proofs.lemmas.List.Elements.{filter-append}
use Rattle.base.proofs.Lists.{range_with_len-more, range_with_len-append}
use Rattle.epochs.specs.declared.part.By.{By}
use Rattle.choices.specs.Choices.{ChoiceValue}
use Rattle.checker.specs.Checker.{CheckerValue}
use Rattle.machine.specs.Outcome.{Ending, fails}
use Rattle.report.specs.Line.{FailingLine}
use Rattle.workers.specs.Failing.{Subject, choices_of, judged_count, ending_at, line_if, line_at, line_of, image_lines, lines_from, failing_lines, part}
use Rattle.workers.specs.Pieces.{block_count}
use Rattle.explore_core.specs.declared.job.Job.{Job}
use Rattle.explore_core.specs.Jobs.{all_jobs, block_at, failing}
use Rattle.run_jobs.specs.Jobs.{Numbers, job_with, job_at, job_of, image_jobs, jobs_from, block_jobs, jobs_of, job_of_line}

-- an image and a checker have a job that doesn't fail and no line, or a job that fails and is that of their line
abbrev Matches : Numbers → Option Job → Option FailingLine → Type 0
Matches n None None = Unit {0}
Matches n None (Some l) = ⊥
Matches n (Some j) None = j.fails ≡ false
Matches n (Some j) (Some l) = (j.fails ≡ true) × (j ≡ job_of_line n l)

fails_so : (n : Numbers) (way : By) (i p : ℕ) (choice : ChoiceValue) (ending : Ending) (b : Bool) → fails ending ≡ b
    → Matches n (Some (job_with n i p ending))
    (if b then Some (record { image = i; cut = choice.cut; program = p; ending = ending; by = way; departures = choice.departures }) else None)
fails_so n way i p choice ending false f = f
fails_so n way i p choice ending true f = (f, refl)

matches_pair : (s : Subject) (n : Numbers) (i p : ℕ) → Matches n (job_of s n i p) (line_of s i p)
unfolding job_of line_of
matches_pair s n i p = at_choice (slice_get (choices_of s) i)
  where
    at_checker : (choice : ChoiceValue) (o : Option CheckerValue)
        → Matches n (option_map (λ checker. job_with n i p (ending_at s choice checker)) o)
        (option_and_then (λ checker. line_if s.plan.by i choice p (ending_at s choice checker)) o)
    at_checker choice None = tt
    at_checker choice (Some checker) = fails_so n s.plan.by i p choice (ending_at s choice checker) (fails (ending_at s choice checker)) refl

    at_choice : (o : Option ChoiceValue)
        → Matches n (option_and_then (λ choice. job_at s n i choice p) o) (option_and_then (λ choice. line_at s i choice p) o)
    at_choice None = tt
    at_choice (Some choice) = at_checker choice (slice_get s.checkers p)

failing_option : (n : Numbers) (j : Option Job) (l : Option FailingLine) (js : List Job) (ls : List FailingLine) → Matches n j l
    → failing js ≡ map (job_of_line n) ls → failing (cons_option j js) ≡ map (job_of_line n) (cons_option l ls)
failing_option n None None js ls h e = e
failing_option n None (Some l) js ls h e = absurd h
failing_option n (Some j) None js ls h e = ap (λ b. cond b (j ∷ failing js) (failing js)) h ∙ e
failing_option n (Some j) (Some l) js ls h e =
    ap (λ b. cond b (j ∷ failing js) (failing js)) h.0 ∙ ap₂ (λ (x : Job) (xs : List Job). x ∷ xs) h.1 e

failing_checkers : (s : Subject) (n : Numbers) (i a k : ℕ)
    → failing (filter_map (job_of s n i) (range_with_len a k)) ≡ map (job_of_line n) (filter_map (line_of s i) (range_with_len a k))
failing_checkers s n i a zero = refl
failing_checkers s n i a (suc k) =
    failing_option n (job_of s n i a) (line_of s i a) (filter_map (job_of s n i) (range_with_len (a + 1) k)) (filter_map (line_of s i) (range_with_len (a + 1) k))
    (matches_pair s n i a) (failing_checkers s n i (a + 1) k)

failing_image : (s : Subject) (n : Numbers) (i : ℕ) → failing (image_jobs s n i) ≡ map (job_of_line n) (image_lines s i)
unfolding image_lines
failing_image s n i = failing_checkers s n i 0 (length s.checkers)

-- of some images in a row
pub failing_images : (s : Subject) (n : Numbers) (a k : ℕ) → failing (jobs_from s n a k) ≡ map (job_of_line n) (lines_from s a k)
failing_images s n a zero = refl
failing_images s n a (suc k) = both (image_jobs s n a) (jobs_from s n (a + 1) k) (image_lines s a) (lines_from s (a + 1) k) (failing_image s n a) (failing_images s n (a + 1) k)
  where
    both : (xs ys : List Job) (us vs : List FailingLine) → failing xs ≡ map (job_of_line n) us → failing ys ≡ map (job_of_line n) vs
        → failing (xs ++ ys) ≡ map (job_of_line n) (us ++ vs)
    both xs ys us vs e f =
        filter-append (λ (j : Job). j.fails) xs ys ∙ ap₂ (λ (x y : List Job). x ++ y) e f ∙ sym (map-append (job_of_line n) us vs)

-- the jobs of all blocks

element : (f : ℕ → List Job) (a k b : ℕ) → b < k → slice_get (map f (range_with_len a k)) b ≡ Some (f (a + b))
element f a zero b lt = absurd (omega (arith, lt))
element f a (suc k) zero lt = let e : a + 0 ≡ a = omega arith in rw e refl
element f a (suc k) (suc b) lt =
    let e : a + 1 + b ≡ a + suc b = omega arith in
    element f (a + 1) k b (omega (arith, lt)) ∙ ap (λ x. Some (f x)) e

pub block_is : (s : Subject) (n : Numbers) (b : ℕ) → b < block_count s → block_at (jobs_of s n) b ≡ block_jobs s n b
block_is s n b lt = rw (element (block_jobs s n) 0 (block_count s) b lt) (let e : 0 + b ≡ b = omega arith in ap (block_jobs s n) e)

flattened : (f : ℕ → List Job) (xs : List ℕ) → flat_map (λ (js : List Job). js) (map f xs) ≡ flat_map f xs
flattened f [] = refl
flattened f (x ∷ xs) = ap (λ (js : List Job). f x ++ js) (flattened f xs)

abbrev rows : Subject → Numbers → ℕ → List Job
rows s n k = flat_map (block_jobs s n) (range_with_len 0 k)

block_after : (s : Subject) (n : Numbers) (k : ℕ)
    → jobs_from s n s.from (min (64 * k) (judged_count s)) ++ block_jobs s n k ≡ jobs_from s n s.from (min (64 * (k + 1)) (judged_count s))
block_after s n k = elim (cases_lt (judged_count s) (64 * k)) [
  | inl less ↦
      let none : min 64 (judged_count s - 64 * k) ≡ 0 = omega (arith, less) in
      let same : min (64 * k) (judged_count s) ≡ min (64 * (k + 1)) (judged_count s) = omega (arith, less) in
      rw (none, same) (append-nil (jobs_from s n s.from (min (64 * (k + 1)) (judged_count s))))
  | inr more ↦
      let e : min (64 * k) (judged_count s) ≡ 64 * k = omega (arith, more) in
      let f : min (64 * (k + 1)) (judged_count s) ≡ 64 * k + min 64 (judged_count s - 64 * k) = omega (arith, more) in
      rw (e, f, range_with_len-append s.from (64 * k) (min 64 (judged_count s - 64 * k)), flat_map-append (image_jobs s n) (range_with_len s.from (64 * k)) (range_with_len (s.from + 64 * k) (min 64 (judged_count s - 64 * k)))) refl
]

row_more : (s : Subject) (n : Numbers) (k : ℕ) → rows s n (k + 1) ≡ rows s n k ++ block_jobs s n k
row_more s n k =
    let z : 0 + k ≡ k = omega arith in
    rw (range_with_len-more 0 k, z, flat_map-append (block_jobs s n) (range_with_len 0 k) (k ∷ []), append-nil (block_jobs s n k)) refl

joined : (s : Subject) (n : Numbers) (k : ℕ) → rows s n k ≡ jobs_from s n s.from (min (64 * k) (judged_count s))
joined s n zero = let e : min (64 * 0) (judged_count s) ≡ 0 = omega arith in rw e refl
joined s n (suc k) =
    let e : k + 1 ≡ suc k = omega arith in
    subst (λ m. rows s n m ≡ jobs_from s n s.from (min (64 * m) (judged_count s))) e
    (row_more s n k ∙ ap (λ (js : List Job). js ++ block_jobs s n k) (joined s n k) ∙ block_after s n k)

pub all_is : (s : Subject) (n : Numbers) → all_jobs (jobs_of s n) ≡ jobs_from s n s.from (judged_count s)
all_is s n =
    let e : min (64 * block_count s) (judged_count s) ≡ judged_count s = omega arith in
    flattened (block_jobs s n) (range_with_len 0 (block_count s)) ∙ joined s n (block_count s) ∙ ap (λ k. jobs_from s n s.from k) e

pub each_fails : (s : Subject) (n : Numbers) (b : ℕ) → b < block_count s → failing (block_at (jobs_of s n) b) ≡ map (job_of_line n) (part s b)
unfolding part
each_fails s n b lt = ap failing (block_is s n b lt) ∙ failing_images s n (s.from + 64 * b) (min 64 (judged_count s - 64 * b))

pub all_fail : (s : Subject) (n : Numbers) → failing (all_jobs (jobs_of s n)) ≡ map (job_of_line n) (failing_lines s)
unfolding failing_lines
all_fail s n = ap failing (all_is s n) ∙ failing_images s n s.from (judged_count s)

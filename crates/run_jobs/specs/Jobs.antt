-- The jobs of a run: each image with each checker (docs/PROVED.md, Threads and the cache).
use Rattle.std.specs.Prelude.{ℕ, ◌≡◌, ◌⊎◌, ◌+◌, ◌-◌, ◌*◌, min, List, length, map, Option, option_map, Some, slice_get}
use Rattle.std.specs.Option.{option_and_then}
use Rattle.std.specs.List.{filter_map, flat_map, range_with_len}
use Rattle.choices.specs.Choices.{ChoiceValue}
use Rattle.machine.specs.Outcome.{Ending, fails}
use Rattle.images.specs.Views.{view_of}
use Rattle.images.specs.Keys.{KeyValue, key_of}
use Rattle.report.specs.Line.{FailingLine}
use Rattle.workers.specs.Failing.{Subject, choices_of, judged_count, ending_at}
use Rattle.workers.specs.Pieces.{block_count}
use Rattle.explore_core.specs.declared.job.Job.{Job}

-- by which number a job names the key of an image and a checker, and an ending
pub record Numbers : Type 0 where
  pub key : ℕ → ℕ → ℕ
  pub ending : Ending → ℕ

-- the key of an image and of a checker is that of another image and checker
pub record ShareKey (s : Subject) (a : ChoiceValue) (p : ℕ) (b : ChoiceValue) (q : ℕ) : Type 0 where
  pub key : KeyValue
  pub one : key_of (view_of s.plan a) p ≡ Some key
  pub other : key_of (view_of s.plan b) q ≡ Some key

-- images and checkers with one number are the same, or have one key; endings with one number both fail, or neither does
pub record AreNumbers (s : Subject) (n : Numbers) : Type 0 where
  pub keys : (i p j q : ℕ) (a b : ChoiceValue) → slice_get (choices_of s) i ≡ Some a → slice_get (choices_of s) j ≡ Some b
      → n.key i p ≡ n.key j q → ((i ≡ j) × (p ≡ q)) ⊎ ShareKey s a p b q
  pub endings : (e f : Ending) → n.ending e ≡ n.ending f → fails e ≡ fails f

-- the job of an image and a checker that ends so
abbrev pub job_with : Numbers → ℕ → ℕ → Ending → Job
job_with n image program ending = record { image = image; key = n.key image program; outcome = n.ending ending; fails = fails ending }

abbrev pub job_at : Subject → Numbers → ℕ → ChoiceValue → ℕ → Option Job
job_at s n image choice program = option_map (λ checker. job_with n image program (ending_at s choice checker)) (slice_get s.checkers program)

unfoldable pub job_of : Subject → Numbers → ℕ → ℕ → Option Job
job_of s n image program = option_and_then (λ choice. job_at s n image choice program) (slice_get (choices_of s) image)

-- the jobs of an image, by checker
abbrev pub image_jobs : Subject → Numbers → ℕ → List Job
image_jobs s n image = filter_map (job_of s n image) (range_with_len 0 (length s.checkers))

-- the jobs of k images from a on, by image
abbrev pub jobs_from : Subject → Numbers → ℕ → ℕ → List Job
jobs_from s n a k = flat_map (image_jobs s n) (range_with_len a k)

-- the jobs of a block: of 64 images in a row, or of those that are left
abbrev pub block_jobs : Subject → Numbers → ℕ → List Job
block_jobs s n block = jobs_from s n (s.from + 64 * block) (min 64 (judged_count s - 64 * block))

-- the jobs of a run, in its blocks
abbrev pub jobs_of : Subject → Numbers → List (List Job)
jobs_of s n = map (block_jobs s n) (range_with_len 0 (block_count s))

-- the job of a failing line
abbrev pub job_of_line : Numbers → FailingLine → Job
job_of_line n l = job_with n l.image l.program l.ending

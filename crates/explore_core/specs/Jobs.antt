-- Jobs in blocks (docs/PROVED.md, Threads and the cache).
use Rattle.std.specs.Prelude.{ℕ, ◌≡◌, ◌≤◌, nat_lt, Bool, List, [], ◌∷◌, filter, find, Option, option_map, Some, slice_get, unwrap_or}
use Rattle.std.specs.List.{flat_map, list_all}
use Rattle.explore_core.specs.declared.job.Job.{Job}

-- all jobs, one block after the other
abbrev pub all_jobs : List (List Job) → List Job
all_jobs blocks = flat_map (λ b. b) blocks

-- each image is at least the one before, and the first at least `low`
abbrev pub Rise : ℕ → List Job → Type 0
Rise low [] = Unit {0}
Rise low (j ∷ js) = (low ≤ j.image) × Rise j.image js

-- equal keys have equal outcomes
abbrev pub Agree : List Job → Type 0
Agree js = (i k : ℕ) (a b : Job) → slice_get js i ≡ Some a → slice_get js k ≡ Some b → a.key ≡ b.key → a.outcome ≡ b.outcome

-- images never fall from job to job, and equal keys have equal outcomes
pub record AreJobs (blocks : List (List Job)) : Type 0 where
  pub rise : Rise 0 (all_jobs blocks)
  pub agree : Agree (all_jobs blocks)

-- the jobs of a block
abbrev pub block_at : List (List Job) → ℕ → List Job
block_at blocks b = unwrap_or (slice_get blocks b) []

-- the failing jobs, in order
abbrev pub failing : List Job → List Job
failing js = filter (λ (j : Job). j.fails) js

-- the image of the first failing job, if one fails
abbrev pub first_failing_image : List Job → Option ℕ
first_failing_image js = option_map (λ (j : Job). j.image) (find (λ (j : Job). j.fails) js)

-- whether each image of the block comes after that one
abbrev pub lies_after : ℕ → List Job → Bool
lies_after image jobs = list_all (λ (j : Job). nat_lt image j.image) jobs

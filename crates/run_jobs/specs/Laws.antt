-- The jobs of a run are jobs of the exploration as a list of events, and its failing jobs are the run's lines.
use Rattle.std.specs.Prelude.{ℕ, ◌≡◌, ◌<◌, List, length, map, count_by, Some, slice_get}
use Rattle.workers.specs.Failing.{Subject, failing_lines, part}
use Rattle.workers.specs.Pieces.{block_count}
use Rattle.explore_core.specs.declared.job.Job.{Job}
use Rattle.explore_core.specs.Jobs.{AreJobs, all_jobs, block_at, failing}
use Rattle.explore_core.specs.Sound.{IsSound, IsComplete, is_passed, by_block}
use Rattle.explore_core.specs.State.{State}
use Rattle.run_jobs.specs.Jobs.{Numbers, AreNumbers, jobs_of, job_of_line}

-- whether a job fails follows from its outcome
abbrev pub FailByOutcome : List Job → Type 0
FailByOutcome js = (i k : ℕ) (a b : Job) → slice_get js i ≡ Some a → slice_get js k ≡ Some b → a.outcome ≡ b.outcome → a.fails ≡ b.fails

pub record AreRunJobs (s : Subject) (n : Numbers) : Type 0 where
  pub jobs : AreJobs (jobs_of s n)
  pub blocks : length (jobs_of s n) ≡ block_count s
  pub each : (b : ℕ) → b < block_count s → failing (block_at (jobs_of s n) b) ≡ map (job_of_line n) (part s b)
  pub all : failing (all_jobs (jobs_of s n)) ≡ map (job_of_line n) (failing_lines s)
  pub fail : FailByOutcome (all_jobs (jobs_of s n))

abbrev pub RunsAreJobs : Type 0
RunsAreJobs = (s : Subject) (n : Numbers) → AreNumbers s n → AreRunJobs s n

-- a state of an exploration of these jobs, after any list of events
abbrev pub EventsFindFailingLines : Type 0
EventsFindFailingLines = (s : Subject) (n : Numbers) (e : State) → AreNumbers s n → e.blocks ≡ jobs_of s n → IsSound e → IsComplete e
    → count_by is_passed e.pieces ≡ 0 → by_block e.pieces (block_count s) ≡ map (job_of_line n) (failing_lines s)

-- The jobs of a run are jobs of the exploration as a list of events.
use Rattle.std.proofs.Common.{ℕ, zero, suc, ◌≡◌, ◌+◌, List, length, map, refl, sym, ◌∙◌, ap, subst, arith}
use Rattle.std.specs.List.{range_with_len}
use Rattle.verdict_cache.specs.Laws.{OneImageTells}
use Rattle.workers.specs.Failing.{Subject, judged_count}
use Rattle.workers.specs.Pieces.{block_count}
use Rattle.explore_core.specs.declared.job.Job.{Job}
use Rattle.explore_core.specs.Jobs.{Rise, Agree, all_jobs, failing}
use Rattle.explore_core.specs.Sound.{WholeIsFailing, by_block}
use Rattle.run_jobs.specs.Jobs.{Numbers, block_jobs, jobs_of}
use Rattle.run_jobs.specs.Laws.{FailByOutcome, RunsAreJobs, EventsFindFailingLines}
use Rattle.run_jobs.proofs.Failing.{all_is, each_fails, all_fail}
use Rattle.run_jobs.proofs.Listed.{rise_images, agree_images, fail_images}

counted : (f : ℕ → List Job) (a k : ℕ) → length (map f (range_with_len a k)) ≡ k
counted f a zero = refl
counted f a (suc k) = ap suc (counted f (a + 1) k)

as_many : (s : Subject) (n : Numbers) → length (jobs_of s n) ≡ block_count s
as_many s n = counted (block_jobs s n) 0 (block_count s)

pub runs_are_jobs : OneImageTells → RunsAreJobs
runs_are_jobs tell s n numbers =
    let all = sym (all_is s n) in
    record {
      jobs = record {
        rise = subst (Rise 0) all (rise_images s n 0 s.from (judged_count s) (omega arith));
        agree = subst Agree all (agree_images s n s.from (judged_count s) tell numbers);
      };
      blocks = as_many s n;
      each = each_fails s n;
      all = all_fail s n;
      fail = subst FailByOutcome all (fail_images s n s.from (judged_count s) numbers);
    }

pub events_find : RunsAreJobs → WholeIsFailing → EventsFindFailingLines
events_find runs whole s n e numbers of sound complete full =
    let run = runs s n numbers in
    let count : length e.blocks ≡ block_count s = ap (λ (b : List (List Job)). length b) of ∙ run.blocks in
    sym (ap (by_block e.pieces) count) ∙ whole e sound complete full ∙ ap (λ (b : List (List Job)). failing (all_jobs b)) of ∙ run.all

-- Whether blocks are those of jobs, as the code computes it.
use Rattle.std.specs.Prelude.{ℕ, ◌==◌, nat_lt, not, ◌||◌, if◌then◌else◌, List, [], ◌∷◌, Option, None, Some, Bool}
use Rattle.std.specs.List.{list_all}
use Rattle.explore_core.specs.declared.job.Job.{Job}

-- the last image, or `before` where there is none; none where an image is below the one before
abbrev pub last_image : ℕ → List Job → Option ℕ
last_image before [] = Some before
last_image before (j ∷ js) = if nat_lt j.image before then None else last_image j.image js

-- the jobs with the key of that one have its outcome
abbrev pub agrees : List Job → Job → Bool
agrees js job = list_all (λ (other : Job). not (other.key == job.key) || (other.outcome == job.outcome)) js

-- How often a next block was asked for.
use Rattle.std.specs.Prelude.{ℕ, ◌+◌, ◌<◌, ◌≤◌, Bool, List, length, count_by}

-- a worker that found no block draws no more, so `next` passes the number of blocks by no more than there are such workers
pub record AreCounted (blocks next : ℕ) (marks : List Bool) : Type 0 where
  pub late : next ≤ blocks + count_by (λ (mark : Bool). mark) marks
  pub few : length marks < 256

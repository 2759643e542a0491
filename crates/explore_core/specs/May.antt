-- When an event may change the state (docs/PROVED.md, Threads and the cache).
use Rattle.std.specs.Prelude.{ℕ, ◌≡◌, ◌<◌, ◌⊎◌, true, false, List, length, Some, slice_get}
use Rattle.explore_core.specs.declared.job.Job.{Job}
use Rattle.explore_core.specs.declared.hand.WorkerHand.TheVariants.{Idle, Holding}
use Rattle.explore_core.specs.declared.event.Event.{Event}
use Rattle.explore_core.specs.declared.lists.Drawn.{Drawn}
use Rattle.explore_core.specs.declared.event.Event.TheVariants.{Draw, Take, Look, Put, Post, Pass, Done, Quit}
use Rattle.explore_core.specs.Jobs.{block_at}
use Rattle.explore_core.specs.State.{State, after}
use Rattle.explore_core.specs.Sound.{ComesBefore}

abbrev pub IsIdle : State → ℕ → Type 0
IsIdle s w = slice_get s.hands w ≡ Some Idle

-- the worker holds that block, and has judged those jobs of it
abbrev pub Holds : State → ℕ → ℕ → List Job → Type 0
Holds s w block judged = slice_get s.hands w ≡ Some (Holding block judged)

-- the worker hasn't ended
abbrev pub IsGoing : State → ℕ → Type 0
IsGoing s w = IsIdle s w ⊎ ((block : ℕ) × (judged : List Job) × Holds s w block judged)

abbrev pub May : State → Event → Type 0
-- the worker hasn't ended, and found a block at each draw
May s (Draw w) = IsGoing s w × (slice_get s.late w ≡ Some false)
-- it is idle, and the block is in that list
May s (Take w from block) = IsIdle s w × ((i : ℕ) × (d : Drawn) × (slice_get s.lists i ≡ Some d) × (d.worker ≡ from) × (d.block ≡ block))
-- it holds a block with a job that isn't judged
May s (Look w) = (block : ℕ) × (judged : List Job) × Holds s w block judged × (length judged < length (block_at s.blocks block))
-- it holds a block with a job that is
May s (Put w gone) = (block : ℕ) × (judged : List Job) × Holds s w block judged × (0 < length judged)
-- one of these fails
May s (Post w) = (block : ℕ) × (judged : List Job) × Holds s w block judged × ((i : ℕ) × (job : Job) × (slice_get judged i ≡ Some job) × (job.fails ≡ true))
-- with `first`, an image was posted that comes before all of its block
May s (Pass w) = (block : ℕ) × (judged : List Job) × Holds s w block judged × (s.first ≡ true) × ((image : ℕ) × (s.least ≡ Some image) × ComesBefore image (block_at s.blocks block))
-- it holds a block of which all jobs are judged
May s (Done w) = (block : ℕ) × (judged : List Job) × Holds s w block judged × (length judged ≡ length (block_at s.blocks block))
-- it hasn't ended
May s (Quit w) = IsGoing s w

-- an event whose condition fails changes nothing
abbrev pub UnlessItMay : Type 0
UnlessItMay = (s : State) (e : Event) → (May s e → ⊥) → after s e ≡ s

-- The state of an exploration, and what each event makes of it
-- (docs/PROVED.md, Threads and the cache).
use Rattle.std.specs.Prelude.{ℕ, ◌+◌, ◌-◌, ◌==◌, ◌&&◌, not, nat_lt, min, Bool, true, false, if◌then◌else◌, List, [], ◌∷◌, ◌++◌, length, replicate, Option, None, Some, slice_get, slice_set, unwrap_or}
use Rattle.explore_core.specs.declared.job.Job.{Job}
use Rattle.explore_core.specs.declared.hand.WorkerHand.{WorkerHand}
use Rattle.explore_core.specs.declared.hand.WorkerHand.TheVariants.{Idle, Holding, Ended, Lost}
use Rattle.explore_core.specs.declared.piece.HandedBlock.{HandedBlock}
use Rattle.explore_core.specs.declared.piece.BlockFindings.TheVariants.{Lines, Passed}
use Rattle.explore_core.specs.declared.event.Event.{Event}
use Rattle.explore_core.specs.declared.event.Event.TheVariants.{Draw, Take, Look, Put, Post, Pass, Done, Quit}
use Rattle.explore_core.specs.Jobs.{block_at, failing, first_failing_image, lies_after}
use Rattle.explore_core.specs.declared.cache.CacheEntry.{CacheEntry}
use Rattle.explore_core.specs.Cache.{cache_outcome, without}
use Rattle.explore_core.specs.declared.lists.Drawn.{Drawn}
use Rattle.explore_core.specs.Lists.{listed_under, lists_without}

pub record State : Type 0 where
  -- the jobs, in blocks
  pub blocks : List (List Job)
  -- whether only the first failing image is looked for
  pub first : Bool
  -- how many blocks were asked for
  pub next : ℕ
  -- of each worker whether it found no block left
  pub late : List Bool
  -- the blocks in the workers' lists
  pub lists : List Drawn
  -- the least image that was posted
  pub least : Option ℕ
  -- outcomes by key
  pub cache : List CacheEntry
  -- what was handed over
  pub pieces : List HandedBlock
  -- what each worker has in hand
  pub hands : List WorkerHand

-- nothing is drawn, and every worker is idle
abbrev pub start : List (List Job) → ℕ → Bool → State
start blocks workers first =
    record { blocks = blocks; first = first; next = 0; late = replicate workers false; lists = []; least = None; cache = []; pieces = []; hands = replicate workers Idle }

-- the workers' hands, where that of one is changed, if there is such a worker
abbrev pub change_hand : (WorkerHand → WorkerHand) → List WorkerHand → ℕ → Option WorkerHand → List WorkerHand
change_hand change hands w (Some hand) = slice_set hands w (change hand)
change_hand change hands w None = hands

-- Draw: a worker that hasn't ended puts the next block into its list; where none is left, it draws no more

-- whether a worker hasn't ended
abbrev pub is_going : Option WorkerHand → Bool
is_going (Some Idle) = true
is_going (Some (Holding block judged)) = true
is_going hand = false

-- whether a worker hasn't ended, and found a block at each draw
abbrev pub may_draw : Option WorkerHand → Option Bool → Bool
may_draw hand late = is_going hand && not (unwrap_or late true)

-- the next block is in the list of the worker
abbrev pub after_list : State → ℕ → State
after_list s w = record s { next = s.next + 1; lists = s.lists ++ record { worker = w; block = s.next } ∷ [] }

-- the worker found no block
abbrev pub too_late : State → ℕ → State
too_late s w = record s { next = s.next + 1; late = slice_set s.late w true }

abbrev pub after_draw : State → ℕ → Bool → State
after_draw s w true = if nat_lt s.next (length s.blocks) then after_list s w else too_late s w
after_draw s w false = s

-- Take: an idle worker gets a block out of a worker's list

abbrev pub is_idle : Option WorkerHand → Bool
is_idle (Some Idle) = true
is_idle hand = false

abbrev pub after_steal : State → ℕ → ℕ → ℕ → Bool → Bool → State
after_steal s w from block true true = record s { lists = lists_without from block s.lists; hands = slice_set s.hands w (Holding block []) }
after_steal s w from block idle listed = s

-- Look: a worker takes the outcome of the next job of its block

-- the job with the outcome that the cache has for its key, or else with its own
abbrev pub job_by_cache : List CacheEntry → Job → Job
job_by_cache cache job = record job { outcome = unwrap_or (cache_outcome cache job.key) job.outcome }

-- the first job of the block in hand that isn't judged yet, if there is one
abbrev pub next_job : List (List Job) → Option WorkerHand → Option Job
next_job blocks (Some (Holding block judged)) = slice_get (block_at blocks block) (length judged)
next_job blocks hand = None

-- the hand with one more judged job
abbrev pub judging : Job → WorkerHand → WorkerHand
judging job (Holding block judged) = Holding block (judged ++ job ∷ [])
judging job hand = hand

abbrev pub after_look : State → ℕ → Option WorkerHand → Option Job → State
after_look s w hand (Some job) = record s { hands = change_hand (judging (job_by_cache s.cache job)) s.hands w hand }
after_look s w hand None = s

-- Put: the pair of what a worker judged last enters the cache, and then pairs leave it

abbrev pub last_judged : Option WorkerHand → Option Job
last_judged (Some (Holding block judged)) = slice_get judged (length judged - 1)
last_judged hand = None

abbrev pub after_put : State → List ℕ → Option Job → State
after_put s gone (Some job) = record s { cache = without gone (s.cache ++ record { key = job.key; outcome = job.outcome } ∷ []) }
after_put s gone None = s

-- Post: the least image is lowered to the first failing one in hand

-- the lower of the least image so far and another
abbrev pub lower_image : Option ℕ → Option ℕ → Option ℕ
lower_image least None = least
lower_image None (Some image) = Some image
lower_image (Some least) (Some image) = Some (min least image)

-- the image of the first failing job in hand, if there is one
abbrev pub failing_in_hand : Option WorkerHand → Option ℕ
failing_in_hand (Some (Holding block judged)) = first_failing_image judged
failing_in_hand hand = None

abbrev pub after_post : State → Option WorkerHand → State
after_post s hand = record s { least = lower_image s.least (failing_in_hand hand) }

-- Pass and Done: a worker hands over a piece of its block, and is idle

abbrev pub handed_over : State → ℕ → Option HandedBlock → State
handed_over s w (Some piece) = record s { pieces = s.pieces ++ piece ∷ []; hands = slice_set s.hands w Idle }
handed_over s w None = s

-- with `first`: the piece that names the least image, where the block in hand lies wholly after it
abbrev pub piece_passed : List (List Job) → Bool → Option ℕ → Option WorkerHand → Option HandedBlock
piece_passed blocks true (Some image) (Some (Holding block judged)) =
    if lies_after image (block_at blocks block) then Some (record { block = block; found = Passed image }) else None
piece_passed blocks first least hand = None

-- a piece as a list, which is empty where there is none
abbrev pub as_list : Option HandedBlock → List HandedBlock
as_list (Some piece) = piece ∷ []
as_list None = []

-- the block in hand with its failing jobs
abbrev pub lines_in_hand : Option WorkerHand → Option HandedBlock
lines_in_hand (Some (Holding block judged)) = Some (record { block = block; found = Lines (failing judged) })
lines_in_hand hand = None

-- the same, where the block is wholly judged
abbrev pub piece_done : List (List Job) → Option WorkerHand → Option HandedBlock
piece_done blocks (Some (Holding block judged)) =
    if length judged == length (block_at blocks block) then lines_in_hand (Some (Holding block judged)) else None
piece_done blocks hand = None

-- Quit: a worker ends, and the block in its hand is lost

-- what a worker has in hand after it ended
abbrev pub ended : WorkerHand → WorkerHand
ended Idle = Ended
ended (Holding block judged) = Lost block
ended hand = hand

abbrev pub quit : State → ℕ → Option WorkerHand → State
quit s w hand = record s { hands = change_hand ended s.hands w hand }

-- the state after an event; where there is no such worker, or the event's condition fails, it is the state before
abbrev pub after : State → Event → State
after s (Draw w) = after_draw s w (may_draw (slice_get s.hands w) (slice_get s.late w))
after s (Take w from block) = after_steal s w from block (is_idle (slice_get s.hands w)) (listed_under from block s.lists)
after s (Look w) = after_look s w (slice_get s.hands w) (next_job s.blocks (slice_get s.hands w))
after s (Put w gone) = after_put s gone (last_judged (slice_get s.hands w))
after s (Post w) = after_post s (slice_get s.hands w)
after s (Pass w) = handed_over s w (piece_passed s.blocks s.first s.least (slice_get s.hands w))
after s (Done w) = handed_over s w (piece_done s.blocks (slice_get s.hands w))
after s (Quit w) = quit s w (slice_get s.hands w)

-- the state after a list of events
abbrev pub after_all : State → List Event → State
after_all s [] = s
after_all s (e ∷ es) = after_all (after s e) es

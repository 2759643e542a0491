-- What holds after every list of events (docs/PROVED.md, Threads and the cache).
use Rattle.std.specs.Prelude.{ℕ, ◌≡◌, ◌+◌, ◌<◌, ◌≤◌, ◌==◌, Bool, true, false, List, [], ◌∷◌, ◌++◌, length, filter, take, Option, None, Some, slice_get}
use Rattle.std.specs.List.{count_by, flat_map, range_with_len}
use Rattle.explore_core.specs.declared.job.Job.{Job}
use Rattle.explore_core.specs.declared.cache.CacheEntry.{CacheEntry}
use Rattle.explore_core.specs.declared.hand.WorkerHand.{WorkerHand}
use Rattle.explore_core.specs.declared.lists.Drawn.{Drawn}
use Rattle.explore_core.specs.declared.hand.WorkerHand.TheVariants.{Holding, Lost}
use Rattle.explore_core.specs.declared.piece.HandedBlock.{HandedBlock}
use Rattle.explore_core.specs.declared.piece.BlockFindings.{BlockFindings}
use Rattle.explore_core.specs.declared.piece.BlockFindings.TheVariants.{Lines, Passed}
use Rattle.explore_core.specs.declared.event.Event.{Event}
use Rattle.explore_core.specs.Jobs.{AreJobs, all_jobs, block_at, failing}
use Rattle.explore_core.specs.State.{State, start, after_all}

-- P of each element
abbrev pub Each : {X : Type 0} → (X → Type 0) → List X → Type 0
Each {X} P xs = (i : ℕ) (x : X) → slice_get xs i ≡ Some x → P x

abbrev pub IsJob : List (List Job) → Job → Type 0
IsJob blocks job = (i : ℕ) × (slice_get (all_jobs blocks) i ≡ Some job)

-- an entry is true: it is of a job's key, and the jobs with that key have its outcome
pub record IsTrueEntry (blocks : List (List Job)) (e : CacheEntry) : Type 0 where
  pub job : Job
  pub listed : IsJob blocks job
  pub key : job.key ≡ e.key
  pub outcome : (other : Job) → IsJob blocks other → other.key ≡ e.key → other.outcome ≡ e.outcome

-- a job fails on that image
abbrev pub IsFailing : List (List Job) → ℕ → Type 0
IsFailing blocks image = (job : Job) × IsJob blocks job × (job.fails ≡ true) × (job.image ≡ image)

abbrev pub IsFailingIfAny : List (List Job) → Option ℕ → Type 0
IsFailingIfAny blocks None = Unit {0}
IsFailingIfAny blocks (Some image) = IsFailing blocks image

-- the failing jobs of a block
abbrev pub part : List (List Job) → ℕ → List Job
part blocks b = failing (block_at blocks b)

-- the image comes before all of those jobs
abbrev pub ComesBefore : ℕ → List Job → Type 0
ComesBefore image js = Each (λ (j : Job). image < j.image) js

-- lines are the part of their block; what was passed names a failing image before all of its block
abbrev pub IsTrueFound : List (List Job) → ℕ → BlockFindings → Type 0
IsTrueFound blocks b (Lines js) = js ≡ part blocks b
IsTrueFound blocks b (Passed image) = IsFailing blocks image × ComesBefore image (block_at blocks b)

abbrev pub IsTruePiece : List (List Job) → HandedBlock → Type 0
IsTruePiece blocks p = (p.block < length blocks) × IsTrueFound blocks p.block p.found

-- what is judged in hand are the first jobs of the block, each with its own outcome
abbrev pub IsTrueHand : List (List Job) → WorkerHand → Type 0
IsTrueHand blocks (Holding b judged) = (b < length blocks) × (judged ≡ take (length judged) (block_at blocks b))
IsTrueHand blocks hand = Unit {0}

-- in how many lists and hands a block is, how often it was lost, and how many pieces there are of it

abbrev pub holds : ℕ → WorkerHand → Bool
holds b (Holding block judged) = block == b
holds b hand = false

abbrev pub loses : ℕ → WorkerHand → Bool
loses b (Lost block) = block == b
loses b hand = false

-- a block in a list counts as held
abbrev pub hold_count : List Drawn → List WorkerHand → ℕ → ℕ
hold_count lists hands b = count_by (λ (d : Drawn). d.block == b) lists + count_by (holds b) hands

abbrev pub loss_count : List WorkerHand → ℕ → ℕ
loss_count hands b = count_by (loses b) hands

abbrev pub piece_count : List HandedBlock → ℕ → ℕ
piece_count pieces b = count_by (λ (p : HandedBlock). p.block == b) pieces

-- each block that was drawn is in one list or hand, in one piece or lost by one worker, and the others are nowhere
pub record ArePlaced (blocks next : ℕ) (lists : List Drawn) (hands : List WorkerHand) (pieces : List HandedBlock) : Type 0 where
  pub drawn : (b : ℕ) → b < next → b < blocks → hold_count lists hands b + (loss_count hands b + piece_count pieces b) ≡ 1
  pub waiting : (b : ℕ) → next ≤ b → hold_count lists hands b + (loss_count hands b + piece_count pieces b) ≡ 0
  pub beyond : (b : ℕ) → blocks ≤ b → hold_count lists hands b + (loss_count hands b + piece_count pieces b) ≡ 0

abbrev pub passes : BlockFindings → Bool
passes (Lines js) = false
passes (Passed image) = true

abbrev pub is_passed : HandedBlock → Bool
is_passed p = passes p.found

pub record IsSound (s : State) : Type 0 where
  pub jobs : AreJobs s.blocks
  pub cache : Each (IsTrueEntry s.blocks) s.cache
  pub least : IsFailingIfAny s.blocks s.least
  pub pieces : Each (IsTruePiece s.blocks) s.pieces
  pub hands : Each (IsTrueHand s.blocks) s.hands
  pub places : ArePlaced (length s.blocks) s.next s.lists s.hands s.pieces
  -- without `first` nothing is passed over
  pub passed : s.first ≡ false → count_by is_passed s.pieces ≡ 0

-- all blocks are drawn, and none is held or lost
pub record IsComplete (s : State) : Type 0 where
  pub drawn : length s.blocks ≤ s.next
  pub held : (b : ℕ) → hold_count s.lists s.hands b ≡ 0
  pub lost : (b : ℕ) → loss_count s.hands b ≡ 0

abbrev pub lines_of : BlockFindings → List Job
lines_of (Lines js) = js
lines_of (Passed image) = []

-- the lines of the pieces of a block, and of all pieces by block

abbrev pub lines_at : List HandedBlock → ℕ → List Job
lines_at pieces b = flat_map (λ (p : HandedBlock). lines_of p.found) (filter (λ (p : HandedBlock). p.block == b) pieces)

abbrev pub by_block : List HandedBlock → ℕ → List Job
by_block pieces blocks = flat_map (lines_at pieces) (range_with_len 0 blocks)

-- the lines of the first failing image
abbrev pub first_lines : List Job → List Job
first_lines [] = []
first_lines (j ∷ js) = filter (λ (k : Job). k.image == j.image) (j ∷ js)

abbrev pub BeginsWith : List Job → List Job → Type 0
BeginsWith front js = (rest : List Job) × (js ≡ front ++ rest)

-- after every list of events
abbrev pub EveryRunIsSound : Type 0
EveryRunIsSound = (blocks : List (List Job)) (workers : ℕ) (first : Bool) (events : List Event)
    → AreJobs blocks → IsSound (after_all (start blocks workers first) events)

-- where nothing was passed over, the pieces by block are the failing jobs in order
abbrev pub WholeIsFailing : Type 0
WholeIsFailing = (s : State) → IsSound s → IsComplete s → count_by is_passed s.pieces ≡ 0
    → by_block s.pieces (length s.blocks) ≡ failing (all_jobs s.blocks)

-- else they begin with the lines of the first failing image
abbrev pub WholeBeginsWithFirst : Type 0
WholeBeginsWithFirst = (s : State) → IsSound s → IsComplete s
    → BeginsWith (first_lines (failing (all_jobs s.blocks))) (by_block s.pieces (length s.blocks))

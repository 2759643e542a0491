-- Every event keeps what holds.
use Rattle.std.proofs.Common.{ℕ, zero, suc, ◌≡◌, ◌+◌, ◌-◌, ◌<◌, ◌≤◌, ◌==◌, nat_lt, min, inl, inr, Bool, true, false, not, ◌&&◌, if◌then◌else◌, List, [], ◌∷◌, ◌++◌, length, length-append, take, Option, None, Some, option_map, unwrap_or, slice_get, slice_set, refl, sym, ◌∙◌, ap, arith}
use Rattle.std.specs.List.{find, list_any}
use Rattle.std.proofs.Math.Seq.{take-length}
use Rattle.std.proofs.lemmas.Bool.{cases_lt}
use Rattle.std.proofs.lemmas.Bool.Decides.{nat_tests}
use Rattle.std.proofs.lemmas.Option.{slice_get_within}
use Rattle.base.proofs.Lists.{slice_get-append_left, slice_get-append_right, take-suc_place, count_by-push}
use Rattle.explore_core.specs.declared.job.Job.{Job}
use Rattle.explore_core.specs.declared.cache.CacheEntry.{CacheEntry}
use Rattle.explore_core.specs.declared.hand.WorkerHand.{WorkerHand}
use Rattle.explore_core.specs.declared.hand.WorkerHand.TheVariants.{Idle, Holding, Ended, Lost}
use Rattle.explore_core.specs.declared.piece.HandedBlock.{HandedBlock}
use Rattle.explore_core.specs.declared.piece.BlockFindings.TheVariants.{Lines, Passed}
use Rattle.explore_core.specs.declared.event.Event.{Event}
use Rattle.explore_core.specs.declared.event.Event.TheVariants.{Draw, Take, Look, Put, Post, Pass, Done, Quit}
use Rattle.explore_core.specs.Jobs.{AreJobs, all_jobs, block_at, failing, first_failing_image, lies_after}
use Rattle.explore_core.specs.State.{State, start, may_draw, after_list, too_late, after_draw, is_idle, after_steal, job_by_cache, next_job, after_look, last_judged, after_put, lower_image, after_post, handed_over, piece_passed, piece_done, quit, after, after_all}
use Rattle.explore_core.specs.Lists.{listed_under}
use Rattle.explore_core.specs.Sound.{Each, IsJob, IsTrueEntry, IsFailing, IsFailingIfAny, ComesBefore, IsTrueHand, IsTruePiece, ArePlaced, is_passed, IsSound}
use Rattle.explore_core.proofs.Each.{each_none, each_cons, each_push, each_set, each_replicate, each_filter, found, taken_at}
use Rattle.explore_core.proofs.Places.{placed_first, placed_same, placed_over, placed_drawn, placed_late, placed_given, listed_within}

-- a job of a block is one of all jobs
pub of_block : (blocks : List (List Job)) (b i : ℕ) (job : Job) → slice_get (block_at blocks b) i ≡ Some job → IsJob blocks job
of_block [] b i job at = absurd (let bad : None ≡ Some job = at in cc)
of_block (js ∷ blocks) zero i job at = (i, slice_get-append_left js (all_jobs blocks) i (slice_get_within js i job at) ∙ at)
of_block (js ∷ blocks) (suc b) i job at =
    let rest = of_block blocks b i job at in
    (length js + rest.0, slice_get-append_right js (all_jobs blocks) rest.0 ∙ rest.1)

-- what is judged in hand are jobs
in_hand : (blocks : List (List Job)) (b : ℕ) (judged : List Job) → IsTrueHand blocks (Holding b judged) → Each (IsJob blocks) judged
in_hand blocks b judged h i job at =
    let first : slice_get (take (length judged) (block_at blocks b)) i ≡ Some job = rw (← h.1) at in
    of_block blocks b i job (taken_at (length judged) (block_at blocks b) i job first)

-- what a job takes from a true cache is its own outcome
taken_same : (blocks : List (List Job)) (cache : List CacheEntry) (job : Job) → Each (IsTrueEntry blocks) cache → IsJob blocks job → job_by_cache cache job ≡ job
taken_same blocks cache job h after_list = step (find (λ (e : CacheEntry). e.key == job.key) cache) refl
  where
    step : (o : Option CacheEntry) → find (λ (e : CacheEntry). e.key == job.key) cache ≡ o
        → record { image = job.image; key = job.key; outcome = unwrap_or (option_map (λ (e : CacheEntry). e.outcome) o) job.outcome; fails = job.fails } ≡ job
    step None e = refl
    step (Some entry) e =
        let there = found (IsTrueEntry blocks) (λ (e : CacheEntry). e.key == job.key) cache entry h e in
        let same : job.key ≡ entry.key = grind (arith, nat_tests, there.1) in
        let own : entry.outcome ≡ job.outcome = sym (there.0.outcome job after_list same) in
        λ i. record { image = job.image; key = job.key; outcome = own i; fails = job.fails }

sound_drawn : (s : State) (w : ℕ) (may : Bool) → IsSound s → IsSound (after_draw s w may)
sound_drawn s w false sound = sound
sound_drawn s w true sound = step (nat_lt s.next (length s.blocks)) refl
  where
    step : (b : Bool) → nat_lt s.next (length s.blocks) ≡ b
        → IsSound (if b then after_list s w else too_late s w)
    step true e =
        let more : s.next < length s.blocks = grind (arith, nat_tests, e) in
        record {
          jobs = sound.jobs;
          cache = sound.cache;
          least = sound.least;
          pieces = sound.pieces;
          passed = sound.passed;
          hands = sound.hands;
          places = placed_drawn (length s.blocks) s.next s.lists s.hands s.pieces w more sound.places;
        }
    step false e =
        let late : length s.blocks ≤ s.next = grind (arith, nat_tests, e) in
        record {
          jobs = sound.jobs;
          cache = sound.cache;
          least = sound.least;
          pieces = sound.pieces;
          passed = sound.passed;
          hands = sound.hands;
          places = placed_late (length s.blocks) s.next s.lists s.hands s.pieces late sound.places;
        }

sound_given : (s : State) (w from block : ℕ) (hand : Option WorkerHand) (after_list : Bool) → slice_get s.hands w ≡ hand → listed_under from block s.lists ≡ after_list → IsSound s → IsSound (after_steal s w from block (is_idle hand) after_list)
sound_given s w from block None after_list at there sound = sound
sound_given s w from block (Some (Holding b judged)) after_list at there sound = sound
sound_given s w from block (Some Ended) after_list at there sound = sound
sound_given s w from block (Some (Lost b)) after_list at there sound = sound
sound_given s w from block (Some Idle) false at there sound = sound
sound_given s w from block (Some Idle) true at there sound = record {
  jobs = sound.jobs;
  cache = sound.cache;
  least = sound.least;
  pieces = sound.pieces;
  passed = sound.passed;
  hands = each_set (IsTrueHand s.blocks) s.hands w (Holding block []) sound.hands (listed_within (length s.blocks) s.next s.lists s.hands s.pieces from block there sound.places, refl);
  places = placed_given (length s.blocks) s.next s.lists s.hands s.pieces w from block at there sound.places;
}

sound_looked : (s : State) (w : ℕ) (hand : Option WorkerHand) → slice_get s.hands w ≡ hand → IsSound s → IsSound (after_look s w hand (next_job s.blocks hand))
sound_looked s w None at sound = sound
sound_looked s w (Some Idle) at sound = sound
sound_looked s w (Some Ended) at sound = sound
sound_looked s w (Some (Lost b)) at sound = sound
sound_looked s w (Some (Holding b judged)) at sound = step (slice_get (block_at s.blocks b) (length judged)) refl
  where
    holding : IsTrueHand s.blocks (Holding b judged)
    holding = sound.hands w (Holding b judged) at

    step : (job : Option Job) → slice_get (block_at s.blocks b) (length judged) ≡ job → IsSound (after_look s w (Some (Holding b judged)) job)
    step None e = sound
    step (Some job) e =
        let own : job_by_cache s.cache job ≡ job = taken_same s.blocks s.cache job sound.cache (of_block s.blocks b (length judged) job e) in
        let count : length (judged ++ job ∷ []) ≡ suc (length judged) = omega (arith, length-append judged (job ∷ [])) in
        let more : judged ++ job ∷ [] ≡ take (length (judged ++ job ∷ [])) (block_at s.blocks b) =
        ap (λ js. js ++ job ∷ []) holding.1 ∙ sym (take-suc_place (block_at s.blocks b) (length judged) job e) ∙ ap (λ n. take n (block_at s.blocks b)) (sym count) in
        rw own (
        record {
          jobs = sound.jobs;
          cache = sound.cache;
          least = sound.least;
          pieces = sound.pieces;
          passed = sound.passed;
          hands = each_set (IsTrueHand s.blocks) s.hands w (Holding b (judged ++ job ∷ [])) sound.hands (holding.0, more);
          places = placed_same (length s.blocks) s.next s.lists s.hands s.pieces w (Holding b judged) (Holding b (judged ++ job ∷ [])) at (λ b. refl) sound.places;
        }
        )

-- the entry of a job
entry_true : (blocks : List (List Job)) (job : Job) → AreJobs blocks → IsJob blocks job → IsTrueEntry blocks (record { key = job.key; outcome = job.outcome })
entry_true blocks job jobs after_list = record {
  job = job;
  listed = after_list;
  key = refl;
  outcome = λ other there same. jobs.agree there.0 after_list.0 other job there.1 after_list.1 same;
}

sound_put : (s : State) (gone : List ℕ) (hand : Option WorkerHand) (w : ℕ) → slice_get s.hands w ≡ hand → IsSound s → IsSound (after_put s gone (last_judged hand))
sound_put s gone None w at sound = sound
sound_put s gone (Some Idle) w at sound = sound
sound_put s gone (Some Ended) w at sound = sound
sound_put s gone (Some (Lost b)) w at sound = sound
sound_put s gone (Some (Holding b judged)) w at sound = step (slice_get judged (length judged - 1)) refl
  where
    step : (job : Option Job) → slice_get judged (length judged - 1) ≡ job → IsSound (after_put s gone job)
    step None e = sound
    step (Some job) e =
        let after_list = in_hand s.blocks b judged (sound.hands w (Holding b judged) at) (length judged - 1) job e in
        let more = each_push (IsTrueEntry s.blocks) s.cache (record { key = job.key; outcome = job.outcome }) sound.cache (entry_true s.blocks job sound.jobs after_list) in
        let left = each_filter (IsTrueEntry s.blocks) (λ (e : CacheEntry). not (list_any (λ key. key == e.key) gone)) (s.cache ++ record { key = job.key; outcome = job.outcome } ∷ []) more in
        record {
          jobs = sound.jobs;
          least = sound.least;
          pieces = sound.pieces;
          passed = sound.passed;
          hands = sound.hands;
          places = sound.places;
          cache = λ i x there. (left i x there).0;
        }

lower_fails : (blocks : List (List Job)) (a b : Option ℕ) → IsFailingIfAny blocks a → IsFailingIfAny blocks b → IsFailingIfAny blocks (lower_image a b)
lower_fails blocks None None h g = tt
lower_fails blocks (Some a) None h g = h
lower_fails blocks None (Some b) h g = g
lower_fails blocks (Some a) (Some b) h g = elim (cases_lt a b) [
  | inl less ↦ let is : a ≡ min a b = omega (arith, less) in rw is at h
  | inr more ↦ let is : b ≡ min a b = omega (arith, more) in rw is at g
]

first_fails : (blocks : List (List Job)) (judged : List Job) → Each (IsJob blocks) judged → IsFailingIfAny blocks (first_failing_image judged)
first_fails blocks judged h = step (find (λ (j : Job). j.fails) judged) refl
  where
    step : (o : Option Job) → find (λ (j : Job). j.fails) judged ≡ o → IsFailingIfAny blocks (option_map (λ (j : Job). j.image) o)
    step None e = tt
    step (Some job) e = let there = found (IsJob blocks) (λ (j : Job). j.fails) judged job h e in (job, there.0, there.1, refl)

sound_posted : (s : State) (hand : Option WorkerHand) (w : ℕ) → slice_get s.hands w ≡ hand → IsSound s → IsSound (after_post s hand)
sound_posted s None w at sound = sound
sound_posted s (Some Idle) w at sound = sound
sound_posted s (Some Ended) w at sound = sound
sound_posted s (Some (Lost b)) w at sound = sound
sound_posted s (Some (Holding b judged)) w at sound =
    let jobs = in_hand s.blocks b judged (sound.hands w (Holding b judged) at) in
    record {
      jobs = sound.jobs;
      cache = sound.cache;
      pieces = sound.pieces;
      passed = sound.passed;
      hands = sound.hands;
      places = sound.places;
      least = lower_fails s.blocks s.least (first_failing_image judged) sound.least (first_fails s.blocks judged jobs);
    }

-- a true piece of the block in hand
sound_over : (s : State) (w : ℕ) (judged : List Job) (piece : HandedBlock) → slice_get s.hands w ≡ Some (Holding piece.block judged) → IsTruePiece s.blocks piece
    → (s.first ≡ false → is_passed piece ≡ false) → IsSound s → IsSound (handed_over s w (Some piece))
sound_over s w judged piece at true_piece full sound = record {
  jobs = sound.jobs;
  cache = sound.cache;
  least = sound.least;
  pieces = each_push (IsTruePiece s.blocks) s.pieces piece sound.pieces true_piece;
  hands = each_set (IsTrueHand s.blocks) s.hands w Idle sound.hands tt;
  places = placed_over (length s.blocks) s.next s.lists s.hands s.pieces w judged piece at sound.places;
  passed = λ e.
      let one : ◌≡◌ {A = ℕ} (if is_passed piece then 1 else 0) 0 = ap (λ b. if b then 1 else 0) (full e) in
      omega (arith, count_by-push is_passed s.pieces piece, one, sound.passed e);
}

-- the test of a block, and what it says
pub after_all_of : (image : ℕ) (js : List Job) → lies_after image js ≡ true → ComesBefore image js
after_all_of image [] e = each_none (λ (j : Job). image < j.image)
after_all_of image (j ∷ js) e = step (nat_lt image j.image) refl (after_all_of image js) e
  where
    step : (b : Bool) → nat_lt image j.image ≡ b → (lies_after image js ≡ true → ComesBefore image js) → (b && lies_after image js) ≡ true → ComesBefore image (j ∷ js)
    step true k rest e = each_cons (λ (j : Job). image < j.image) j js (grind (arith, nat_tests, k)) (rest e)
    step false k rest e = absurd (let bad : false ≡ true = e in cc)

sound_passed : (s : State) (w : ℕ) (hand : Option WorkerHand) (first : Bool) (least : Option ℕ) → slice_get s.hands w ≡ hand → s.first ≡ first → s.least ≡ least → IsSound s
    → IsSound (handed_over s w (piece_passed s.blocks first least hand))
sound_passed s w hand false least at is_first is_least sound = sound
sound_passed s w hand true None at is_first is_least sound = sound
sound_passed s w None true (Some image) at is_first is_least sound = sound
sound_passed s w (Some Idle) true (Some image) at is_first is_least sound = sound
sound_passed s w (Some Ended) true (Some image) at is_first is_least sound = sound
sound_passed s w (Some (Lost b)) true (Some image) at is_first is_least sound = sound
sound_passed s w (Some (Holding b judged)) true (Some image) at is_first is_least sound = step (lies_after image (block_at s.blocks b)) refl
  where
    step : (t : Bool) → lies_after image (block_at s.blocks b) ≡ t
        → IsSound (handed_over s w (if t then Some (record { block = b; found = Passed image }) else None))
    step false e = sound
    step true e =
        let fails : IsFailing s.blocks image = (rw is_least at sound.least) in
        sound_over s w judged (record { block = b; found = Passed image }) at
        ((sound.hands w (Holding b judged) at).0, (fails, after_all_of image (block_at s.blocks b) e))
        (λ off. absurd (let bad : true ≡ false = sym is_first ∙ off in cc)) sound

sound_done : (s : State) (w : ℕ) (hand : Option WorkerHand) → slice_get s.hands w ≡ hand → IsSound s → IsSound (handed_over s w (piece_done s.blocks hand))
sound_done s w None at sound = sound
sound_done s w (Some Idle) at sound = sound
sound_done s w (Some Ended) at sound = sound
sound_done s w (Some (Lost b)) at sound = sound
sound_done s w (Some (Holding b judged)) at sound = step (length judged == length (block_at s.blocks b)) refl
  where
    step : (t : Bool) → (length judged == length (block_at s.blocks b)) ≡ t
        → IsSound (handed_over s w (if t then Some (record { block = b; found = Lines (failing judged) }) else None))
    step false e = sound
    step true e =
        let holding = sound.hands w (Holding b judged) at in
        let whole : length judged ≡ length (block_at s.blocks b) = grind (arith, nat_tests, e) in
        let all : judged ≡ block_at s.blocks b = holding.1 ∙ ap (λ n. take n (block_at s.blocks b)) whole ∙ take-length (block_at s.blocks b) in
        sound_over s w judged (record { block = b; found = Lines (failing judged) }) at (holding.0, ap failing all) (λ off. refl) sound

sound_hand : (s : State) (w : ℕ) (old new : WorkerHand) → slice_get s.hands w ≡ Some old → IsTrueHand s.blocks new
    → ArePlaced (length s.blocks) s.next s.lists (slice_set s.hands w new) s.pieces → IsSound s → IsSound (record s { hands = slice_set s.hands w new })
sound_hand s w old new at true_hand placed sound = record {
  jobs = sound.jobs;
  cache = sound.cache;
  least = sound.least;
  pieces = sound.pieces;
  passed = sound.passed;
  hands = each_set (IsTrueHand s.blocks) s.hands w new sound.hands true_hand;
  places = placed;
}

sound_quit : (s : State) (w : ℕ) (hand : Option WorkerHand) → slice_get s.hands w ≡ hand → IsSound s → IsSound (quit s w hand)
sound_quit s w None at sound = sound
sound_quit s w (Some Ended) at sound =
    sound_hand s w Ended Ended at tt (placed_same (length s.blocks) s.next s.lists s.hands s.pieces w Ended Ended at (λ b. refl) sound.places) sound
sound_quit s w (Some (Lost b)) at sound =
    sound_hand s w (Lost b) (Lost b) at tt (placed_same (length s.blocks) s.next s.lists s.hands s.pieces w (Lost b) (Lost b) at (λ b. refl) sound.places) sound
sound_quit s w (Some Idle) at sound =
    sound_hand s w Idle Ended at tt (placed_same (length s.blocks) s.next s.lists s.hands s.pieces w Idle Ended at (λ b. refl) sound.places) sound
sound_quit s w (Some (Holding block judged)) at sound =
    sound_hand s w (Holding block judged) (Lost block) at tt
    (placed_same (length s.blocks) s.next s.lists s.hands s.pieces w (Holding block judged) (Lost block) at (λ b. omega arith) sound.places) sound

pub sound_after : (s : State) (e : Event) → IsSound s → IsSound (after s e)
sound_after s (Draw w) sound = sound_drawn s w (may_draw (slice_get s.hands w) (slice_get s.late w)) sound
sound_after s (Take w from block) sound = sound_given s w from block (slice_get s.hands w) (listed_under from block s.lists) refl refl sound
sound_after s (Look w) sound = sound_looked s w (slice_get s.hands w) refl sound
sound_after s (Put w gone) sound = sound_put s gone (slice_get s.hands w) w refl sound
sound_after s (Post w) sound = sound_posted s (slice_get s.hands w) w refl sound
sound_after s (Pass w) sound = sound_passed s w (slice_get s.hands w) s.first s.least refl refl refl sound
sound_after s (Done w) sound = sound_done s w (slice_get s.hands w) refl sound
sound_after s (Quit w) sound = sound_quit s w (slice_get s.hands w) refl sound

sound_after_all : (s : State) (events : List Event) → IsSound s → IsSound (after_all s events)
sound_after_all s [] sound = sound
sound_after_all s (e ∷ es) sound = sound_after_all (after s e) es (sound_after s e sound)

sound_start : (blocks : List (List Job)) (workers : ℕ) (first : Bool) → AreJobs blocks → IsSound (start blocks workers first)
sound_start blocks workers first jobs = record {
  jobs = jobs;
  cache = each_none (IsTrueEntry blocks);
  least = tt;
  pieces = each_none (IsTruePiece blocks);
  hands = each_replicate (IsTrueHand blocks) workers Idle tt;
  places = placed_first (length blocks) workers;
  passed = λ e. refl;
}

pub every_run : (blocks : List (List Job)) (workers : ℕ) (first : Bool) (events : List Event) → AreJobs blocks → IsSound (after_all (start blocks workers first) events)
every_run blocks workers first events jobs = sound_after_all (start blocks workers first) events (sound_start blocks workers first jobs)

-- An event whose condition fails changes nothing.
use Rattle.std.proofs.Common.{ℕ, zero, suc, ◌≡◌, ◌-◌, ◌<◌, ◌==◌, ◌&&◌, inl, inr, Bool, true, false, cond, if◌then◌else◌, List, [], ◌∷◌, length, Option, None, Some, option_map, slice_get, slice_set, refl, sym, ap, arith}
use Rattle.std.specs.List.{find}
use Rattle.std.proofs.lemmas.Bool.Decides.{nat_tests}
use Rattle.std.proofs.lemmas.Option.{slice_get_within}
use Rattle.explore_core.specs.declared.job.Job.{Job}
use Rattle.explore_core.specs.declared.hand.WorkerHand.{WorkerHand}
use Rattle.explore_core.specs.declared.hand.WorkerHand.TheVariants.{Idle, Holding, Ended, Lost}
use Rattle.explore_core.specs.declared.piece.BlockFindings.TheVariants.{Lines, Passed}
use Rattle.explore_core.specs.declared.event.Event.TheVariants.{Draw, Take, Look, Put, Post, Pass, Done, Quit}
use Rattle.explore_core.specs.Jobs.{block_at, failing, lies_after}
use Rattle.explore_core.specs.State.{State, may_draw, after_draw, is_idle, after_steal, next_job, after_look, last_judged, after_put, lower_image, after_post, handed_over, piece_passed, piece_done, quit}
use Rattle.explore_core.specs.May.{May, UnlessItMay}
use Rattle.explore_core.specs.Lists.{is_under, listed_under}
use Rattle.explore_core.proofs.Each.{any_at}
use Rattle.explore_core.proofs.Sound.{after_all_of}

-- what is found, and where
found_at : (js : List Job) (job : Job) → find (λ (j : Job). j.fails) js ≡ Some job → (i : ℕ) × (own : Job) × (slice_get js i ≡ Some own) × (own.fails ≡ true)
found_at [] job e = absurd (let bad : None ≡ Some job = e in cc)
found_at (j ∷ js) job e = step j.fails refl e (found_at js job)
  where
    step : (b : Bool) → j.fails ≡ b → cond b (Some j) (find (λ (j : Job). j.fails) js) ≡ Some job
        → (find (λ (j : Job). j.fails) js ≡ Some job → (i : ℕ) × (own : Job) × (slice_get js i ≡ Some own) × (own.fails ≡ true))
        → (i : ℕ) × (own : Job) × (slice_get (j ∷ js) i ≡ Some own) × (own.fails ≡ true)
    step true k e rest = (zero, j, refl, k)
    step false k e rest = let there = rest e in (suc there.0, there.1, there.2, there.3)

draw_not : (s : State) (w : ℕ) (hand : Option WorkerHand) (late : Option Bool) → slice_get s.hands w ≡ hand → slice_get s.late w ≡ late → (May s (Draw w) → ⊥) → after_draw s w (may_draw hand late) ≡ s
draw_not s w None late at is h = refl
draw_not s w (Some Ended) late at is h = refl
draw_not s w (Some (Lost b)) late at is h = refl
draw_not s w (Some Idle) None at is h = refl
draw_not s w (Some Idle) (Some true) at is h = refl
draw_not s w (Some Idle) (Some false) at is h = absurd (h (inl at, is))
draw_not s w (Some (Holding b judged)) None at is h = refl
draw_not s w (Some (Holding b judged)) (Some true) at is h = refl
draw_not s w (Some (Holding b judged)) (Some false) at is h = absurd (h (inr (b, judged, at), is))

take_not : (s : State) (w from block : ℕ) (hand : Option WorkerHand) (listed : Bool) → slice_get s.hands w ≡ hand → listed_under from block s.lists ≡ listed
    → (May s (Take w from block) → ⊥) → after_steal s w from block (is_idle hand) listed ≡ s
take_not s w from block None listed at there h = refl
take_not s w from block (Some Ended) listed at there h = refl
take_not s w from block (Some (Lost b)) listed at there h = refl
take_not s w from block (Some (Holding b judged)) listed at there h = refl
take_not s w from block (Some Idle) false at there h = refl
take_not s w from block (Some Idle) true at there h =
    let found = any_at (is_under from block) s.lists there in
    let parts = both (found.1.worker == from) (found.1.block == block) found.3 in
    let worker : found.1.worker ≡ from = grind (arith, nat_tests, parts.0) in
    let own : found.1.block ≡ block = grind (arith, nat_tests, parts.1) in
    absurd (h (at, (found.0, found.1, found.2, worker, own)))
  where
    both : (a b : Bool) → (a && b) ≡ true → (a ≡ true) × (b ≡ true)
    both true b e = (refl, e)
    both false b e = absurd (let bad : false ≡ true = e in cc)

look_not : (s : State) (w : ℕ) (hand : Option WorkerHand) → slice_get s.hands w ≡ hand → (May s (Look w) → ⊥) → after_look s w hand (next_job s.blocks hand) ≡ s
look_not s w None at h = refl
look_not s w (Some Idle) at h = refl
look_not s w (Some Ended) at h = refl
look_not s w (Some (Lost b)) at h = refl
look_not s w (Some (Holding b judged)) at h = step (slice_get (block_at s.blocks b) (length judged)) refl
  where
    step : (job : Option Job) → slice_get (block_at s.blocks b) (length judged) ≡ job → after_look s w (Some (Holding b judged)) job ≡ s
    step None e = refl
    step (Some job) e = absurd (h (b, judged, at, slice_get_within (block_at s.blocks b) (length judged) job e))

put_not : (s : State) (w : ℕ) (gone : List ℕ) (hand : Option WorkerHand) → slice_get s.hands w ≡ hand
    → ((block : ℕ) × (judged : List Job) × (slice_get s.hands w ≡ Some (Holding block judged)) × (0 < length judged) → ⊥) → after_put s gone (last_judged hand) ≡ s
put_not s w gone None at h = refl
put_not s w gone (Some Idle) at h = refl
put_not s w gone (Some Ended) at h = refl
put_not s w gone (Some (Lost b)) at h = refl
put_not s w gone (Some (Holding b judged)) at h = step (slice_get judged (length judged - 1)) refl
  where
    step : (job : Option Job) → slice_get judged (length judged - 1) ≡ job → after_put s gone job ≡ s
    step None e = refl
    step (Some job) e = let within = slice_get_within judged (length judged - 1) job e in absurd (h (b, judged, at, omega (arith, within)))

post_not : (s : State) (w : ℕ) (hand : Option WorkerHand) → slice_get s.hands w ≡ hand → (May s (Post w) → ⊥) → after_post s hand ≡ s
post_not s w None at h = refl
post_not s w (Some Idle) at h = refl
post_not s w (Some Ended) at h = refl
post_not s w (Some (Lost b)) at h = refl
post_not s w (Some (Holding b judged)) at h = step (find (λ (j : Job). j.fails) judged) refl
  where
    step : (o : Option Job) → find (λ (j : Job). j.fails) judged ≡ o → record s { least = lower_image s.least (option_map (λ (j : Job). j.image) o) } ≡ s
    step None e = refl
    step (Some job) e = absurd (h (b, judged, at, found_at judged job e))

pass_not : (s : State) (w : ℕ) (hand : Option WorkerHand) (first : Bool) (least : Option ℕ) → slice_get s.hands w ≡ hand → s.first ≡ first → s.least ≡ least
    → (May s (Pass w) → ⊥) → handed_over s w (piece_passed s.blocks first least hand) ≡ s
pass_not s w hand false least at is_first is_least h = refl
pass_not s w hand true None at is_first is_least h = refl
pass_not s w None true (Some image) at is_first is_least h = refl
pass_not s w (Some Idle) true (Some image) at is_first is_least h = refl
pass_not s w (Some Ended) true (Some image) at is_first is_least h = refl
pass_not s w (Some (Lost b)) true (Some image) at is_first is_least h = refl
pass_not s w (Some (Holding b judged)) true (Some image) at is_first is_least h = step (lies_after image (block_at s.blocks b)) refl
  where
    step : (t : Bool) → lies_after image (block_at s.blocks b) ≡ t → handed_over s w (if t then Some (record { block = b; found = Passed image }) else None) ≡ s
    step false e = refl
    step true e = absurd (h (b, judged, at, is_first, (image, is_least, after_all_of image (block_at s.blocks b) e)))

done_not : (s : State) (w : ℕ) (hand : Option WorkerHand) → slice_get s.hands w ≡ hand → (May s (Done w) → ⊥) → handed_over s w (piece_done s.blocks hand) ≡ s
done_not s w None at h = refl
done_not s w (Some Idle) at h = refl
done_not s w (Some Ended) at h = refl
done_not s w (Some (Lost b)) at h = refl
done_not s w (Some (Holding b judged)) at h = step (length judged == length (block_at s.blocks b)) refl
  where
    step : (t : Bool) → (length judged == length (block_at s.blocks b)) ≡ t
        → handed_over s w (if t then Some (record { block = b; found = Lines (failing judged) }) else None) ≡ s
    step false e = refl
    step true e = let whole : length judged ≡ length (block_at s.blocks b) = grind (arith, nat_tests, e) in absurd (h (b, judged, at, whole))

-- what is set to what it was
set_same : {X : Type 0} (xs : List X) (w : ℕ) (x : X) → slice_get xs w ≡ Some x → slice_set xs w x ≡ xs
set_same [] w x at = refl
set_same (y ∷ ys) zero x at = let same : y ≡ x = (let s : Some y ≡ Some x = at in cc) in ap (λ z. z ∷ ys) (sym same)
set_same (y ∷ ys) (suc w) x at = ap (λ zs. y ∷ zs) (set_same ys w x at)

quit_not : (s : State) (w : ℕ) (hand : Option WorkerHand) → slice_get s.hands w ≡ hand → (May s (Quit w) → ⊥) → quit s w hand ≡ s
quit_not s w None at h = refl
quit_not s w (Some Idle) at h = absurd (h (inl at))
quit_not s w (Some Ended) at h = λ i. record s { hands = set_same s.hands w Ended at i }
quit_not s w (Some (Lost b)) at h = λ i. record s { hands = set_same s.hands w (Lost b) at i }
quit_not s w (Some (Holding b judged)) at h = absurd (h (inr (b, judged, at)))

pub unless_it_may : UnlessItMay
unless_it_may s (Draw w) h = draw_not s w (slice_get s.hands w) (slice_get s.late w) refl refl h
unless_it_may s (Take w from block) h = take_not s w from block (slice_get s.hands w) (listed_under from block s.lists) refl refl h
unless_it_may s (Look w) h = look_not s w (slice_get s.hands w) refl h
unless_it_may s (Put w gone) h = put_not s w gone (slice_get s.hands w) refl h
unless_it_may s (Post w) h = post_not s w (slice_get s.hands w) refl h
unless_it_may s (Pass w) h = pass_not s w (slice_get s.hands w) s.first s.least refl refl refl h
unless_it_may s (Done w) h = done_not s w (slice_get s.hands w) refl h
unless_it_may s (Quit w) h = quit_not s w (slice_get s.hands w) refl h

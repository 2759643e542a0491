-- The pieces of a complete run by block.
use Rattle.std.proofs.Common.{ℕ, zero, suc, ◌≡◌, ◌+◌, ◌<◌, ◌≤◌, ◌==◌, ◌⊎◌, inl, inr, Bool, true, false, cond, List, [], ◌∷◌, ◌++◌, length, filter, None, Some, slice_get, refl, sym, ◌∙◌, ap, arith}
use Rattle.std.specs.List.{count_by, flat_map, range_with_len}
use Rattle.std.proofs.lemmas.Bool.{cases_lt}
use Rattle.std.proofs.lemmas.Bool.Decides.{nat_tests}
use Rattle.std.proofs.lemmas.List.Elements.{filter-append}
use Rattle.std.proofs.lemmas.List.Sums.{length-filter, sum_by-cons}
use Rattle.explore_core.specs.declared.job.Job.{Job}
use Rattle.explore_core.specs.declared.piece.HandedBlock.{HandedBlock}
use Rattle.explore_core.specs.declared.piece.BlockFindings.{BlockFindings}
use Rattle.explore_core.specs.declared.piece.BlockFindings.TheVariants.{Lines, Passed}
use Rattle.explore_core.specs.Jobs.{Rise, all_jobs, block_at, failing}
use Rattle.explore_core.specs.State.{State}
use Rattle.explore_core.specs.Sound.{Each, IsFailing, ComesBefore, IsTrueFound, IsTruePiece, passes, is_passed, piece_count, lines_of, lines_at, by_block, first_lines, BeginsWith, IsSound, IsComplete}
use Rattle.explore_core.proofs.Each.{each_filter}

-- the one piece of a block

-- the lines are the failing jobs of the block, or the block was passed over
abbrev IsRow : List (List Job) → List Job → List Job → Type 0
IsRow blocks js ls = (ls ≡ failing js) ⊎ ((ls ≡ []) × ((image : ℕ) × IsFailing blocks image × ComesBefore image js))

same_row : (blocks : List (List Job)) (js : List Job) {ls ms : List Job} → ls ≡ ms → IsRow blocks js ls → IsRow blocks js ms
same_row blocks js e row = rw e at row

row_of : (blocks : List (List Job)) (b : ℕ) (found : BlockFindings) → IsTrueFound blocks b found → IsRow blocks (block_at blocks b) (lines_of found)
row_of blocks b (Lines js) h = inl h
row_of blocks b (Passed image) h = inr (refl, (image, h.0, h.1))

full_of : (blocks : List (List Job)) (b : ℕ) (found : BlockFindings) → IsTrueFound blocks b found → passes found ≡ false → lines_of found ≡ failing (block_at blocks b)
full_of blocks b (Lines js) h full = h
full_of blocks b (Passed image) h full = absurd (let bad : true ≡ false = full in cc)

abbrev lines_in : List HandedBlock → List Job
lines_in pieces = flat_map (λ (p : HandedBlock). lines_of p.found) pieces

alone : (pieces : List HandedBlock) → length pieces ≡ 1 → (p : HandedBlock) × (slice_get pieces 0 ≡ Some p) × (lines_in pieces ≡ lines_of p.found)
alone [] h = absurd (omega (arith, h))
alone (p ∷ []) h = (p, refl, all (lines_of p.found))
  where
    all : (js : List Job) → js ++ [] ≡ js
    all [] = refl
    all (j ∷ js) = ap (λ ks. j ∷ ks) (all js)
alone (p ∷ q ∷ ps) h = absurd (omega (arith, h))

-- the piece of a block of which there is one
one_piece : (blocks : List (List Job)) (P : HandedBlock → Type 0) (pieces : List HandedBlock) (b : ℕ) → Each P pieces → piece_count pieces b ≡ 1
    → (p : HandedBlock) × P p × (p.block ≡ b) × (lines_at pieces b ≡ lines_of p.found)
one_piece blocks P pieces b h one =
    let count : length (filter (λ (p : HandedBlock). p.block == b) pieces) ≡ 1 = length-filter (λ (p : HandedBlock). p.block == b) pieces ∙ one in
    let p = alone (filter (λ (p : HandedBlock). p.block == b) pieces) count in
    let is = each_filter P (λ (p : HandedBlock). p.block == b) pieces h 0 p.0 p.1 in
    (p.0, is.0, (grind (arith, nat_tests, is.1)), p.2)

piece_row : (blocks : List (List Job)) (pieces : List HandedBlock) (b : ℕ) → Each (IsTruePiece blocks) pieces → piece_count pieces b ≡ 1
    → IsRow blocks (block_at blocks b) (lines_at pieces b)
piece_row blocks pieces b h one =
    let p = one_piece blocks (IsTruePiece blocks) pieces b h one in
    let row = row_of blocks p.0.block p.0.found p.1.1 in
    rw p.3 (rw p.2 at row)

-- no piece is passed
none_counted : (pieces : List HandedBlock) → count_by is_passed pieces ≡ 0 → Each (λ p. is_passed p ≡ false) pieces
none_counted [] h i p at = absurd (let bad : None ≡ Some p = at in cc)
none_counted (q ∷ qs) h i p at = step (none_counted qs rest) (is_passed q) refl i at
  where
    sums : cond (is_passed q) 1 0 + count_by is_passed qs ≡ 0
    sums = sym (sum_by-cons (λ x. cond (is_passed x) 1 0) q qs) ∙ h

    rest : count_by is_passed qs ≡ 0
    rest = omega (arith, sums)

    step : Each (λ p. is_passed p ≡ false) qs → (b : Bool) → is_passed q ≡ b → (i : ℕ) → slice_get (q ∷ qs) i ≡ Some p → is_passed p ≡ false
    step more true e i at = absurd (let bad : ◌≡◌ {A = ℕ} (cond (is_passed q) 1 0) 1 = ap (λ b. cond b 1 0) e in omega (arith, sums, bad))
    step more false e zero at = let same : q ≡ p = (let s : Some q ≡ Some p = at in cc) in rw same at e
    step more false e (suc i) at = more i p at

whole_row : (blocks : List (List Job)) (pieces : List HandedBlock) (b : ℕ) → Each (IsTruePiece blocks) pieces → count_by is_passed pieces ≡ 0 → piece_count pieces b ≡ 1
    → lines_at pieces b ≡ failing (block_at blocks b)
whole_row blocks pieces b h none one =
    let full = none_counted pieces none in
    let p = one_piece blocks (λ p. IsTruePiece blocks p × (is_passed p ≡ false)) pieces b (λ i p at. (h i p at, full i p at)) one in
    p.3 ∙ full_of blocks p.0.block p.0.found p.1.0.1 p.1.1 ∙ ap (λ c. failing (block_at blocks c)) p.2

-- rows by block

no_pass : (bs : List (List Job)) (a : ℕ) (f : ℕ → List Job) → ((k : ℕ) → k < length bs → f (a + k) ≡ failing (block_at bs k))
    → flat_map f (range_with_len a (length bs)) ≡ failing (all_jobs bs)
no_pass [] a f h = refl
no_pass (js ∷ bs) a f h =
    let first : f a ≡ failing js = (let e : a ≡ a + 0 = omega arith in ap f e ∙ h 0 (omega arith)) in
    let rest = no_pass bs (a + 1) f (λ k lt. let e : a + 1 + k ≡ a + suc k = omega arith in ap f e ∙ h (suc k) (omega (arith, lt))) in
    rw (first, rest) (sym (filter-append (λ (j : Job). j.fails) js (all_jobs bs)))

-- with some passed

abbrev of_image : ℕ → List Job → List Job
of_image m js = filter (λ (k : Job). k.image == m) js

-- no failing job has a lower image
abbrev Lowest : ℕ → List Job → Type 0
Lowest m [] = Unit {0}
Lowest m (j ∷ js) = (j.fails ≡ true → m ≤ j.image) × Lowest m js

none_above : (m low : ℕ) (js : List Job) → m < low → Rise low js → of_image m (failing js) ≡ []
none_above m low [] lt h = refl
none_above m low (j ∷ js) lt h = step j.fails (none_above m j.image js (omega (arith, lt, h.0)) h.1)
  where
    step : (b : Bool) → of_image m (failing js) ≡ [] → of_image m (cond b (j ∷ failing js) (failing js)) ≡ []
    step false rest = rest
    step true rest = let other : (j.image == m) ≡ false = grind (arith, nat_tests, lt, h.0) in rw (other, rest) refl

begins_none : (front js : List Job) → front ≡ [] → BeginsWith front js
begins_none front js e = (js, rw e refl)

begins_more : (j : Job) (front js : List Job) → BeginsWith front js → BeginsWith (j ∷ front) (j ∷ js)
begins_more j front js h = (h.0, ap (λ ks. j ∷ ks) h.1)

-- a block of which all failing jobs were handed over, before others
full_first : (m low : ℕ) (js rest lines : List Job) → Rise low (js ++ rest) → Lowest m (js ++ rest)
    → ((lower : ℕ) → Rise lower rest → Lowest m rest → BeginsWith (of_image m (failing rest)) lines)
    → BeginsWith (of_image m (failing (js ++ rest))) (failing js ++ lines)
full_first m low [] rest lines rise lowest then = then low rise lowest
full_first m low (j ∷ js) rest lines rise lowest then =
    step j.fails refl (full_first m j.image js rest lines rise.1 lowest.1 then) (cases_lt m j.image)
  where
    step : (b : Bool) → j.fails ≡ b → BeginsWith (of_image m (failing (js ++ rest))) (failing js ++ lines) → (m < j.image) ⊎ (j.image ≤ m)
        → BeginsWith (of_image m (cond b (j ∷ failing (js ++ rest)) (failing (js ++ rest)))) (cond b (j ∷ failing js) (failing js) ++ lines)
    step false e more lt = more
    step true e more (inl less) =
        let other : (j.image == m) ≡ false = grind (arith, nat_tests, less) in
        begins_none (of_image m (j ∷ failing (js ++ rest))) ((j ∷ failing js) ++ lines) (rw (other, none_above m j.image (js ++ rest) less rise.1) refl)
    step true e more (inr least) =
        let this : (j.image == m) ≡ true = grind (arith, nat_tests, least, lowest.0 e) in
        rw this (begins_more j (of_image m (failing (js ++ rest))) (failing js ++ lines) more)

-- a block that was passed over
passed_first : (m image low : ℕ) (js rest lines : List Job) → m ≤ image → ComesBefore image js → Rise low (js ++ rest) → Lowest m (js ++ rest)
    → ((lower : ℕ) → Rise lower rest → Lowest m rest → BeginsWith (of_image m (failing rest)) lines)
    → BeginsWith (of_image m (failing (js ++ rest))) lines
passed_first m image low [] rest lines le before rise lowest then = then low rise lowest
passed_first m image low (j ∷ js) rest lines le before rise lowest then =
    let first : image < j.image = before 0 j refl in
    let above : m < j.image = omega (arith, le, first) in
    let lowest_here : j.image ≤ j.image = omega arith in
    begins_none (of_image m (failing ((j ∷ js) ++ rest))) lines (none_above m j.image ((j ∷ js) ++ rest) above (lowest_here, rise.1))

with_passed : (all : List (List Job)) (m low : ℕ) (bs : List (List Job)) (a : ℕ) (f : ℕ → List Job) → ((image : ℕ) → IsFailing all image → m ≤ image)
    → ((k : ℕ) → k < length bs → IsRow all (block_at bs k) (f (a + k))) → Rise low (all_jobs bs) → Lowest m (all_jobs bs)
    → BeginsWith (of_image m (failing (all_jobs bs))) (flat_map f (range_with_len a (length bs)))
with_passed all m low [] a f least h rise lowest = ([], refl)
with_passed all m low (js ∷ bs) a f least h rise lowest =
    step (f a) first (λ lower r l. with_passed all m lower bs (a + 1) f least
    (λ k lt. let e : a + suc k ≡ a + 1 + k = omega arith in rw e at (h (suc k) (omega (arith, lt)))) r l)
  where
    first : IsRow all js (f a)
    first = let e : a + 0 ≡ a = omega arith in rw e at (h 0 (omega arith))

    step : (ls : List Job) → IsRow all js ls
        → ((lower : ℕ) → Rise lower (all_jobs bs) → Lowest m (all_jobs bs) → BeginsWith (of_image m (failing (all_jobs bs))) (flat_map f (range_with_len (a + 1) (length bs))))
        → BeginsWith (of_image m (failing (js ++ all_jobs bs))) (ls ++ flat_map f (range_with_len (a + 1) (length bs)))
    step ls (inl full) then = rw full (full_first m low js (all_jobs bs) (flat_map f (range_with_len (a + 1) (length bs))) rise lowest then)
    step ls (inr over) then = rw over.0 (passed_first m over.1.0 low js (all_jobs bs) (flat_map f (range_with_len (a + 1) (length bs)))
        (least over.1.0 over.1.1) over.1.2 rise lowest then)

-- the first failing image is the least

rise_lowest : (low : ℕ) (js : List Job) → Rise low js → Lowest low js
rise_lowest low [] h = tt
rise_lowest low (j ∷ js) h = ((λ fails. h.0), lower low j.image js h.0 (rise_lowest j.image js h.1))
  where
    lower : (m n : ℕ) (js : List Job) → m ≤ n → Lowest n js → Lowest m js
    lower m n [] le h = tt
    lower m n (j ∷ js) le h = ((λ fails. omega (arith, le, h.0 fails)), lower m n js le h.1)

first_lowest : (low : ℕ) (js : List Job) (l : Job) (ls : List Job) → Rise low js → failing js ≡ l ∷ ls → Lowest l.image js
first_lowest low [] l ls h e = absurd (let bad : [] ≡ l ∷ ls = e in cc)
first_lowest low (j ∷ js) l ls h e = step j.fails refl e (λ f. first_lowest j.image js l ls h.1 f)
  where
    step : (b : Bool) → j.fails ≡ b → cond b (j ∷ failing js) (failing js) ≡ l ∷ ls → (failing js ≡ l ∷ ls → Lowest l.image js)
        → (j.fails ≡ true → l.image ≤ j.image) × Lowest l.image js
    step true k e rest =
        let same : j ≡ l = (let s : j ∷ failing js ≡ l ∷ ls = e in cc) in
        let own : j.image ≤ j.image = omega arith in
        rw (← same) ((λ fails. own), rise_lowest j.image js h.1)
    step false k e rest = ((λ fails. absurd (let bad : false ≡ true = sym k ∙ fails in cc)), rest e)

lowest_at : (m : ℕ) (js : List Job) (i : ℕ) (job : Job) → Lowest m js → slice_get js i ≡ Some job → job.fails ≡ true → m ≤ job.image
lowest_at m [] i job h at fails = absurd (let bad : None ≡ Some job = at in cc)
lowest_at m (j ∷ js) zero job h at fails =
    let same : j ≡ job = (let s : Some j ≡ Some job = at in cc) in
    (rw same at h.0) fails
lowest_at m (j ∷ js) (suc i) job h at fails = lowest_at m js i job h.1 at fails

-- the whole

each_once : (s : State) → IsSound s → IsComplete s → (b : ℕ) → b < length s.blocks → piece_count s.pieces b ≡ 1
each_once s sound complete b lt = omega (arith, complete.held b, complete.lost b, sound.places.drawn b (omega (arith, lt, complete.drawn)) lt)

pub whole_is_failing : (s : State) → IsSound s → IsComplete s → count_by is_passed s.pieces ≡ 0 → by_block s.pieces (length s.blocks) ≡ failing (all_jobs s.blocks)
whole_is_failing s sound complete none =
    no_pass s.blocks 0 (lines_at s.pieces) (λ k lt.
    let e : 0 + k ≡ k = omega arith in
    ap (lines_at s.pieces) e ∙ whole_row s.blocks s.pieces k sound.pieces none (each_once s sound complete k lt))

pub whole_begins : (s : State) → IsSound s → IsComplete s → BeginsWith (first_lines (failing (all_jobs s.blocks))) (by_block s.pieces (length s.blocks))
whole_begins s sound complete = step (failing (all_jobs s.blocks)) refl
  where
    step : (fails : List Job) → failing (all_jobs s.blocks) ≡ fails → BeginsWith (first_lines fails) (by_block s.pieces (length s.blocks))
    step [] e = (by_block s.pieces (length s.blocks), refl)
    step (l ∷ ls) e =
        let lowest = first_lowest 0 (all_jobs s.blocks) l ls sound.jobs.rise e in
        let begins = with_passed s.blocks l.image 0 s.blocks 0 (lines_at s.pieces)
        (λ image h. rw h.3 at (lowest_at l.image (all_jobs s.blocks) h.1.0 h.0 lowest h.1.1 h.2))
        (λ k lt. let e : k ≡ 0 + k = omega arith in same_row s.blocks (block_at s.blocks k) (ap (lines_at s.pieces) e) (piece_row s.blocks s.pieces k sound.pieces (each_once s sound complete k lt)))
        sound.jobs.rise lowest in
        rw e at begins

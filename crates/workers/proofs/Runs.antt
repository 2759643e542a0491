-- The pieces of a run.
use Rattle.std.proofs.Common.{ℕ, zero, suc, ◌≡◌, ◌≢◌, ◌+◌, ◌-◌, ◌*◌, ◌==◌, ◌<◌, ◌≤◌, ◌⊎◌, inl, inr, min, Bool, true, false, ◌&&◌, ◌||◌, cond, nat_lt, nat_le, List, [], ◌∷◌, ◌++◌, length, map, filter, None, Some, slice_get, refl, sym, ◌∙◌, ap, subst, arith, append-nil}
use Rattle.std.specs.List.{flat_map, range_with_len, list_any}
use Rattle.std.proofs.lemmas.Bool.Decides.{eqb_tells, nat_tests}
use Rattle.base.proofs.Lists.{slice_get_of_push}
use Rattle.base.specs.declared.causes.WorkCause.TheVariants as work
use Rattle.base.specs.declared.refusal.Refusal.{Refusal}
use Rattle.base.specs.Refusals.{work_refusal}
use Rattle.report.specs.Line.{FailingLine, first_lines}
use Rattle.workers.specs.declared.found.BlockFound.{BlockFound}
use Rattle.workers.specs.declared.found.BlockFound.TheVariants.{Lines, Passed}
use Rattle.workers.specs.Exploring.{ArePiecesOf}
use Rattle.workers.specs.Failing.{Subject, judged_count, lines_from, failing_lines, part}
use Rattle.workers.specs.Laws.{AreSomeOf, BeginsWithFirst}
use Rattle.workers.specs.Pieces.{PieceValue, EachPiece, ArePieces, AreFull, AreWhole, HasPart, passes, block_count, of_block, pieces_at, counted_at, lines_at, lines_of, full_lines, counts, lines_by_block, RefusesPieces, two_pieces, no_piece, no_memory}
use Rattle.workers.proofs.JudgedLines.{all_parts}
use Rattle.workers.proofs.Sets.{Each, Ordered, each_then, all_ordered, of_range}
use Rattle.workers.proofs.SomeLines.{AreIn, IsKept, begins, some_ordered, some_of_blocks, first_of_blocks}

-- the one piece of a block

of_tail : (P : PieceValue → Type 0) (p : PieceValue) (ps : List PieceValue) → EachPiece P (p ∷ ps) → EachPiece P ps
of_tail P p ps h i q there = h (suc i) q there

each_filter : (P : PieceValue → Type 0) (test : PieceValue → Bool) (ps : List PieceValue) → EachPiece P ps → EachPiece (λ p. P p × (test p ≡ true)) (filter test ps)
each_filter P test [] h i q there = absurd (let bad : None ≡ Some q = there in cc)
each_filter P test (p ∷ ps) h i q there = step (test p) refl (each_filter P test ps (of_tail P p ps h)) i there
  where
    step : (b : Bool) → test p ≡ b → EachPiece (λ p. P p × (test p ≡ true)) (filter test ps) → (i : ℕ) → slice_get (cond b (p ∷ filter test ps) (filter test ps)) i ≡ Some q
        → P q × (test q ≡ true)
    step true e rest zero at = let same : p ≡ q = (let s : Some p ≡ Some q = at in cc) in subst (λ (x : PieceValue). P x × (test x ≡ true)) same (h 0 p refl, e)
    step true e rest (suc i) at = rest i q at
    step false e rest i at = rest i q at

alone : (ps : List PieceValue) → length ps ≡ 1 → (p : PieceValue) × (ps ≡ p ∷ [])
alone [] h = absurd (omega (arith, h))
alone (p ∷ []) h = (p, refl)
alone (p ∷ q ∷ ps) h = absurd (omega (arith, h))

-- the piece of a block of which there is one
abbrev IsOne : (PieceValue → Type 0) → List PieceValue → ℕ → Type 0
IsOne P ps b = (p : PieceValue) × P p × (p.block ≡ b) × (of_block ps b ≡ p ∷ [])

one_piece : (P : PieceValue → Type 0) (ps : List PieceValue) (b : ℕ) → EachPiece P ps → pieces_at ps b ≡ 1 → IsOne P ps b
one_piece P ps b h one =
    let p = alone (of_block ps b) one in
    let first : slice_get (of_block ps b) 0 ≡ Some p.0 = ap (λ (qs : List PieceValue). slice_get qs 0) p.1 in
    let is = each_filter P (λ (q : PieceValue). q.block == b) ps h 0 p.0 first in
    (p.0, is.0, (grind (arith, nat_tests, is.1)), p.1)

-- where none was passed over

full_part : (s : Subject) (b : ℕ) (found : BlockFound) → HasPart s b found → passes found ≡ false → lines_of found ≡ part s b
full_part s b (Lines own) h full = h
full_part s b (Passed image) h full = absurd (let bad : true ≡ false = full in cc)

own_part : (s : Subject) (ps : List PieceValue) (b : ℕ) → ArePieces s ps → AreFull ps → pieces_at ps b ≡ 1 → lines_at ps b ≡ part s b
own_part s ps b h full one =
    let p = one_piece (λ p. ((p.block < block_count s) × HasPart s p.block p.found) × (passes p.found ≡ false)) ps b (λ i q at. (h i q at, full i q at)) one in
    ap full_lines p.3 ∙ append-nil (lines_of p.0.found) ∙ full_part s p.0.block p.0.found p.1.0.1 p.1.1 ∙ ap (part s) p.2

alike : (f g : ℕ → List FailingLine) (a n : ℕ) → ((b : ℕ) → b < a + n → f b ≡ g b) → flat_map f (range_with_len a n) ≡ flat_map g (range_with_len a n)
alike f g a zero h = refl
alike f g a (suc n) h = rw (h a (omega arith), alike f g (a + 1) n (λ b lt. h b (omega (arith, lt)))) refl

pub without_passed : (s : Subject) (ps : List PieceValue) → ArePieces s ps → AreFull ps → AreWhole s.from ps (block_count s) → lines_by_block ps (block_count s) ≡ failing_lines s
unfolding lines_by_block
without_passed s ps h full whole =
    alike (lines_at ps) (part s) 0 (block_count s) (λ b lt. own_part s ps b h full (whole b (omega (arith, lt))).0) ∙ all_parts s

-- where some were

part_in : (s : Subject) (b : ℕ) → AreIn s.from b (part s b)
unfolding part
part_in s b = step (of_range s (s.from + 64 * b) (min 64 (judged_count s - 64 * b)))
  where
    step : Each (λ l. (s.from + 64 * b ≤ l.image) × (l.image < s.from + 64 * b + min 64 (judged_count s - 64 * b))) (lines_from s (s.from + 64 * b) (min 64 (judged_count s - 64 * b)))
        → AreIn s.from b (lines_from s (s.from + 64 * b) (min 64 (judged_count s - 64 * b)))
    step h = each_then _ _ _ (λ l is. (is.0, omega (arith, is.1))) h

any_in : (P : FailingLine → Type 0) (test : FailingLine → Bool) (ls : List FailingLine) → Each P ls → list_any test ls ≡ true
    → (l : FailingLine) × P l × (test l ≡ true)
any_in P test [] h e = absurd (let bad : false ≡ true = e in cc)
any_in P test (l ∷ ls) h e = step (test l) refl (any_in P test ls h.1) e
  where
    step : (b : Bool) → test l ≡ b → (list_any test ls ≡ true → (k : FailingLine) × P k × (test k ≡ true)) → (b || list_any test ls) ≡ true → (k : FailingLine) × P k × (test k ≡ true)
    step true is rest g = (l, h.0, is)
    step false is rest g = rest g

any_append : (test : FailingLine → Bool) (xs ys : List FailingLine) → list_any test (xs ++ ys) ≡ true → (list_any test xs ≡ true) ⊎ (list_any test ys ≡ true)
any_append test [] ys e = inr e
any_append test (x ∷ xs) ys e = step (test x) (any_append test xs ys) e
  where
    step : (b : Bool) → (list_any test (xs ++ ys) ≡ true → (list_any test xs ≡ true) ⊎ (list_any test ys ≡ true))
        → (b || list_any test (xs ++ ys)) ≡ true → ((b || list_any test xs) ≡ true) ⊎ (list_any test ys ≡ true)
    step true rest g = inl refl
    step false rest g = rest g

-- some piece has a line that passes the test
abbrev HasLine : (FailingLine → Bool) → List PieceValue → Type 0
HasLine test ps = (i : ℕ) × ((p : PieceValue) × (slice_get ps i ≡ Some p) × (list_any test (lines_of p.found) ≡ true))

line_of_piece : (test : FailingLine → Bool) (ps : List PieceValue) → list_any test (full_lines ps) ≡ true → HasLine test ps
line_of_piece test [] e = absurd (let bad : false ≡ true = e in cc)
line_of_piece test (p ∷ ps) e = step (line_of_piece test ps) (any_append test (lines_of p.found) (full_lines ps) e)
  where
    later : HasLine test ps → HasLine test (p ∷ ps)
    later h = (suc h.0, h.1)

    step : (list_any test (full_lines ps) ≡ true → HasLine test ps) → (list_any test (lines_of p.found) ≡ true) ⊎ (list_any test (full_lines ps) ≡ true)
        → HasLine test (p ∷ ps)
    step rest (inl here) = (0, (p, refl, here))
    step rest (inr there) = later (rest there)

append_empty : (xs ys : List FailingLine) → xs ++ ys ≡ [] → (xs ≡ []) × (ys ≡ [])
append_empty [] ys e = (refl, e)
append_empty (x ∷ xs) ys e = absurd (let bad : x ∷ (xs ++ ys) ≡ [] = e in cc)

no_lines : (ps : List PieceValue) (c : ℕ) → lines_at ps c ≡ [] → EachPiece (λ p. p.block ≡ c → lines_of p.found ≡ []) ps
no_lines [] c e i q there = absurd (let bad : None ≡ Some q = there in cc)
no_lines (p ∷ ps) c e i q there = elim (eqb_tells p.block c) [
  | inl own ↦
      let both = append_empty (lines_of p.found) (lines_at ps c) (rw own.0 at e) in
      here both.0 (no_lines ps c both.1) i there
  | inr differ ↦ here_not differ.1 (no_lines ps c (rw differ.0 at e)) i there
]
  where
    here : lines_of p.found ≡ [] → EachPiece (λ p. p.block ≡ c → lines_of p.found ≡ []) ps → (i : ℕ) → slice_get (p ∷ ps) i ≡ Some q → q.block ≡ c → lines_of q.found ≡ []
    here none rest zero at own = let same : p ≡ q = (let s : Some p ≡ Some q = at in cc) in subst (λ (x : PieceValue). lines_of x.found ≡ []) same none
    here none rest (suc i) at own = rest i q at own

    here_not : p.block ≢ c → EachPiece (λ p. p.block ≡ c → lines_of p.found ≡ []) ps → (i : ℕ) → slice_get (p ∷ ps) i ≡ Some q → q.block ≡ c → lines_of q.found ≡ []
    here_not other rest zero at own = let same : p ≡ q = (let s : Some p ≡ Some q = at in cc) in absurd (other (ap (λ (x : PieceValue). x.block) same ∙ own))
    here_not other rest (suc i) at own = rest i q at own

-- a full piece that has a line at or before an image has a block at or before it
block_of_line : (s : Subject) (image c : ℕ) (found : BlockFound) → HasPart s c found → list_any (λ (l : FailingLine). nat_le l.image (s.from + image)) (lines_of found) ≡ true → 64 * c ≤ image
block_of_line s image c (Passed other) h e = absurd (let bad : false ≡ true = e in cc)
block_of_line s image c (Lines own) h e =
    let within : AreIn s.from c own = subst (AreIn s.from c) (sym h) (part_in s c) in
    let l = any_in (λ l. (s.from + 64 * c ≤ l.image) × (l.image < s.from + 64 * c + 64)) (λ (l : FailingLine). nat_le l.image (s.from + image)) own within e in
    let le : l.0.image ≤ s.from + image = grind (arith, nat_tests, l.2) in
    omega (arith, le, l.1.0)

earlier : (s : Subject) (ps : List PieceValue) (b image : ℕ) → ArePieces s ps → counts s.from (full_lines ps) b (Passed image) ≡ true
    → (c : ℕ) × (c < b) × (lines_at ps c ≢ [])
earlier s ps b image h e =
    let two = both (nat_lt image (64 * b)) (list_any (λ (l : FailingLine). nat_le l.image (s.from + image)) (full_lines ps)) e in
    let lt : image < 64 * b = grind (arith, nat_tests, two.0) in
    let q = line_of_piece (λ (l : FailingLine). nat_le l.image (s.from + image)) ps two.1 in
    let le = block_of_line s image q.1.0.block q.1.0.found (h q.0 q.1.0 q.1.1).1 q.1.2 in (
      q.1.0.block,
      omega (arith, lt, le),
      λ none.
          let empty : lines_of q.1.0.found ≡ [] = no_lines ps q.1.0.block none q.0 q.1.0 q.1.1 refl in
          let bad : false ≡ true = sym (ap (list_any (λ (l : FailingLine). nat_le l.image (s.from + image))) empty) ∙ q.1.2 in
          cc,
    )
  where
    both : (a b : Bool) → (a && b) ≡ true → (a ≡ true) × (b ≡ true)
    both true b h = (refl, h)
    both false b h = absurd (let bad : false ≡ true = h in cc)

one_counts : (from : ℕ) (lines : List FailingLine) (p : PieceValue) → length (filter (λ (q : PieceValue). counts from lines q.block q.found) (p ∷ [])) ≡ 1 → counts from lines p.block p.found ≡ true
one_counts from lines p e = step (counts from lines p.block p.found) e
  where
    step : (b : Bool) → length (cond b (p ∷ []) []) ≡ 1 → b ≡ true
    step true h = refl
    step false h = absurd (omega (arith, h))

kept_part : (s : Subject) (ps : List PieceValue) (b : ℕ) (found : BlockFound) → ArePieces s ps → HasPart s b found → counts s.from (full_lines ps) b found ≡ true
    → lines_at ps b ≡ lines_of found → IsKept (lines_at ps) (part s) b
kept_part s ps b (Lines own) h has count e = inl (e ∙ has)
kept_part s ps b (Passed image) h has count e = inr (e, earlier s ps b image h count)

kept : (s : Subject) (ps : List PieceValue) (b : ℕ) → ArePieces s ps → pieces_at ps b ≡ 1 → counted_at s.from ps b ≡ 1 → IsKept (lines_at ps) (part s) b
kept s ps b h one count =
    let p = one_piece (λ p. (p.block < block_count s) × HasPart s p.block p.found) ps b h one in
    let lines : lines_at ps b ≡ lines_of p.0.found = ap full_lines p.3 ∙ append-nil (lines_of p.0.found) in
    let counted : counts s.from (full_lines ps) p.0.block p.0.found ≡ true =
    one_counts s.from (full_lines ps) p.0 (ap (λ (qs : List PieceValue). length (filter (λ (q : PieceValue). counts s.from (full_lines ps) q.block q.found) qs)) (sym p.3) ∙ count) in
    kept_part s ps b p.0.found h (rw p.2 at p.1.1) (rw p.2 at counted) lines

pub some_lines : (s : Subject) (ps : List PieceValue) → ArePieces s ps → AreWhole s.from ps (block_count s) → AreSomeOf (lines_by_block ps (block_count s)) (failing_lines s)
unfolding lines_by_block
some_lines s ps h whole =
    rw (← all_parts s)
    (some_of_blocks (lines_at ps) (part s) 0 (block_count s)
    (λ b lt. let at = whole b (omega (arith, lt)) in kept s ps b h at.0 at.1))

pub same_first_lines : (s : Subject) (ps : List PieceValue) → ArePieces s ps → AreWhole s.from ps (block_count s) → first_lines (lines_by_block ps (block_count s)) ≡ first_lines (failing_lines s)
unfolding lines_by_block
same_first_lines s ps h whole =
    first_of_blocks s.from (lines_at ps) (part s) 0 (block_count s) (part_in s)
    (λ b lt. let at = whole b (omega (arith, lt)) in kept s ps b h at.0 at.1)
    (λ b lt. absurd (omega (arith, lt)))
    ∙ ap first_lines (all_parts s)

pub with_passed : (s : Subject) (ps : List PieceValue) → ArePieces s ps → AreWhole s.from ps (block_count s) → BeginsWithFirst (failing_lines s) (lines_by_block ps (block_count s))
with_passed s ps h whole =
    begins (failing_lines s) (lines_by_block ps (block_count s)) (all_ordered s) (some_lines s ps h whole) (same_first_lines s ps h whole)

pub lines_ordered : (s : Subject) (ps : List PieceValue) → ArePieces s ps → AreWhole s.from ps (block_count s) → Ordered (lines_by_block ps (block_count s))
lines_ordered s ps h whole = some_ordered (lines_by_block ps (block_count s)) (failing_lines s) (all_ordered s) (some_lines s ps h whole)

-- as they were collected

pub whole_run_of : (s : Subject) (ps : List PieceValue) (from blocks : ℕ) → from ≡ s.from → blocks ≡ block_count s → AreWhole from ps blocks → AreWhole s.from ps (block_count s)
whole_run_of s ps from blocks e f h = subst (λ n. AreWhole n ps (block_count s)) e (subst (λ n. AreWhole from ps n) f h)

-- one more piece

pub each_push : (P : PieceValue → Type 0) (ps : List PieceValue) (p : PieceValue) → EachPiece P ps → P p → EachPiece P (ps ++ p ∷ [])
each_push P ps p h own i q there = elim (slice_get_of_push ps p i q there) [
  | inl was ↦ h i q was
  | inr last ↦ subst P (sym last.1) own
]

-- these are never refused but for want of memory

pub count_blocks : (ps : List PieceValue) (b : ℕ) → pieces_at ps b ≡ length (filter (λ (n : ℕ). n == b) (map (λ (p : PieceValue). p.block) ps))
count_blocks [] b = refl
count_blocks (p ∷ ps) b = step (p.block == b) (count_blocks ps b)
  where
    step : (t : Bool) → pieces_at ps b ≡ length (filter (λ (n : ℕ). n == b) (map (λ (p : PieceValue). p.block) ps))
        → length (cond t (p ∷ of_block ps b) (of_block ps b))
        ≡ length (cond t (p.block ∷ filter (λ (n : ℕ). n == b) (map (λ (p : PieceValue). p.block) ps)) (filter (λ (n : ℕ). n == b) (map (λ (p : PieceValue). p.block) ps)))
    step true h = ap suc h
    step false h = h

all_count : (test : PieceValue → Bool) (ps : List PieceValue) (b : ℕ) → EachPiece (λ p. test p ≡ true) ps → length (filter test (of_block ps b)) ≡ pieces_at ps b
all_count test [] b h = refl
all_count test (p ∷ ps) b h = step (p.block == b) (all_count test ps b (of_tail (λ p. test p ≡ true) p ps h))
  where
    step : (t : Bool) → length (filter test (of_block ps b)) ≡ pieces_at ps b
        → length (filter test (cond t (p ∷ of_block ps b) (of_block ps b))) ≡ length (cond t (p ∷ of_block ps b) (of_block ps b))
    step true e = let this : test p ≡ true = h 0 p refl in rw this (ap suc e)
    step false e = e

pub only_memory : (s : Subject) (ps : List PieceValue) (r : Refusal) → ArePiecesOf s ps → RefusesPieces s.from ps (block_count s) r → r ≡ work_refusal work.Memory 0
only_memory s ps r are (two_pieces block h) = absurd (omega (arith, are.once block h.within, h.twice))
only_memory s ps r are (no_piece block h) =
    let counted = all_count (λ (p : PieceValue). counts s.from (full_lines ps) p.block p.found) ps block are.counted in
    absurd (omega (arith, are.once block h.within, counted, h.missing))
only_memory s ps r are no_memory = refl

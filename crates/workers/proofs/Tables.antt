-- The table of pieces, as one more piece is put into it.
use Rattle.std.proofs.Common.{ℕ, zero, suc, ◌≡◌, ◌≢◌, ◌+◌, ◌==◌, ◌<◌, ◌≤◌, ◌⊎◌, inl, inr, min, true, false, List, [], ◌∷◌, ◌++◌, length, Option, None, Some, slice_get, slice_set, is_some, All, refl, sym, ◌∙◌, ap, subst, arith, append-nil, length-append}
use Rattle.std.proofs.lemmas.Bool.Decides.{eqb_tells, leb_tells}
use Rattle.std.proofs.lemmas.List.Elements.{filter-append}
use Rattle.std.proofs.lemmas.Option.{get_or_from_slice_get, slice_get_within}
use Rattle.base.proofs.Lists.{slice_get-append_right}
use Rattle.workers.specs.Least.{lower, least_image}
use Rattle.workers.specs.Pieces.{PieceValue, of_block, pieces_at, lines_of, IsFirstTwice}
use Rattle.workers.specs.Table.{IsTwice, AreRows, first_of}
use Rattle.workers.proofs.Least.{least_of_push}

abbrev Row : Type 0
Row = Option PieceValue

-- the pieces of a block with one more

own_push : (ps : List PieceValue) (p : PieceValue) (b : ℕ) → p.block ≡ b → of_block (ps ++ p ∷ []) b ≡ of_block ps b ++ p ∷ []
own_push ps p b e = elim (eqb_tells p.block b) [
  | inl own ↦ rw (filter-append (λ (q : PieceValue). q.block == b) ps (p ∷ []), own.0) refl
  | inr differ ↦ absurd (differ.1 e)
]

other_push : (ps : List PieceValue) (p : PieceValue) (b : ℕ) → p.block ≢ b → of_block (ps ++ p ∷ []) b ≡ of_block ps b
other_push ps p b e = elim (eqb_tells p.block b) [
  | inl own ↦ absurd (e own.1)
  | inr differ ↦ rw (filter-append (λ (q : PieceValue). q.block == b) ps (p ∷ []), differ.0) (append-nil (of_block ps b))
]

own_count : (ps : List PieceValue) (p : PieceValue) (b : ℕ) → p.block ≡ b → pieces_at (ps ++ p ∷ []) b ≡ pieces_at ps b + 1
own_count ps p b e = ap length (own_push ps p b e) ∙ length-append (of_block ps b) (p ∷ [])

other_count : (ps : List PieceValue) (p : PieceValue) (b : ℕ) → p.block ≢ b → pieces_at (ps ++ p ∷ []) b ≡ pieces_at ps b
other_count ps p b e = ap length (other_push ps p b e)

-- the first of them

first_push : (xs : List PieceValue) (p x : PieceValue) → Some x ≡ slice_get xs 0 → Some x ≡ slice_get (xs ++ p ∷ []) 0
first_push [] p x h = absurd (let bad : Some x ≡ None = h in cc)
first_push (y ∷ ys) p x h = h

no_first : (xs : List PieceValue) → None ≡ slice_get xs 0 → xs ≡ []
no_first [] h = refl
no_first (y ∷ ys) h = absurd (let bad : None ≡ Some y = h in cc)

-- the first block with two pieces

more_or_same : (ps : List PieceValue) (p : PieceValue) (b : ℕ) → pieces_at ps b ≤ pieces_at (ps ++ p ∷ []) b
more_or_same ps p b = elim (eqb_tells p.block b) [
  | inl own ↦ let e = own_count ps p b own.1 in omega (arith, e)
  | inr differ ↦ let e = other_count ps p b differ.1 in omega (arith, e)
]

twice_of_lower : (ps : List PieceValue) (p : PieceValue) (blocks t : ℕ) → IsFirstTwice ps blocks t → p.block < blocks → 1 ≤ pieces_at ps p.block
    → (t ≤ p.block) ⊎ (p.block < t) → IsFirstTwice (ps ++ p ∷ []) blocks (min t p.block)
twice_of_lower ps p blocks t h lt one (inl le) =
    let e : min t p.block ≡ t = omega arith in
    let more = more_or_same ps p t in
    rw e (record {
      within = h.within;
      twice = omega (arith, more, h.twice);
      before = λ b below. (let other = other_count ps p b (λ same. absurd (omega (arith, same, le, below))) in omega (arith, other, h.before b below));
    })
twice_of_lower ps p blocks t h lt one (inr less) =
    let e : min t p.block ≡ p.block = omega arith in
    let own = own_count ps p p.block refl in
    rw e (record {
      within = lt;
      twice = omega (arith, own, one);
      before = λ b below. (let other = other_count ps p b (λ same. absurd (omega (arith, same, below))) in
          let few = h.before b (omega (arith, below, less)) in omega (arith, other, few));
    })

lower_or_not : (t n : ℕ) → (t ≤ n) ⊎ (n < t)
lower_or_not t n = elim (leb_tells t n) [ inl le ↦ inl le.1 | inr less ↦ inr (omega (arith, less.1)) ]

twice_again : (ps : List PieceValue) (p : PieceValue) (blocks : ℕ) (twice : Option ℕ) → IsTwice ps blocks twice → p.block < blocks → 1 ≤ pieces_at ps p.block
    → IsFirstTwice (ps ++ p ∷ []) blocks (first_of twice p.block)
twice_again ps p blocks None h lt one =
    let own = own_count ps p p.block refl in
    record {
      within = lt;
      twice = omega (arith, own, one);
      before = λ b below. (let other = other_count ps p b (λ same. absurd (omega (arith, same, below))) in
          let few = h b (omega (arith, below, lt)) in omega (arith, other, few));
    }
twice_again ps p blocks (Some t) h lt one = twice_of_lower ps p blocks t h lt one (lower_or_not t p.block)

few_after : (ps : List PieceValue) (p : PieceValue) (b : ℕ) → pieces_at ps p.block ≡ 0 → pieces_at ps b ≤ 1 → pieces_at (ps ++ p ∷ []) b ≤ 1
few_after ps p b none few = elim (eqb_tells p.block b) [
  | inl own ↦ let e = own_count ps p b own.1 in let at : pieces_at ps b ≡ 0 = rw (← own.1) none in omega (arith, e, at)
  | inr differ ↦ let e = other_count ps p b differ.1 in omega (arith, e, few)
]

twice_first : (ps : List PieceValue) (p : PieceValue) (blocks : ℕ) (twice : Option ℕ) → IsTwice ps blocks twice → pieces_at ps p.block ≡ 0
    → IsTwice (ps ++ p ∷ []) blocks twice
twice_first ps p blocks None h none = λ b lt. few_after ps p b none (h b lt)
twice_first ps p blocks (Some t) h none =
    let more = more_or_same ps p t in
    record {
      within = h.within;
      twice = omega (arith, more, h.twice);
      before = λ b below. few_after ps p b none (h.before b below);
    }

-- a row that is set, and the others

pub set_here : {X : Type 0} (xs : List X) (n : ℕ) (y : X) → n < length xs → slice_get (slice_set xs n y) n ≡ Some y
set_here [] n y h = absurd (omega (arith, h))
set_here (x ∷ xs) zero y h = refl
set_here (x ∷ xs) (suc n) y h = set_here xs n y (omega (arith, h))

pub set_there : {X : Type 0} (xs : List X) (n b : ℕ) (y : X) → n ≢ b → slice_get (slice_set xs n y) b ≡ slice_get xs b
set_there [] zero b y h = refl
set_there [] (suc n) b y h = refl
set_there (x ∷ xs) zero zero y h = absurd (h refl)
set_there (x ∷ xs) zero (suc b) y h = refl
set_there (x ∷ xs) (suc n) zero y h = refl
set_there (x ∷ xs) (suc n) (suc b) y h = set_there xs n b y (λ e. h (ap suc e))

pub length_set : {X : Type 0} (xs : List X) (n : ℕ) (y : X) → length (slice_set xs n y) ≡ length xs
length_set [] zero y = refl
length_set [] (suc n) y = refl
length_set (x ∷ xs) zero y = refl
length_set (x ∷ xs) (suc n) y = ap suc (length_set xs n y)

pub same_row : (rows : List Row) (b : ℕ) (x y : Row) → slice_get rows b ≡ Some x → slice_get rows b ≡ Some y → x ≡ y
same_row rows b x y h g = let e : Some x ≡ Some y = sym h ∙ g in cc

-- a piece of a block that has one
put_again : (ps : List PieceValue) (p q : PieceValue) (blocks : ℕ) (rows : List Row) (twice least : Option ℕ)
    → AreRows ps blocks rows twice least → slice_get rows p.block ≡ Some (Some q)
    → AreRows (ps ++ p ∷ []) blocks rows (Some (first_of twice p.block)) (lower least (least_image (lines_of p.found)))
put_again ps p q blocks rows twice least h at =
    let lt : p.block < length rows = slice_get_within rows p.block (Some q) at in
    let was : Some q ≡ slice_get (of_block ps p.block) 0 = h.each p.block (Some q) at in
    let one : 1 ≤ pieces_at ps p.block = omega (arith, slice_get_within (of_block ps p.block) 0 q (sym was)) in
    record {
      count = h.count;
      each = λ b row there. elim (eqb_tells p.block b) [
        | inl own ↦
            let here : slice_get rows b ≡ Some (Some q) = rw (← own.1) at in
            let same : row ≡ Some q = same_row rows b row (Some q) there here in
            let first : Some q ≡ slice_get (of_block ps b) 0 = rw (← own.1) was in
            rw (same, own_push ps p b own.1) (first_push (of_block ps b) p q first)
        | inr differ ↦ h.each b row there ∙ ap (λ (qs : List PieceValue). slice_get qs 0) (sym (other_push ps p b differ.1))
      ];
      first = twice_again ps p blocks twice h.first (omega (arith, lt, h.count)) one;
      lowest = rw h.lowest (least_of_push ps p);
    }

-- the first piece of a block
put_first : (ps : List PieceValue) (p : PieceValue) (blocks : ℕ) (rows : List Row) (twice least : Option ℕ)
    → AreRows ps blocks rows twice least → slice_get rows p.block ≡ Some None
    → AreRows (ps ++ p ∷ []) blocks (slice_set rows p.block (Some p)) twice (lower least (least_image (lines_of p.found)))
put_first ps p blocks rows twice least h at =
    let lt : p.block < length rows = slice_get_within rows p.block None at in
    let none : of_block ps p.block ≡ [] = no_first (of_block ps p.block) (h.each p.block None at) in
    record {
      count = length_set rows p.block (Some p) ∙ h.count;
      each = λ b row there. elim (eqb_tells p.block b) [
        | inl own ↦
            let here : slice_get (slice_set rows p.block (Some p)) b ≡ Some (Some p) = rw (← own.1) (set_here rows p.block (Some p) lt) in
            let same : row ≡ Some p = same_row (slice_set rows p.block (Some p)) b row (Some p) there here in
            let first : of_block ps b ≡ [] = rw (← own.1) none in
            rw (same, own_push ps p b own.1, first) refl
        | inr differ ↦
            h.each b row (sym (set_there rows p.block b (Some p) differ.1) ∙ there)
            ∙ ap (λ (qs : List PieceValue). slice_get qs 0) (sym (other_push ps p b differ.1))
      ];
      first = twice_first ps p blocks twice h.first (ap length none);
      lowest = rw h.lowest (least_of_push ps p);
    }

-- the same over the row that was found
pub put_more : (ps : List PieceValue) (p : PieceValue) (blocks : ℕ) (rows : List Row) (twice least : Option ℕ) (row : Row)
    → AreRows ps blocks rows twice least → slice_get rows p.block ≡ Some row → is_some row ≡ true
    → AreRows (ps ++ p ∷ []) blocks rows (Some (first_of twice p.block)) (lower least (least_image (lines_of p.found)))
put_more ps p blocks rows twice least None h at found = absurd (let bad : false ≡ true = found in cc)
put_more ps p blocks rows twice least (Some q) h at found = put_again ps p q blocks rows twice least h at

pub put_new : (ps : List PieceValue) (p : PieceValue) (blocks : ℕ) (rows : List Row) (twice least : Option ℕ) (row : Row)
    → AreRows ps blocks rows twice least → slice_get rows p.block ≡ Some row → is_some row ≡ false
    → AreRows (ps ++ p ∷ []) blocks (slice_set rows p.block (Some p)) twice (lower least (least_image (lines_of p.found)))
put_new ps p blocks rows twice least None h at found = put_first ps p blocks rows twice least h at
put_new ps p blocks rows twice least (Some q) h at found = absurd (let bad : true ≡ false = found in cc)

-- before the first piece

-- an element between others
pub all_middle : {X : Type 0} (P : X → Type 0) (xs ys all : List X) (x : X) → xs ++ x ∷ ys ≡ all → All P all → P x
all_middle P xs ys all x e h =
    let z : length xs + 0 ≡ length xs = omega arith in
    let there : slice_get (xs ++ x ∷ ys) (length xs) ≡ Some x = rw (← z) (slice_get-append_right xs (x ∷ ys) 0) in
    let at : slice_get all (length xs) ≡ Some x = rw (← e) there in
    subst P (get_or_from_slice_get all (length xs) x x at) (h (length xs) x (slice_get_within all (length xs) x at))

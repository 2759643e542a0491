-- Tests and marks over all slots, one slot more at a time.
use Rattle.std.proofs.Common.{ℕ, zero, suc, ◌≡◌, ◌+◌, ◌<◌, Bool, true, false, ◌||◌, List, [], ◌∷◌, length, map, get_or, set, replicate, Option, Some, None, refl, sym, ◌∙◌, ap, inl, inr, arith, add-one}
use Rattle.std.specs.List.{list_any, range_with_len, sum}
use Rattle.std.proofs.lemmas.Bool.{cases_Bool, cases_lt}
use Rattle.std.proofs.lemmas.Bool.Decides.{eqb_tells}
use Rattle.std.proofs.lemmas.List.{get_or-set_same, get_or-set_other, length-set, get_or-replicate, length-replicate, same_lists, get_or_default}
use Rattle.std.proofs.lemmas.List.Folds.{list_any-append}
use Rattle.std.proofs.lemmas.List.FromFn.{get_or-map-range_with_len, length-map-range_with_len, sum_by-map-range_with_len_more}
use Rattle.base.proofs.Lists.{range_with_len-more}
use Rattle.bpf_shape.specs.Again.{is_slot}
use Rattle.bpf_shape.specs.Search.{with_mark}

or_false : (b : Bool) → (b || false) ≡ b
or_false true = refl
or_false false = refl

or_true : (b : Bool) → (b || true) ≡ true
or_true true = refl
or_true false = refl

-- one number more to test
pub any_more : (p : ℕ → Bool) (n : ℕ) → list_any p (range_with_len 0 (n + 1)) ≡ (list_any p (range_with_len 0 n) || p n)
any_more p n =
    let z : 0 + n ≡ n = omega arith in
    let last : list_any p (n ∷ []) ≡ p n = or_false (p n) in
    ap (list_any p) (range_with_len-more 0 n) ∙ list_any-append p (range_with_len 0 n) ((0 + n) ∷ []) ∙ rw (z, last) refl

pub none_more : (p : ℕ → Bool) (n : ℕ) → list_any p (range_with_len 0 n) ≡ false → p n ≡ false → list_any p (range_with_len 0 (n + 1)) ≡ false
none_more p n before here = any_more p n ∙ rw (before, here) refl

any_push : (p : ℕ → Bool) (n : ℕ) → list_any p (range_with_len 0 (suc n)) ≡ (list_any p (range_with_len 0 n) || p n)
any_push p n = ap (λ (k : ℕ). list_any p (range_with_len 0 k)) (sym (add-one n)) ∙ any_more p n

-- a number that passes
pub any_at : (p : ℕ → Bool) (n m : ℕ) → m < n → p m ≡ true → list_any p (range_with_len 0 n) ≡ true
any_at p zero m h is = absurd (omega (arith, h))
any_at p (suc n) m h is =
    let more = any_push p n in
    elim (cases_lt m n) [
      | inl less ↦ more ∙ rw (any_at p n m less is) refl
      | inr not_less ↦
          let same : m ≡ n = omega (arith, h, not_less) in
          let last : p n ≡ true = rw (← same) is in
          more ∙ rw last (or_true (list_any p (range_with_len 0 n)))
    ]

-- and from the test a number
pub at_any : (p : ℕ → Bool) (n : ℕ) → list_any p (range_with_len 0 n) ≡ true → (m : ℕ) × ((m < n) × (p m ≡ true))
at_any p zero is = absurd (let bad : false ≡ true = is in cc)
at_any p (suc n) is =
    elim (cases_Bool (p n)) [
      | inl here ↦ (n, (omega arith, here))
      | inr not_here ↦
          let more = any_push p n in
          let without : (list_any p (range_with_len 0 n) || p n) ≡ list_any p (range_with_len 0 n) = rw not_here (or_false (list_any p (range_with_len 0 n))) in
          let found = at_any p n (sym without ∙ sym more ∙ is) in
          (found.0, (omega (arith, found.1.0), found.1.1))
    ]

-- one number more to add
pub sum_more : (f : ℕ → ℕ) (n : ℕ) → sum (map f (range_with_len 0 (n + 1))) ≡ sum (map f (range_with_len 0 n)) + f n
sum_more f n = sum_by-map-range_with_len_more (λ (x : ℕ). x) f 0 n n (omega arith)

-- The marks of the slots to which the first k edges of a table lead.
pub record MarksUpTo (edge : ℕ → Option ℕ) (n k : ℕ) (marks : List Bool) : Type 0 where
  pub long : length marks ≡ n
  pub each : (t : ℕ) → t < n → get_or marks t false ≡ list_any (λ s. is_slot t (edge s)) (range_with_len 0 k)

pub no_marks : (edge : ℕ → Option ℕ) (n : ℕ) → MarksUpTo edge n 0 (replicate n false)
no_marks edge n = record {
  long = length-replicate {A = Bool} n false;
  each = λ t h. get_or-replicate n t false false h;
}

one_mark : (marks : List Bool) (x : Option ℕ) (t : ℕ) → t < length marks → get_or (with_mark marks x) t false ≡ (get_or marks t false || is_slot t x)
one_mark marks None t h = sym (or_false (get_or marks t false))
one_mark marks (Some u) t h =
    elim (eqb_tells u t) [
      | inl same ↦
          let e : u ≡ t = same.1 in
          let here : get_or (set marks u true) t false ≡ true = rw e (get_or-set_same marks t true false h) in
          here ∙ sym (rw same.0 (or_true (get_or marks t false)))
      | inr other ↦
          get_or-set_other marks u t true false (λ e. other.1 (sym e)) ∙ sym (rw other.0 (or_false (get_or marks t false)))
    ]

length_with_mark : (marks : List Bool) (x : Option ℕ) → length (with_mark marks x) ≡ length marks
length_with_mark marks None = refl
length_with_mark marks (Some u) = length-set marks u true

pub mark_more : (edge : ℕ → Option ℕ) (n k : ℕ) (marks : List Bool) → MarksUpTo edge n k marks → MarksUpTo edge n (k + 1) (with_mark marks (edge k))
mark_more edge n k marks m = record {
  long = length_with_mark marks (edge k) ∙ m.long;
  each = λ t h.
      let inside : t < length marks = omega (arith, h, m.long) in
      one_mark marks (edge k) t inside ∙ rw (m.each t h) (sym (any_more (λ s. is_slot t (edge s)) k));
}

pub all_marks : (edge : ℕ → Option ℕ) (n : ℕ) (marks : List Bool) → MarksUpTo edge n n marks
    → marks ≡ map (λ t. list_any (λ s. is_slot t (edge s)) (range_with_len 0 n)) (range_with_len 0 n)
all_marks edge n marks m =
    let f : ℕ → Bool = λ t. list_any (λ s. is_slot t (edge s)) (range_with_len 0 n) in
    same_lists marks (map f (range_with_len 0 n)) (m.long ∙ sym (length-map-range_with_len f 0 n))
    (λ k d h.
    let inside : k < n = omega (arith, h, m.long) in
    get_or_default marks k d false h ∙ m.each k inside ∙ sym (get_or-map-range_with_len f 0 n k k d inside (omega arith)))

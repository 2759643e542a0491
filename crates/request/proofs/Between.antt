-- Tests of the entries between two places, and of numbers of a range.
use Rattle.std.proofs.Common.{ℕ, zero, suc, ◌≡◌, ◌∙◌, ◌+◌, ◌-◌, ◌<◌, ◌≤◌, ◌⊎◌, inl, inr, Bool, true, false, ◌||◌, List, [], ◌∷◌, length, take, drop, get_or, slice_get, Some, None, refl, sym, ap, arith, length-drop}
use Rattle.std.specs.List.{range_with_len, slice_range, list_any}
use Rattle.std.proofs.lemmas.List.{get_or-drop}
use Rattle.std.proofs.lemmas.List.Folds.{list_any_more}
use Rattle.std.proofs.lemmas.Option.{slice_get_within, get_or_from_slice_get}
use Rattle.logfmt.specs.declared.entry.Entry.{Entry}

-- one entry more at the end
pub any_next : (p : Entry → Bool) (es : List Entry) (e k : ℕ) (x : Entry) → slice_get es k ≡ Some x → e < k
    → list_any p (slice_range es (e + 1) (k + 1)) ≡ (list_any p (slice_range es (e + 1) k) || p x)
any_next p es e k x here lt =
    let rest : List Entry = drop (e + 1) es in
    let i : ℕ = k - (e + 1) in
    let within = slice_get_within es k x here in
    let next : k + 1 - (e + 1) ≡ i + 1 = omega (arith, lt) in
    let back : e + 1 + i ≡ k = omega (arith, lt) in
    let inside : i < length rest = omega (arith, length-drop (e + 1) es, within, lt) in
    let one : get_or rest i x ≡ x = get_or-drop (e + 1) es i x ∙ ap (λ n. get_or es n x) back ∙ get_or_from_slice_get es k x x here in
    ap (λ n. list_any p (take n rest)) next ∙ list_any_more p rest i x inside ∙ ap (λ entry. list_any p (take i rest) || p entry) one

-- none stands after entry k and before k + 1
pub none_next : (p : Entry → Bool) (es : List Entry) (k : ℕ) → list_any p (slice_range es (k + 1) (k + 1)) ≡ false
none_next p es k =
    let none : k + 1 - (k + 1) ≡ 0 = omega arith in
    ap (λ n. list_any p (take n (drop (k + 1) es))) none

-- one entry more at the beginning
drop_from : (es : List Entry) (k : ℕ) (x : Entry) → slice_get es k ≡ Some x → drop k es ≡ x ∷ drop (k + 1) es
drop_from [] zero x here = absurd (let bad : None ≡ Some x = here in cc)
drop_from [] (suc k) x here = absurd (let bad : None ≡ Some x = here in cc)
drop_from (y ∷ ys) zero x here = let same : Some y ≡ Some x = here in ap (λ z. z ∷ ys) (let e : y ≡ x = cc in e)
drop_from (y ∷ ys) (suc k) x here =
    let next : suc (k + 1) ≡ suc k + 1 = omega arith in
    drop_from ys k x here ∙ ap (λ n. x ∷ drop n (y ∷ ys)) next

pub any_first : (p : Entry → Bool) (es : List Entry) (k m : ℕ) (x : Entry) → slice_get es k ≡ Some x → k < m
    → list_any p (slice_range es k m) ≡ (p x || list_any p (slice_range es (k + 1) m))
any_first p es k m x here lt =
    let long : m - k ≡ suc (m - (k + 1)) = omega (arith, lt) in
    ap (λ n. list_any p (take n (drop k es))) long ∙ ap (λ xs. list_any p (take (suc (m - (k + 1))) xs)) (drop_from es k x here)

-- a number is the first of those from n on, or a later one
pub at_or_above : (n b : ℕ) → n ≤ b → (b ≡ n) ⊎ (n + 1 ≤ b)
at_or_above zero zero h = inl refl
at_or_above zero (suc b) h = inr (omega arith)
at_or_above (suc n) zero h = absurd (omega (arith, h))
at_or_above (suc n) (suc b) h = next (at_or_above n b (omega (arith, h)))
  where
    next : (b ≡ n) ⊎ (n + 1 ≤ b) → (suc b ≡ suc n) ⊎ (suc n + 1 ≤ suc b)
    next (inl e) = inl (ap suc e)
    next (inr more) = inr (omega (arith, more))

-- a number of a range that passes a test, or none
pub range_any : (p : ℕ → Bool) (a n k : ℕ) → a ≤ k → k < a + n → p k ≡ true → list_any p (range_with_len a n) ≡ true
range_any p a zero k low high is = absurd (omega (arith, low, high))
range_any p a (suc n) k low high is = by (p a) refl (at_or_above a k low) (λ more. range_any p (a + 1) n k more (omega (arith, high)) is)
  where
    by : (b : Bool) → p a ≡ b → (k ≡ a) ⊎ (a + 1 ≤ k) → (a + 1 ≤ k → list_any p (range_with_len (a + 1) n) ≡ true) → (p a || list_any p (range_with_len (a + 1) n)) ≡ true
    by true e o rest = ap (λ b. b || list_any p (range_with_len (a + 1) n)) e
    by false e (inl same) rest = absurd (let bad : false ≡ true = sym e ∙ ap p (sym same) ∙ is in cc)
    by false e (inr more) rest = ap (λ b. b || list_any p (range_with_len (a + 1) n)) e ∙ rest more

pub range_none : (p : ℕ → Bool) (a n : ℕ) → ((k : ℕ) → a ≤ k → k < a + n → p k ≡ false) → list_any p (range_with_len a n) ≡ false
range_none p a zero none = refl
range_none p a (suc n) none =
    let rest : list_any p (range_with_len (a + 1) n) ≡ false = range_none p (a + 1) n (λ k low high. none k (omega (arith, low)) (omega (arith, high))) in
    ap (λ b. b || list_any p (range_with_len (a + 1) n)) (none a (omega arith) (omega arith)) ∙ rest

-- The first number below another that passes a test.
use Rattle.std.proofs.Common.{ℕ, zero, suc, ◌≡◌, ◌+◌, ◌<◌, ◌≤◌, Bool, true, false, cond, ◌∷◌, filter, slice_get, Option, Some, None, refl, sym, ◌∙◌, ap, inl, inr, arith}
use Rattle.std.specs.List.{range_with_len}
use Rattle.std.proofs.lemmas.Bool.{cases_lt}
use Rattle.std.proofs.lemmas.Option.{same_Some}

-- the first of n numbers from a on that passes
abbrev pub first_from : (ℕ → Bool) → ℕ → ℕ → Option ℕ
first_from p a n = slice_get (filter p (range_with_len a n)) 0

-- what is known of it
pub record IsFirst (p : ℕ → Bool) (a n j : ℕ) : Type 0 where
  pub low : a ≤ j
  pub high : j < a + n
  pub passes : p j ≡ true
  pub before : (k : ℕ) → a ≤ k → k < j → p k ≡ false

further : (p : ℕ → Bool) (a n j : ℕ) → p a ≡ false → IsFirst p (a + 1) n j → IsFirst p a (suc n) j
further p a n j fails is =
    let low = is.low in
    let high = is.high in
    record {
      low = omega (arith, low);
      high = omega (arith, high);
      passes = is.passes;
      before = λ k from lt. elim (cases_lt a k) [
        | inl past ↦ is.before k (omega (arith, past)) lt
        | inr here ↦ ap p (let same : k ≡ a = omega (arith, from, here) in same) ∙ fails
      ];
    }

pub is_first : (p : ℕ → Bool) (a n j : ℕ) → first_from p a n ≡ Some j → IsFirst p a n j
is_first p a zero j h = absurd (let bad : None ≡ Some j = h in cc)
is_first p a (suc n) j h =
    let by : (b : Bool) → p a ≡ b → slice_get (cond b (a ∷ filter p (range_with_len (a + 1) n)) (filter p (range_with_len (a + 1) n))) 0 ≡ Some j → IsFirst p a (suc n) j =
    λ b. elim b as (λ c. p a ≡ c → slice_get (cond c (a ∷ filter p (range_with_len (a + 1) n)) (filter p (range_with_len (a + 1) n))) 0 ≡ Some j → IsFirst p a (suc n) j) [
      | true ↦ λ e is.
          let same : j ≡ a = same_Some j a (sym is) in
          record {
            low = omega (arith, same);
            high = omega (arith, same);
            passes = ap p same ∙ e;
            before = λ k from lt. absurd (omega (arith, same, from, lt));
          }
      | false ↦ λ e is. further p a n j e (is_first p (a + 1) n j is)
    ] in
    by (p a) refl h

pub none_first : (p : ℕ → Bool) (a n k : ℕ) → first_from p a n ≡ None → a ≤ k → k < a + n → p k ≡ false
none_first p a zero k h low high = absurd (omega (arith, low, high))
none_first p a (suc n) k h low high =
    let by : (b : Bool) → p a ≡ b → slice_get (cond b (a ∷ filter p (range_with_len (a + 1) n)) (filter p (range_with_len (a + 1) n))) 0 ≡ None → p k ≡ false =
    λ b. elim b as (λ c. p a ≡ c → slice_get (cond c (a ∷ filter p (range_with_len (a + 1) n)) (filter p (range_with_len (a + 1) n))) 0 ≡ None → p k ≡ false) [
      | true ↦ λ e is. absurd (let bad : Some a ≡ None = is in cc)
      | false ↦ λ e is. elim (cases_lt a k) [
        | inl past ↦ none_first p (a + 1) n k is (omega (arith, past)) (omega (arith, high))
        | inr here ↦ ap p (let same : k ≡ a = omega (arith, low, here) in same) ∙ e
      ]
    ] in
    by (p a) refl h

-- what is so is the first
pub first_is : (p : ℕ → Bool) (a n j : ℕ) → IsFirst p a n j → first_from p a n ≡ Some j
first_is p a zero j is = let low = is.low in let high = is.high in absurd (omega (arith, low, high))
first_is p a (suc n) j is =
    let low = is.low in
    let high = is.high in
    let by : (b : Bool) → p a ≡ b → slice_get (cond b (a ∷ filter p (range_with_len (a + 1) n)) (filter p (range_with_len (a + 1) n))) 0 ≡ Some j =
    λ b. elim b as (λ c. p a ≡ c → slice_get (cond c (a ∷ filter p (range_with_len (a + 1) n)) (filter p (range_with_len (a + 1) n))) 0 ≡ Some j) [
      | true ↦ λ e. elim (cases_lt a j) [
        | inl past ↦ absurd (let bad : true ≡ false = sym e ∙ is.before a (omega arith) past in cc)
        | inr here ↦ ap (λ (x : ℕ). Some x) (let same : a ≡ j = omega (arith, low, here) in same)
      ]
      | false ↦ λ e. elim (cases_lt a j) [
        | inl past ↦ first_is p (a + 1) n j (record {
          low = omega (arith, past);
          high = omega (arith, high);
          passes = is.passes;
          before = λ k from lt. is.before k (omega (arith, from)) lt;
        })
        | inr here ↦ absurd (let bad : true ≡ false = sym is.passes ∙ ap p (let same : j ≡ a = omega (arith, low, here) in same) ∙ e in cc)
      ]
    ] in
    by (p a) refl

pub none_is : (p : ℕ → Bool) (a n : ℕ) → ((k : ℕ) → a ≤ k → k < a + n → p k ≡ false) → first_from p a n ≡ None
none_is p a zero none = refl
none_is p a (suc n) none =
    ap (λ b. slice_get (cond b (a ∷ filter p (range_with_len (a + 1) n)) (filter p (range_with_len (a + 1) n))) 0) (none a (omega arith) (omega arith))
    ∙ none_is p (a + 1) n (λ k low high. none k (omega (arith, low)) (omega (arith, high)))

-- Images that are the same.
use Rattle.std.proofs.Common.{ℕ, ◌≡◌, ◌<◌, ◌==◌, nat_eq, Bool, true, false, ◌&&◌, Some, None, refl, sym, ◌∙◌, ap, arith}
use Rattle.std.specs.Option.{is_none}
use Rattle.std.specs.Cmp.Lexicographic.{pointwise, pointwise_decides}
use Rattle.std.proofs.lemmas.Bool.Decides.{Decides-eqb}
use Rattle.export.specs.Export.{AskedValue, device_at, marks_before, is_same, first_same, is_new}
use Rattle.export.proofs.First.{IsFirst, is_first, none_first, first_is, none_is}

-- both tests
parts : (a b : Bool) → (a && b) ≡ true → (a ≡ true) × (b ≡ true)
parts true b h = (refl, h)
parts false b h = absurd (let bad : false ≡ true = h in cc)

both : (a b : Bool) → a ≡ true → b ≡ true → (a && b) ≡ true
both a b l r = ap (λ c. c && b) l ∙ r

-- what is the same, and the other way round
pub same_told : (a : AskedValue) (i j : ℕ) → is_same a i j ≡ true → (marks_before a i ≡ marks_before a j) × (device_at a i ≡ device_at a j)
unfolding is_same
same_told a i j h =
    let is = parts (marks_before a i == marks_before a j) (pointwise (pointwise nat_eq) (device_at a i) (device_at a j)) h in
    ((Decides-eqb (marks_before a i) (marks_before a j)).0 is.0, (pointwise_decides (pointwise_decides Decides-eqb) (device_at a i) (device_at a j)).0 is.1)

pub same_if : (a : AskedValue) (i j : ℕ) → marks_before a i ≡ marks_before a j → device_at a i ≡ device_at a j → is_same a i j ≡ true
unfolding is_same
same_if a i j marks bytes =
    both (marks_before a i == marks_before a j) (pointwise (pointwise nat_eq) (device_at a i) (device_at a j))
    ((Decides-eqb (marks_before a i) (marks_before a j)).1 marks) ((pointwise_decides (pointwise_decides Decides-eqb) (device_at a i) (device_at a j)).1 bytes)

pub same_chain : (a : AskedValue) (i j k : ℕ) → is_same a i j ≡ true → is_same a j k ≡ true → is_same a i k ≡ true
same_chain a i j k one two =
    let first = same_told a i j one in
    let second = same_told a j k two in
    same_if a i k (first.0 ∙ second.0) (first.1 ∙ second.1)

pub same_back : (a : AskedValue) (i j : ℕ) → is_same a i j ≡ true → is_same a j i ≡ true
same_back a i j one = let first = same_told a i j one in same_if a j i (sym first.0) (sym first.1)

-- the first image that is the same as one, and none
pub told_first : (a : AskedValue) (i j : ℕ) → first_same a i ≡ Some j → IsFirst (is_same a i) 0 i j
unfolding first_same
told_first a i j h = is_first (is_same a i) 0 i j h

pub told_none : (a : AskedValue) (i k : ℕ) → first_same a i ≡ None → k < i → is_same a i k ≡ false
unfolding first_same
told_none a i k h lt = none_first (is_same a i) 0 i k h (omega arith) (omega (arith, lt))

pub first_told : (a : AskedValue) (i j : ℕ) → IsFirst (is_same a i) 0 i j → first_same a i ≡ Some j
unfolding first_same
first_told a i j is = first_is (is_same a i) 0 i j is

pub none_told : (a : AskedValue) (i : ℕ) → ((k : ℕ) → k < i → is_same a i k ≡ false) → first_same a i ≡ None
unfolding first_same
none_told a i none = none_is (is_same a i) 0 i (λ k low high. none k (omega (arith, high)))

-- the image that another is the same as is new
pub first_is_new : (a : AskedValue) (i j : ℕ) → first_same a i ≡ Some j → first_same a j ≡ None
first_is_new a i j h =
    let is = told_first a i j h in
    let high = is.high in
    none_told a j (λ k lt.
    let by : (b : Bool) → is_same a j k ≡ b → b ≡ false = λ b. elim b as (λ c. is_same a j k ≡ c → c ≡ false) [
      | true ↦ λ e. sym (same_chain a i j k is.passes e) ∙ is.before k (omega arith) lt
      | false ↦ λ e. refl
    ] in
    by (is_same a j k) refl)

-- a new image that is the same as another is the first that is
pub new_is_first : (a : AskedValue) (i j : ℕ) → j < i → is_same a i j ≡ true → first_same a j ≡ None → first_same a i ≡ Some j
new_is_first a i j lt same new =
    first_told a i j (record {
      low = omega arith;
      high = omega (arith, lt);
      passes = same;
      before = λ k from less.
          let by : (b : Bool) → is_same a i k ≡ b → b ≡ false = λ b. elim b as (λ c. is_same a i k ≡ c → c ≡ false) [
            | true ↦ λ e. sym (same_chain a j i k (same_back a i j same) e) ∙ told_none a j k new less
            | false ↦ λ e. refl
          ] in
          by (is_same a i k) refl;
    })

-- whether an image is new
pub new_flag : (a : AskedValue) (i : ℕ) → first_same a i ≡ None → is_new a i ≡ true
unfolding is_new
new_flag a i h = ap is_none h

pub same_flag : (a : AskedValue) (i j : ℕ) → first_same a i ≡ Some j → is_new a i ≡ false
unfolding is_new
same_flag a i j h = ap is_none h

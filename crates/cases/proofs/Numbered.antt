-- Of sets of small numbers in the bits of a word.
use Rattle.std.proofs.Common.{ℕ, zero, suc, ◌≡◌, ◌≢◌, ◌+◌, ◌-◌, ◌*◌, ◌^◌, ◌/◌, ◌%◌, ◌<◌, ◌≤◌, ◌⊎◌, ◌==◌, nat_lt, nat_le, Some, Bool, true, false, not, ◌&&◌, ◌||◌, if◌then◌else◌, List, [], ◌∷◌, ◌++◌, length, map, filter, bit_and, bit_or, refl, sym, subst, ◌∙◌, ap, arith, inl, inr}
use Rattle.std.specs.Int.{bit_at, w16}
use Rattle.std.specs.List.{list_all, range_with_len}
use Rattle.std.specs.Cmp.{first_so, second_so}
use Rattle.std.proofs.lemmas.List.Elements.{filter-append}
use Rattle.std.proofs.lemmas.List.Folds.{list_all-append}
use Rattle.base.proofs.Lists.{range_with_len-more}
use Rattle.cases.specs.Laws.{IsAmong}
use Rattle.cases.proofs.Cases.{kept_among}
use Rattle.std.proofs.lemmas.Bool.Decides.{eqb_tells, nat_tests}
use Rattle.std.proofs.lemmas.Nat.Bits.{bit_at_set_same, bit_at_set_other, bit_at_and, bit_at_not, bit_at-lt, bit_at-zero, bit_at-trailing_zeros}
use Rattle.epochs.specs.declared.part.Part.{Part}
use Rattle.epochs.specs.declared.unit.Unit.{Unit as LogUnit}
use Rattle.choices.specs.declared.fate.Fate.TheVariants as fate
use Rattle.cases.specs.Rows.{shows}
use Rattle.cases.specs.Sets.{has, numbers_in, fates_in, pieces_in, fate_at, IsSetOf}

-- a bit is there or isn't
pub has_bit : (n i b : ℕ) → bit_at n i ≡ b → has n i ≡ (b == 1)
has_bit n i b is = ap (λ x. x == 1) is

pub with_number : (bits k : ℕ) → k < 16 → (i : ℕ) → has (bit_or bits (1 * 2 ^ k % 65536)) i ≡ (has bits i || (i == k))
with_number bits k within i = elim (eqb_tells i k) [
  | inl same ↦
      let e : i ≡ k = same.1 in
      let own : bit_at (bit_or bits (1 * 2 ^ k % 65536)) i ≡ 1 = ap (bit_at (bit_or bits (1 * 2 ^ k % 65536))) e ∙ bit_at_set_same w16 bits k within in
      has_bit (bit_or bits (1 * 2 ^ k % 65536)) i 1 own ∙ sym (ap (λ b. has bits i || b) same.0 ∙ or_true (has bits i))
  | inr other ↦
      ap (λ x. x == 1) (bit_at_set_other w16 bits k within i other.1) ∙ sym (ap (λ b. has bits i || b) other.0 ∙ or_false (has bits i))
]
  where
    or_true : (b : Bool) → (b || true) ≡ true
    or_true true = refl
    or_true false = refl

    or_false : (b : Bool) → (b || false) ≡ b
    or_false true = refl
    or_false false = refl

pub without_numbers : (bits other : ℕ) → other < 65536 → (i : ℕ) → i < 16 → has (bit_and bits (65535 - other)) i ≡ (has bits i && not (has other i))
without_numbers bits other fits i within =
    let gone : bit_at (65535 - other) i ≡ 1 - bit_at other i = bit_at_not w16 other i fits within in
    has_bit (bit_and bits (65535 - other)) i _ (bit_at_and bits (65535 - other) i) ∙ tested (bit_at bits i) (bit_at other i) (bit_at (65535 - other) i) (bit_at-lt bits i) (bit_at-lt other i) gone
  where
    tested : (a b n : ℕ) → a < 2 → b < 2 → n ≡ 1 - b → (Rattle.std.proofs.Common.min a n == 1) ≡ ((a == 1) && not (b == 1))
    tested zero b n small less is = grind (arith, nat_tests)
    tested (suc zero) zero n small less is = let one : n ≡ 1 = is in rw one refl
    tested (suc zero) (suc zero) n small less is = let none : n ≡ 0 = is in rw none refl
    tested (suc zero) (suc (suc b)) n small less is = absurd (omega (arith, less))
    tested (suc (suc a)) b n small less is = absurd (omega (arith, small))

pub both_numbers : (bits other i : ℕ) → has (bit_and bits other) i ≡ (has bits i && has other i)
both_numbers bits other i = has_bit (bit_and bits other) i _ (bit_at_and bits other i) ∙ tested (bit_at bits i) (bit_at other i) (bit_at-lt bits i) (bit_at-lt other i)
  where
    tested : (a b : ℕ) → a < 2 → b < 2 → (Rattle.std.proofs.Common.min a b == 1) ≡ ((a == 1) && (b == 1))
    tested zero b small less = grind (arith, nat_tests)
    tested (suc zero) zero small less = refl
    tested (suc zero) (suc zero) small less = refl
    tested (suc zero) (suc (suc b)) small less = absurd (omega (arith, less))
    tested (suc (suc a)) b small less = absurd (omega (arith, small))

-- numbers of a range that pass a test

pub same_kept : (p q : ℕ → Bool) (a n : ℕ) → ((i : ℕ) → a ≤ i → i < a + n → p i ≡ q i) → filter p (range_with_len a n) ≡ filter q (range_with_len a n)
same_kept p q a zero each = refl
same_kept p q a (suc n) each =
    let here : p a ≡ q a = each a (omega arith) (omega arith) in
    let rest = same_kept p q (a + 1) n (λ i low high. each i (omega (arith, low)) (omega (arith, high))) in
    rw (here, rest) refl

pub kept_twice : {A : Type 0} (p q : A → Bool) (xs : List A) → filter q (filter p xs) ≡ filter (λ x. p x && q x) xs
kept_twice p q [] = refl
kept_twice p q (x ∷ xs) = by_test (p x) (kept_twice p q xs)
  where
    by_test : (b : Bool) → filter q (filter p xs) ≡ filter (λ y. p y && q y) xs
        → filter q (if b then x ∷ filter p xs else filter p xs) ≡ (if b && q x then x ∷ filter (λ y. p y && q y) xs else filter (λ y. p y && q y) xs)
    by_test true rest = ap (λ ys. if q x then x ∷ ys else ys) rest
    by_test false rest = rest

pub kept_mapped : {A B : Type 0} (f : A → B) (q : B → Bool) (xs : List A) → filter q (map f xs) ≡ map f (filter (λ x. q (f x)) xs)
kept_mapped f q [] = refl
kept_mapped f q (x ∷ xs) = by_test (q (f x)) (kept_mapped f q xs)
  where
    by_test : (b : Bool) → filter q (map f xs) ≡ map f (filter (λ y. q (f y)) xs)
        → (if b then f x ∷ filter q (map f xs) else filter q (map f xs)) ≡ map f (if b then x ∷ filter (λ y. q (f y)) xs else filter (λ y. q (f y)) xs)
    by_test true rest = ap (λ ys. f x ∷ ys) rest
    by_test false rest = rest

-- a set of those of another that pass a test has the numbers that pass it
pub kept_numbers : (n bits out : ℕ) (q : ℕ → Bool) → ((i : ℕ) → i < n → has out i ≡ (has bits i && q i)) → numbers_in n out ≡ filter q (numbers_in n bits)
unfolding numbers_in
kept_numbers n bits out q each =
    same_kept (has out) (λ i. has bits i && q i) 0 n (λ i low high. each i (omega (arith, high)))
    ∙ sym (kept_twice (has bits) q (range_with_len 0 n))

pub kept_pieces : (bits out : ℕ) (q : ℕ → Bool) → ((i : ℕ) → i < 8 → has out i ≡ (has bits i && q i)) → pieces_in out ≡ filter q (pieces_in bits)
unfolding pieces_in
kept_pieces bits out q each = kept_numbers 8 bits out q each

pub kept_fates : (bits out : ℕ) (q : _ → Bool) → ((i : ℕ) → i < 16 → has out i ≡ (has bits i && q (fate_at i))) → fates_in out ≡ filter q (fates_in bits)
unfolding fates_in
kept_fates bits out q each =
    ap (map fate_at) (kept_numbers 16 bits out (λ i. q (fate_at i)) each) ∙ sym (kept_mapped fate_at q (numbers_in 16 bits))

-- the first of a range that passes a test
first_kept : (p : ℕ → Bool) (a n t : ℕ) → a ≤ t → t < a + n → p t ≡ true → ((i : ℕ) → a ≤ i → i < t → p i ≡ false)
    → (rest : List ℕ) × (filter p (range_with_len a n) ≡ t ∷ rest)
first_kept p a zero t low high is none = absurd (omega (arith, low, high))
first_kept p a (suc n) t low high is none = elim (eqb_tells a t) [
  | inl same ↦
      let here : p a ≡ true = ap p same.1 ∙ is in (
        filter p (range_with_len (a + 1) n),
        ap (λ b. if b then a ∷ filter p (range_with_len (a + 1) n) else filter p (range_with_len (a + 1) n)) here
            ∙ ap (λ x. x ∷ filter p (range_with_len (a + 1) n)) same.1,
      )
  | inr other ↦
      let apart = other.1 in
      let here : p a ≡ false = none a (omega arith) (omega (arith, low, apart)) in
      let rest = first_kept p (a + 1) n t (omega (arith, low, apart)) (omega (arith, high)) is (λ i from to. none i (omega (arith, from)) to) in
      (rest.0, ap (λ b. if b then a ∷ filter p (range_with_len (a + 1) n) else filter p (range_with_len (a + 1) n)) here ∙ rest.1)
]

pub least_first : (bits : ℕ) → 0 < bits → bits < 65536 → (rest : List ℕ) × (numbers_in 16 bits ≡ Rattle.std.specs.Int.trailing_zeros w16 bits ∷ rest)
unfolding numbers_in
least_first bits some fits =
    let at = bit_at-trailing_zeros w16 bits some fits in
    first_kept (has bits) 0 16 (Rattle.std.specs.Int.trailing_zeros w16 bits) (omega arith) at.0 (has_bit bits _ 1 at.1)
    (λ i low less. has_bit bits i 0 (at.2 i less))

-- a set that a loop fills

pub none_has : (i : ℕ) → has 0 i ≡ false
none_has i = has_bit 0 i 0 (bit_at-zero i)

pub set_start : (test : ℕ → Bool) → IsSetOf test 0 0
set_start test = record { below = λ i low. absurd (omega (arith, low)); above = λ i high. none_has i }

pub set_more : (test : ℕ → Bool) (n bits more : ℕ) (is : Bool) → IsSetOf test n bits → ((i : ℕ) → has more i ≡ (has bits i || (is && (i == n)))) → is ≡ test n
    → IsSetOf test (n + 1) more
set_more test n bits more is so step own = record {
  below = λ i low. elim (eqb_tells i n) [
    | inl same ↦
        step i ∙ ap (λ b. b || (is && (i == n))) (so.above i (omega (arith, same.1))) ∙ ap (λ b. is && b) same.0 ∙ and_true is ∙ own ∙ ap test (sym same.1)
    | inr other ↦
        let apart = other.1 in
        step i ∙ ap (λ b. has bits i || (is && b)) other.0 ∙ ap (λ b. has bits i || b) (and_false is) ∙ or_false (has bits i) ∙ so.below i (omega (arith, low, apart))
  ];
  above = λ i high. elim (eqb_tells i n) [
    | inl same ↦ absurd (let e = same.1 in omega (arith, high, e))
    | inr other ↦
        step i ∙ ap (λ b. has bits i || (is && b)) other.0 ∙ ap (λ b. has bits i || b) (and_false is) ∙ or_false (has bits i) ∙ so.above i (omega (arith, high))
  ];
}
  where
    or_false : (b : Bool) → (b || false) ≡ b
    or_false true = refl
    or_false false = refl

    and_true : (b : Bool) → (b && true) ≡ b
    and_true true = refl
    and_true false = refl

    and_false : (b : Bool) → (b && false) ≡ false
    and_false true = refl
    and_false false = refl

-- a set that isn't empty has a first fate
pub fates_first : (bits n : ℕ) → (rest : List ℕ) × (numbers_in 16 bits ≡ n ∷ rest) → (rest : List _) × (fates_in bits ≡ fate_at n ∷ rest)
unfolding fates_in
fates_first bits n is = (map fate_at is.0, ap (map fate_at) is.1)

pub no_fates : fates_in 0 ≡ []
unfolding fates_in numbers_in
no_fates = refl

-- a test of the pieces of a set, taken one by one

step_passes : (bits n : ℕ) (q : ℕ → Bool) → (has bits n && not (q n)) ≡ false → list_all q (filter (has bits) (n ∷ [])) ≡ true
step_passes bits n q is = by_test (has bits n) (q n) refl is
  where
    by_test : (b t : Bool) → q n ≡ t → (b && not t) ≡ false → list_all q (if b then n ∷ [] else []) ≡ true
    by_test true true own so = ap (λ v. v && true) own
    by_test true false own so = let bad : true ≡ false = so in cc
    by_test false t own so = refl

pub pieces_more : (bits n : ℕ) (q : ℕ → Bool) → list_all q (filter (has bits) (range_with_len 0 n)) ≡ true → (has bits n && not (q n)) ≡ false
    → list_all q (filter (has bits) (range_with_len 0 (n + 1))) ≡ true
pieces_more bits n q before is =
    let e : 0 + n ≡ n = omega arith in
    ap (λ xs. list_all q (filter (has bits) xs)) (range_with_len-more 0 n)
    ∙ ap (λ m. list_all q (filter (has bits) (range_with_len 0 n ++ m ∷ []))) e
    ∙ ap (list_all q) (filter-append (has bits) (range_with_len 0 n) (n ∷ []))
    ∙ list_all-append q (filter (has bits) (range_with_len 0 n)) (filter (has bits) (n ∷ []))
    ∙ ap (λ b. b && list_all q (filter (has bits) (n ∷ []))) before
    ∙ step_passes bits n q is

all_of : {A : Type 0} (q : A → Bool) (xs : List A) (x : A) → list_all q xs ≡ true → IsAmong xs x → q x ≡ true
all_of q [] x all among = absurd among
all_of q (y ∷ ys) x all (inl same) = ap q (sym same) ∙ first_so (q y) (list_all q ys) all
all_of q (y ∷ ys) x all (inr rest) = all_of q ys x (second_so (q y) (list_all q ys) all) rest

among_range_of : (a n j : ℕ) → a ≤ j → j < a + n → IsAmong (range_with_len a n) j
among_range_of a zero j low high = absurd (omega (arith, low, high))
among_range_of a (suc n) j low high = elim (eqb_tells a j) [
  | inl same ↦ inl same.1
  | inr other ↦ let apart = other.1 in inr (among_range_of (a + 1) n j (omega (arith, low, apart)) (omega (arith, high)))
]

pub number_among : (bits n j : ℕ) → j < n → has bits j ≡ true → IsAmong (numbers_in n bits) j
unfolding numbers_in
number_among bits n j less is = kept_among (has bits) (range_with_len 0 n) j (among_range_of 0 n j (omega arith) (omega (arith, less))) is

pub piece_fails : (bits n : ℕ) (q : ℕ → Bool) → n < 8 → (has bits n && not (q n)) ≡ true → list_all q (pieces_in bits) ≡ false
unfolding pieces_in
piece_fails bits n q less is = by_all (list_all q (numbers_in 8 bits)) refl
  where
    there : has bits n ≡ true
    there = first_so (has bits n) (not (q n)) is

    fails : (b : Bool) → not b ≡ true → b ≡ false
    fails true own = let bad : false ≡ true = own in cc
    fails false own = refl

    by_all : (b : Bool) → list_all q (numbers_in 8 bits) ≡ b → b ≡ false
    by_all true all =
        let bad : true ≡ false = sym (all_of q (numbers_in 8 bits) n all (number_among bits 8 n less there)) ∙ fails (q n) (second_so (has bits n) (not (q n)) is) in
        cc
    by_all false all = refl

pub all_pieces : (bits : ℕ) (q : ℕ → Bool) → list_all q (filter (has bits) (range_with_len 0 8)) ≡ true → list_all q (pieces_in bits) ≡ true
unfolding pieces_in numbers_in
all_pieces bits q is = is

-- what a torn part shows, by the number of its fate

pub head_shows : (n i : ℕ) (p : Part) (u : LogUnit) → 2 ≤ n → n < 9 → shows (fate_at n) p u i ≡ nat_lt (512 * (u.place - p.place) + 64 * i) (64 * ((n - 1) * p.count))
head_shows zero i p u low high = absurd (omega (arith, low))
head_shows (suc zero) i p u low high = absurd (omega (arith, low))
head_shows (suc (suc k)) i p u low high =
    let small : nat_lt k 7 ≡ true = grind (arith, nat_tests, high) in
    let less : suc k ≡ suc (suc k) - 1 = omega arith in
    ap (λ b. shows (Some (if b then fate.Head (suc k) else fate.Tail (suc k - 7))) p u i) small
    ∙ ap (λ m. nat_lt (512 * (u.place - p.place) + 64 * i) (64 * (m * p.count))) less

pub tail_shows : (n i : ℕ) (p : Part) (u : LogUnit) → 9 ≤ n → shows (fate_at n) p u i ≡ nat_le (512 * p.count - 64 * ((n - 8) * p.count)) (512 * (u.place - p.place) + 64 * i)
tail_shows zero i p u low = absurd (omega (arith, low))
tail_shows (suc zero) i p u low = absurd (omega (arith, low))
tail_shows (suc (suc k)) i p u low =
    let large : nat_lt k 7 ≡ false = grind (arith, nat_tests, low) in
    let less : suc k - 7 ≡ suc (suc k) - 8 = omega arith in
    ap (λ b. shows (Some (if b then fate.Head (suc k) else fate.Tail (suc k - 7))) p u i) large
    ∙ ap (λ m. nat_le (512 * p.count - 64 * (m * p.count)) (512 * (u.place - p.place) + 64 * i)) less

pub whole_shows : (n i : ℕ) (p : Part) (u : LogUnit) → n ≡ 0 → shows (fate_at n) p u i ≡ true
whole_shows n i p u is = ap (λ m. shows (fate_at m) p u i) is

pub drop_shows : (n i : ℕ) (p : Part) (u : LogUnit) → n ≡ 1 → shows (fate_at n) p u i ≡ false
drop_shows n i p u is = ap (λ m. shows (fate_at m) p u i) is

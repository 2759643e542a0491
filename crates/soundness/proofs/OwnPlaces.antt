-- Places in the memory that a program with guards has of its own.
use Rattle.std.proofs.Common.{◌≡◌, ◌<◌, ◌≤◌, ℕ, zero, suc, ◌+◌, ◌-◌, ◌%◌, ◌^◌, nat_le, ◌&&◌, Bool, true, false, ℤ, pos, ◌+ℤ◌, List, [], ◌∷◌, ◌++◌, length, take, drop, slice_get, slice_index, Option, None, Some, is_some, refl, sym, ap, ◌∙◌, subst, arith}
use Rattle.std.specs.Prelude.{FitsSigned}
use Rattle.std.specs.Int.{cast_unsigned, w16, w64}
use Rattle.std.proofs.lemmas.Int.{ints}
use Rattle.std.proofs.lemmas.Bool.Decides.{nat_tests}
use Rattle.std.proofs.lemmas.List.{length-take-le, length-drop, length-append}
use Rattle.base.specs.Sizes.{most_sectors}
use Rattle.base.specs.Numbers.{number_at}
use Rattle.machine.specs.OwnMemory.{memory_start, memory_size, most_beside, is_in_memory, overwritten}
use Rattle.intervals.specs.Spans.{Span, span}
use Rattle.ranges.specs.Kinds.{Kind, Num}
use Rattle.ranges.specs.Places.{landing, in_own, is_own_memory}
use Rattle.soundness.specs.Meaning.{Describes}
use Rattle.soundness.specs.Guards.{IsOwn}
use Rattle.soundness.proofs.Checks.{and_parts}
use Rattle.soundness.proofs.Memory.{number_below}
use Rattle.soundness.proofs.Pointers.{between_up}
use Rattle.soundness.proofs.Shifts.{landed_is, reached}

-- n bytes from a on lie in it
pub record Lies (a n : ℕ) : Type 0 where
  pub from : memory_start ≤ a
  pub upto : a + n ≤ memory_start + memory_size

found : (o : Option ℕ) → is_some o ≡ true → (x : ℕ) × (o ≡ Some x)
found None e = absurd (let bad : false ≡ true = e in cc)
found (Some x) e = (x, refl)

-- a number from which a place in it is near
near : (o at : ℕ) (distance : ℤ) → FitsSigned w16 distance → pos o +ℤ distance ≡ pos at → at ≤ memory_size → o < 2 ^ 20
near o at distance fits e small = grind (arith, ints, nat_tests, fits, e)

pub own_lands : (sectors frame : ℕ) (k : Kind) (distance : ℤ) (n w : ℕ) → FitsSigned w16 distance → Describes sectors frame k w → is_own_memory k distance n ≡ true
    → Lies ((w + cast_unsigned w64 distance) % 2 ^ 64) n
own_lands sectors frame (Num x) distance n w fits d e =
    let low : ℕ = x.unsigned.low in
    let high : ℕ = x.unsigned.high in
    let both = and_parts (in_own low distance n) (in_own high distance n) e in
    let one = and_parts (nat_le memory_start low) (is_some (landing memory_size n (low - memory_start) distance)) both.0 in
    let two = and_parts (nat_le memory_start high) (is_some (landing memory_size n (high - memory_start) distance)) both.1 in
    let first = found (landing memory_size n (low - memory_start) distance) one.1 in
    let last = found (landing memory_size n (high - memory_start) distance) two.1 in
    let l = landed_is memory_size n (low - memory_start) first.0 distance first.1 in
    let h = landed_is memory_size n (high - memory_start) last.0 distance last.1 in
    let low_test = one.0 in let high_test = two.0 in
    let begins : memory_start ≤ low = grind (arith, nat_tests) in
    let from = d.word.from in let upto = d.word.upto in
    let o : ℕ = w - memory_start in
    let whole : memory_start + o ≡ w = omega (arith, begins, from) in
    let there = between_up (span (low - memory_start) (high - memory_start)) (span first.0 last.0) distance o l.0 h.0
    (record { from = omega (arith, begins, from); upto = omega (arith, begins, from, upto) }) in
    let at : ℕ = first.0 + (o - (low - memory_start)) in
    let inside = there.1.upto in let least = h.1 in
    let fit : at + n ≤ memory_size = omega (arith, inside, least) in
    let close : o < 2 ^ 20 = near o at distance fits there.0 (omega (arith, fit)) in
    let is : (memory_start + o + cast_unsigned w64 distance) % 2 ^ 64 ≡ memory_start + at = reached memory_start o at distance fits there.0 (omega (arith, close)) (omega (arith, fit)) in
    let same : (w + cast_unsigned w64 distance) % 2 ^ 64 ≡ memory_start + at = subst (λ (v : ℕ). (v + cast_unsigned w64 distance) % 2 ^ 64 ≡ memory_start + at) whole is in
    record { from = omega (arith, same); upto = omega (arith, same, fit) }
own_lands sectors frame _ distance n w fits d e = absurd (let bad : false ≡ true = e in cc)

pub in_memory : (device : List (List ℕ)) (a n : ℕ) → length device ≤ most_sectors → Lies a n → is_in_memory device a n ≡ true
in_memory device a n few h =
    let from = h.from in let upto = h.upto in
    let beside : nat_le (length device) most_beside ≡ true = grind (arith, nat_tests) in
    let low : nat_le memory_start a ≡ true = grind (arith, nat_tests) in
    let high : nat_le (a + n) (memory_start + memory_size) ≡ true = grind (arith, nat_tests) in
    rw (beside, low, high) refl

pub lies : (device : List (List ℕ)) (a n : ℕ) → is_in_memory device a n ≡ true → Lies a n
lies device a n e =
    let outer = and_parts (nat_le (length device) most_beside) (nat_le memory_start a && nat_le (a + n) (memory_start + memory_size)) e in
    let inner = and_parts (nat_le memory_start a) (nat_le (a + n) (memory_start + memory_size)) outer.1 in
    let low = inner.0 in let high = inner.1 in
    record { from = grind (arith, nat_tests); upto = grind (arith, nat_tests) }

-- its bytes

abbrev pub AreBytes : List ℕ → Type 0
AreBytes xs = (i b : ℕ) → slice_get xs i ≡ Some b → b < 256

bytes_taken : (n : ℕ) (xs : List ℕ) → AreBytes xs → AreBytes (take n xs)
bytes_taken zero xs h i b e = absurd (let bad : None ≡ Some b = e in cc)
bytes_taken (suc n) [] h i b e = absurd (let bad : None ≡ Some b = e in cc)
bytes_taken (suc n) (x ∷ xs) h zero b e = h 0 b e
bytes_taken (suc n) (x ∷ xs) h (suc i) b e = bytes_taken n xs (λ k c f. h (suc k) c f) i b e

bytes_dropped : (n : ℕ) (xs : List ℕ) → AreBytes xs → AreBytes (drop n xs)
bytes_dropped zero xs h i b e = h i b e
bytes_dropped (suc n) [] h i b e = h i b e
bytes_dropped (suc n) (x ∷ xs) h i b e = bytes_dropped n xs (λ k c f. h (suc k) c f) i b e

bytes_joined : (xs ys : List ℕ) → AreBytes xs → AreBytes ys → AreBytes (xs ++ ys)
bytes_joined [] ys h k i b e = k i b e
bytes_joined (x ∷ xs) ys h k zero b e = h 0 b e
bytes_joined (x ∷ xs) ys h k (suc i) b e = bytes_joined xs ys (λ j c f. h (suc j) c f) k i b e

pub bytes_small : (xs : List ℕ) → ((i : ℕ) → slice_index xs i < 256) → AreBytes xs
bytes_small [] h i b e = absurd (let bad : None ≡ Some b = e in cc)
bytes_small (x ∷ xs) h zero b e = let f : Some x ≡ Some b = e in let same : x ≡ b = cc in subst (λ (y : ℕ). y < 256) same (h 0)
bytes_small (x ∷ xs) h (suc i) b e = bytes_small xs (λ k. h (suc k)) i b e

pub small_bytes : (xs : List ℕ) → AreBytes xs → (i : ℕ) → slice_index xs i < 256
small_bytes [] h i = omega arith
small_bytes (x ∷ xs) h zero = h 0 x refl
small_bytes (x ∷ xs) h (suc i) = small_bytes xs (λ k c f. h (suc k) c f) i

-- a number that it holds
pub held_below : (n p : ℕ) (m : List ℕ) → IsOwn m → number_at n p m < 256 ^ n
held_below n p m own = number_below n p m (small_bytes m own.small)

-- bytes that are written leave bytes
pub written_own : (p : ℕ) (bytes m : List ℕ) → IsOwn m → ((i : ℕ) → slice_index bytes i < 256) → p + length bytes ≤ memory_size → IsOwn (overwritten p bytes m)
written_own p bytes m own small fits =
    let long = own.long in
    let front : length (take p m) ≡ p = length-take-le p m (omega (arith, fits, long)) in
    let back = length-drop (p + length bytes) m in
    let outer = length-append (take p m) (bytes ++ drop (p + length bytes) m) in
    let inner = length-append bytes (drop (p + length bytes) m) in
    record {
      long = omega (arith, front, back, outer, inner, long, fits);
      small = bytes_joined (take p m) (bytes ++ drop (p + length bytes) m) (bytes_taken p m own.small)
          (bytes_joined bytes (drop (p + length bytes) m) (bytes_small bytes small) (bytes_dropped (p + length bytes) m own.small));
    }

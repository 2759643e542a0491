-- A smaller pointer, moved by smaller numbers, is a smaller pointer.
use Rattle.std.proofs.Common.{◌≡◌, ℕ, ◌≤◌, ◌==◌, nat_le, Bool, true, false, if◌then◌else◌, Option, None, Some, ℤ, pos, negsuc, ◌+ℤ◌, ◌-ℤ◌, ◌≤ℤ◌, refl, inl, inr, arith}
use Rattle.std.specs.Option.{option_map, option_and_then}
use Rattle.std.specs.Int.{cast_signed, w64}
use Rattle.std.proofs.lemmas.Int.{ints}
use Rattle.std.proofs.lemmas.Bool.Decides.{nat_tests, eqb_tells}
use Rattle.intervals.specs.Spans.{Span, span, is_constant, Within}
use Rattle.intervals.proofs.Readings.{natural_reading}
use Rattle.ranges.specs.Kinds.{Kind, Num, Ctx, Stack, Sector}
use Rattle.ranges.specs.Pointers.{offset_in, offsets_in, moved_offset, moved_place, moved_offsets, moved_pointer}
use Rattle.ranges.specs.Order.{Under, IsBounded}

-- where there is a second, there is a first, which is under it
abbrev pub Met : Option Kind → Option Kind → Type 0
Met m None = Unit {0}
Met None (Some l) = ⊥
Met (Some k) (Some l) = Under k l

same_numbers : (a b : ℕ) → (a == b) ≡ true → a ≡ b
same_numbers a b e = elim (eqb_tells a b) [ inl t ↦ t.1 | inr f ↦ absurd (let g : (a == b) ≡ false = f.0 in let bad : true ≡ false = cc in cc) ]

-- a range within a constant is that constant
constant_within : (x y : Span) → x.low ≤ x.high → Within x y → is_constant y ≡ true → x ≡ y
constant_within x y o w e =
    let constant : y.low ≡ y.high = same_numbers y.low y.high e in
    let low : x.low ≡ y.low = omega (arith, constant, o, w.from, w.upto) in
    let high : x.high ≡ y.high = omega (arith, constant, o, w.from, w.upto) in
    λ i. record { low = low i; high = high i }

met_self : (f : ℕ → Kind) (m : Option ℕ) → ((n : ℕ) → Under (f n) (f n)) → Met (option_map f m) (option_map f m)
met_self f None h = tt
met_self f (Some n) h = h n

-- pointers to one place

place_met : (f : ℕ → Kind) (limit : ℕ) (down : Bool) (o : ℕ) (y z : Span) → ((n : ℕ) → Under (f n) (f n)) → y.low ≤ y.high → Within y z
    → Met (option_map f (moved_place limit down o y)) (option_map f (moved_place limit down o z))
unfolding moved_place
place_met f limit down o y z h ordered w = by_kind (is_constant z) refl
  where
    by_kind : (b : Bool) → is_constant z ≡ b
        → Met (option_map f (if is_constant y then offset_in limit (moved_offset down o y) else None)) (option_map f (if b then offset_in limit (moved_offset down o z) else None))
    by_kind true e =
        let same : y ≡ z = constant_within y z ordered w e in
        rw (same, e) (met_self f (offset_in limit (moved_offset down o z)) h)
    by_kind false e = tt

-- offsets in a sector

offsets_met : (a b c d : ℤ) → c ≤ℤ a → a ≤ℤ b → b ≤ℤ d → Met (option_map (λ z. Sector z) (offsets_in 65535 a b)) (option_map (λ z. Sector z) (offsets_in 65535 c d))
offsets_met a b (negsuc m) d p q r = tt
offsets_met a b (pos m) (negsuc n) p q r = by_low (nat_le m 65535)
  where
    by_low : (t : Bool) → Met (option_map (λ z. Sector z) (offsets_in 65535 a b)) (option_map (λ z. Sector z) (option_and_then (λ low. None) (if t then Some m else None)))
    by_low true = tt
    by_low false = tt
offsets_met (negsuc k) b (pos m) (pos n) p q r = absurd (omega (arith, ints, p))
offsets_met (pos k) (negsuc l) (pos m) (pos n) p q r = absurd (omega (arith, ints, q))
offsets_met (pos k) (pos l) (pos m) (pos n) p q r = by_both (nat_le m 65535) (nat_le n 65535) refl
  where
    by_both : (s t : Bool) → nat_le n 65535 ≡ t
        → Met (option_map (λ z. Sector z) (option_and_then (λ low. option_map (λ high. span low high) (if nat_le l 65535 then Some l else None)) (if nat_le k 65535 then Some k else None)))
        (option_map (λ z. Sector z) (option_and_then (λ low. option_map (λ high. span low high) (if t then Some n else None)) (if s then Some m else None)))
    by_both true true e =
        let most : n ≤ 65535 = grind (arith, nat_tests) in
        let first : m ≤ k = omega (arith, ints, p) in
        let mid : k ≤ l = omega (arith, ints, q) in
        let last : l ≤ n = omega (arith, ints, r) in
        let low : nat_le k 65535 ≡ true = grind (arith, nat_tests) in
        let high : nat_le l 65535 ≡ true = grind (arith, nat_tests) in
        rw (low, high) (record { from = first; upto = last })
    by_both true false e = tt
    by_both false t e = tt

abbrev by_range : Bool → Span → Span → Option Span
by_range down x y =
    if down then offsets_in 65535 (pos x.low -ℤ pos y.high) (pos x.high -ℤ pos y.low)
    else offsets_in 65535 (pos x.low +ℤ pos y.low) (pos x.high +ℤ pos y.high)

range_met : (down : Bool) (x y s t : Span) → x.low ≤ x.high → y.low ≤ y.high → Within x s → Within y t
    → Met (option_map (λ z. Sector z) (by_range down x y)) (option_map (λ z. Sector z) (by_range down s t))
range_met true x y s t ox oy w v =
    let a = w.from in let b = w.upto in let c = v.from in let d = v.upto in
    offsets_met (pos x.low -ℤ pos y.high) (pos x.high -ℤ pos y.low) (pos s.low -ℤ pos t.high) (pos s.high -ℤ pos t.low)
    (omega (arith, ints)) (omega (arith, ints)) (omega (arith, ints))
range_met false x y s t ox oy w v =
    let a = w.from in let b = w.upto in let c = v.from in let d = v.upto in
    offsets_met (pos x.low +ℤ pos y.low) (pos x.high +ℤ pos y.high) (pos s.low +ℤ pos t.low) (pos s.high +ℤ pos t.high)
    (omega (arith, ints)) (omega (arith, ints)) (omega (arith, ints))

constant_met : (down : Bool) (x y s : Span) → x.low ≤ x.high → Within x s
    → Met (option_map (λ z. Sector z) (offsets_in 65535 (moved_offset down x.low y) (moved_offset down x.high y)))
    (option_map (λ z. Sector z) (offsets_in 65535 (moved_offset down s.low y) (moved_offset down s.high y)))
constant_met true x y s ox w =
    let a = w.from in let b = w.upto in
    offsets_met (pos x.low -ℤ cast_signed w64 y.low) (pos x.high -ℤ cast_signed w64 y.low) (pos s.low -ℤ cast_signed w64 y.low) (pos s.high -ℤ cast_signed w64 y.low)
    (omega (arith, ints)) (omega (arith, ints)) (omega (arith, ints))
constant_met false x y s ox w =
    let a = w.from in let b = w.upto in
    offsets_met (pos x.low +ℤ cast_signed w64 y.low) (pos x.high +ℤ cast_signed w64 y.low) (pos s.low +ℤ cast_signed w64 y.low) (pos s.high +ℤ cast_signed w64 y.low)
    (omega (arith, ints)) (omega (arith, ints)) (omega (arith, ints))

-- a small constant within a range moves as the range of that one number
small_met : (down : Bool) (x y s t : Span) → x.low ≤ x.high → y.low ≡ y.high → t.high ≤ 65535 → Within x s → Within y t
    → Met (option_map (λ z. Sector z) (offsets_in 65535 (moved_offset down x.low y) (moved_offset down x.high y))) (option_map (λ z. Sector z) (by_range down s t))
small_met true x y s t ox same small w v =
    let a = w.from in let b = w.upto in let c = v.from in let d = v.upto in
    let reading : cast_signed w64 y.low ≡ pos y.low = natural_reading y.low (omega (arith, same, small, d)) in
    rw reading
    (offsets_met (pos x.low -ℤ pos y.low) (pos x.high -ℤ pos y.low) (pos s.low -ℤ pos t.high) (pos s.high -ℤ pos t.low)
    (omega (arith, ints)) (omega (arith, ints)) (omega (arith, ints)))
small_met false x y s t ox same small w v =
    let a = w.from in let b = w.upto in let c = v.from in let d = v.upto in
    let reading : cast_signed w64 y.low ≡ pos y.low = natural_reading y.low (omega (arith, same, small, d)) in
    rw reading
    (offsets_met (pos x.low +ℤ pos y.low) (pos x.high +ℤ pos y.low) (pos s.low +ℤ pos t.low) (pos s.high +ℤ pos t.high)
    (omega (arith, ints)) (omega (arith, ints)) (omega (arith, ints)))

sector_met : (down : Bool) (x y s t : Span) → x.low ≤ x.high → y.low ≤ y.high → Within x s → Within y t
    → Met (option_map (λ z. Sector z) (moved_offsets down x y)) (option_map (λ z. Sector z) (moved_offsets down s t))
unfolding moved_offsets
sector_met down x y s t ox oy w v = by_kind (is_constant t) (nat_le t.high 65535) (is_constant y) refl refl refl
  where
    by_kind : (a b c : Bool) → is_constant t ≡ a → nat_le t.high 65535 ≡ b → is_constant y ≡ c
        → Met (option_map (λ z. Sector z) (if c then offsets_in 65535 (moved_offset down x.low y) (moved_offset down x.high y) else if nat_le y.high 65535 then by_range down x y else None))
        (option_map (λ z. Sector z) (if a then offsets_in 65535 (moved_offset down s.low t) (moved_offset down s.high t) else if b then by_range down s t else None))
    by_kind true b c p q r =
        let same : y ≡ t = constant_within y t oy v p in
        let constant : is_constant y ≡ true = rw same p in
        let is : c ≡ true = (let l : is_constant y ≡ c = r in cc) in
        rw (is, same) (constant_met down x t s ox w)
    by_kind false false c p q r = tt
    by_kind false true true p q r =
        let same : y.low ≡ y.high = same_numbers y.low y.high r in
        let small : t.high ≤ 65535 = grind (arith, nat_tests) in
        small_met down x y s t ox same small w v
    by_kind false true false p q r =
        let small : t.high ≤ 65535 = grind (arith, nat_tests) in
        let less : y.high ≤ 65535 = omega (arith, small, v.upto) in
        let test : nat_le y.high 65535 ≡ true = grind (arith, nat_tests) in
        rw test (range_met down x y s t ox oy w v)

pub moved_met : (down : Bool) (k l m n : Kind) → IsBounded k → IsBounded l → Under k m → Under l n → Met (moved_pointer down k l) (moved_pointer down m n)
unfolding moved_pointer
moved_met down (Ctx o) (Num y) (Ctx p) (Num z) h g u v = rw u (place_met (λ a. Ctx a) 32 down p y.unsigned z.unsigned (λ a. refl) g.words.ordered v.unsigned)
moved_met down (Stack o) (Num y) (Stack p) (Num z) h g u v = rw u (place_met (λ a. Stack a) 512 down p y.unsigned z.unsigned (λ a. refl) g.words.ordered v.unsigned)
moved_met down (Sector x) (Num y) (Sector s) (Num z) h g u v = sector_met down x y.unsigned s z.unsigned h.ordered g.words.ordered u v.unsigned
moved_met down (Ctx o) l (Ctx p) (Num z) h g u v = absurd v
moved_met down (Stack o) l (Stack p) (Num z) h g u v = absurd v
moved_met down (Sector x) l (Sector s) (Num z) h g u v = absurd v
moved_met down k l (Ctx p) (Num z) h g u v = absurd u
moved_met down k l (Stack p) (Num z) h g u v = absurd u
moved_met down k l (Sector s) (Num z) h g u v = absurd u
moved_met down k l m n h g u v = tt

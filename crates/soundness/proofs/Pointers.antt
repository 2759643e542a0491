-- Pointers that arithmetic moves.
use Rattle.std.proofs.Common.{◌≡◌, ◌<◌, ◌≤◌, ℕ, ◌+◌, ◌-◌, ◌*◌, ◌%◌, ◌^◌, nat_le, Bool, true, false, if◌then◌else◌, ℤ, pos, ◌+ℤ◌, ◌-ℤ◌, Option, None, Some, refl, ap, ◌∙◌, subst, arith}
use Rattle.std.specs.Option.{option_map}
use Rattle.std.specs.Int.{cast_signed, w64}
use Rattle.std.proofs.lemmas.Int.{ints}
use Rattle.std.proofs.lemmas.Bool.Decides.{nat_tests}
use Rattle.helpers.specs.Answers.{sector_start}
use Rattle.intervals.specs.Spans.{Span, is_constant, IsSpan, Has}
use Rattle.ranges.specs.Kinds.{Kind, Num, Ctx, Stack, Sector}
use Rattle.ranges.specs.Order.{IsBounded}
use Rattle.ranges.specs.Pointers.{offset_in, offsets_in, moved_offset, moved_place, moved_offsets, moved_pointer}
use Rattle.soundness.specs.Meaning.{Describes}
use Rattle.soundness.proofs.Standing.{AreFew}
use Rattle.soundness.proofs.Shifts.{offset_is, offsets_are, moved_up, moved_down}

-- the machine's sum, or its difference
abbrev pub shifted : Bool → ℕ → ℕ → ℕ
shifted true a b = (a + (2 ^ 64 - b)) % 2 ^ 64
shifted false a b = (a + b) % 2 ^ 64

shifted_constant : (down : Bool) (start o b q : ℕ) (y : Span) → b < 2 ^ 64 → b ≡ y.low → moved_offset down o y ≡ pos q → start + o < 2 ^ 62 → start + q < 2 ^ 62
    → shifted down (start + o) b ≡ start + q
shifted_constant true start o b q y lt same e small low = moved_down start o b q lt (ap (λ (v : ℕ). pos o -ℤ cast_signed w64 v) same ∙ e) small low
shifted_constant false start o b q y lt same e small low = moved_up start o b q lt (ap (λ (v : ℕ). pos o +ℤ cast_signed w64 v) same ∙ e) small low

constant_is : (y : Span) (b : ℕ) → is_constant y ≡ true → Has y b → b ≡ y.low
constant_is y b e h = let same : y.low ≡ y.high = grind (arith, nat_tests) in omega (arith, same, h.from, h.upto)

-- one place, moved by a constant
place_is : (limit : ℕ) (down : Bool) (start o b q : ℕ) (y : Span) → moved_place limit down o y ≡ Some q → IsSpan (2 ^ 64 - 1) y → Has y b
    → limit ≤ 512 → o ≤ 512 → start < 2 ^ 60 → shifted down (start + o) b ≡ start + q
unfolding moved_place
place_is limit down start o b q y e fits has most near small = by_test (is_constant y) refl e
  where
    by_test : (c : Bool) → is_constant y ≡ c → (if c then offset_in limit (moved_offset down o y) else None) ≡ Some q → shifted down (start + o) b ≡ start + q
    by_test true t f =
        let h = offset_is limit (moved_offset down o y) q f in
        shifted_constant down start o b q y (omega (arith, fits.most, has.upto)) (constant_is y b t has) h.0 (omega arith) (omega (arith, h.1))
    by_test false t f = absurd (let bad : None ≡ Some q = f in cc)

-- offsets in a sector
pub record Moved (down : Bool) (start o b : ℕ) (z : Span) : Type 0 where
  pub to : ℕ
  pub inside : Has z to
  pub is : shifted down (start + o) b ≡ start + to

pub between_up : (x z : Span) (c : ℤ) (o : ℕ) → pos x.low +ℤ c ≡ pos z.low → pos x.high +ℤ c ≡ pos z.high → Has x o
    → (pos o +ℤ c ≡ pos (z.low + (o - x.low))) × Has z (z.low + (o - x.low))
between_up x z c o e f h =
    let a = h.from in let b = h.upto in
    (omega (arith, ints, e, f), record { from = omega arith; upto = omega (arith, ints, e, f) })

between_down : (x z : Span) (c : ℤ) (o : ℕ) → pos x.low -ℤ c ≡ pos z.low → pos x.high -ℤ c ≡ pos z.high → Has x o
    → (pos o -ℤ c ≡ pos (z.low + (o - x.low))) × Has z (z.low + (o - x.low))
between_down x z c o e f h =
    let a = h.from in let b = h.upto in
    (omega (arith, ints, e, f), record { from = omega arith; upto = omega (arith, ints, e, f) })

between : (down : Bool) (x y z : Span) (o : ℕ) → moved_offset down x.low y ≡ pos z.low → moved_offset down x.high y ≡ pos z.high → Has x o
    → (moved_offset down o y ≡ pos (z.low + (o - x.low))) × Has z (z.low + (o - x.low))
between true x y z o e f h = between_down x z (cast_signed w64 y.low) o e f h
between false x y z o e f h = between_up x z (cast_signed w64 y.low) o e f h

offset_most : (z : Span) (limit : ℕ) (a b : ℤ) → offsets_in limit a b ≡ Some z → z.high ≤ limit
offset_most z limit a b e = by_both (offset_in limit a) (offset_in limit b) refl e
  where
    by_both : (m n : Option ℕ) → offset_in limit b ≡ n → Rattle.std.specs.Option.option_and_then (λ low. option_map (λ high. Rattle.intervals.specs.Spans.span low high) n) m ≡ Some z → z.high ≤ limit
    by_both None n q f = absurd (let bad : None ≡ Some z = f in cc)
    by_both (Some x) None q f = absurd (let bad : None ≡ Some z = f in cc)
    by_both (Some x) (Some y) q f =
        let same : Rattle.intervals.specs.Spans.span x y ≡ z = cc in
        let high : y ≡ z.high = ap (λ (s : Span). s.high) same in
        rw (← high) (offset_is limit b y q).1

small_way : (down : Bool) (start o b : ℕ) (x y z : Span) → Has x o → Has y b → y.high ≤ 65535 → IsSpan 65535 x → start < 2 ^ 60
    → (if down then offsets_in 65535 (pos x.low -ℤ pos y.high) (pos x.high -ℤ pos y.low)
    else offsets_in 65535 (pos x.low +ℤ pos y.low) (pos x.high +ℤ pos y.high)) ≡ Some z → Moved down start o b z
small_way true start o b x y z hx hy small fits low e =
    let h = offsets_are 65535 (pos x.low -ℤ pos y.high) (pos x.high -ℤ pos y.low) z e in
    let first : x.low ≡ z.low + y.high = omega (arith, ints, h.0) in
    let last : x.high ≡ z.high + y.low = omega (arith, ints, h.1) in
    let a = hx.from in let c = hx.upto in let d = hy.from in let f = hy.upto in let most = fits.most in
    record {
      to = o - b;
      inside = record { from = omega (arith, first); upto = omega (arith, last) };
      is = omega (arith, first);
    }
small_way false start o b x y z hx hy small fits low e =
    let h = offsets_are 65535 (pos x.low +ℤ pos y.low) (pos x.high +ℤ pos y.high) z e in
    let first : x.low + y.low ≡ z.low = omega (arith, ints, h.0) in
    let last : x.high + y.high ≡ z.high = omega (arith, ints, h.1) in
    let a = hx.from in let c = hx.upto in let d = hy.from in let f = hy.upto in let most = fits.most in
    record {
      to = o + b;
      inside = record { from = omega (arith, first); upto = omega (arith, last) };
      is = omega arith;
    }

offsets_moved : (down : Bool) (start o b : ℕ) (x y z : Span) → moved_offsets down x y ≡ Some z → IsSpan 65535 x → IsSpan (2 ^ 64 - 1) y → Has x o → Has y b
    → start < 2 ^ 60 → Moved down start o b z
unfolding moved_offsets
offsets_moved down start o b x y z e fx fy hx hy low = by_kind (is_constant y) (nat_le y.high 65535) refl refl e
  where
    by_kind : (c d : Bool) → is_constant y ≡ c → nat_le y.high 65535 ≡ d
        → (if c then offsets_in 65535 (moved_offset down x.low y) (moved_offset down x.high y)
        else if d then (if down then offsets_in 65535 (pos x.low -ℤ pos y.high) (pos x.high -ℤ pos y.low)
        else offsets_in 65535 (pos x.low +ℤ pos y.low) (pos x.high +ℤ pos y.high))
        else None) ≡ Some z → Moved down start o b z
    by_kind true d t u f =
        let h = offsets_are 65535 (moved_offset down x.low y) (moved_offset down x.high y) z f in
        let most = offset_most z 65535 (moved_offset down x.low y) (moved_offset down x.high y) f in
        let there = between down x y z o h.0 h.1 hx in
        let near = fx.most in let upto = hx.upto in let inside = there.1.upto in
        record {
          to = z.low + (o - x.low);
          inside = there.1;
          is = shifted_constant down start o b (z.low + (o - x.low)) y (omega (arith, fy.most, hy.upto)) (constant_is y b t hy) there.0 (omega arith) (omega arith);
        }
    by_kind false true t u f = small_way down start o b x y z hx hy (grind (arith, nat_tests)) fx low f
    by_kind false false t u f = absurd (let bad : None ≡ Some z = f in cc)

pub moved_describes : (sectors frame : ℕ) (down : Bool) (k l p : Kind) (a b : ℕ) → AreFew sectors frame → IsBounded k → IsBounded l → Describes sectors frame k a → Describes sectors frame l b
    → moved_pointer down k l ≡ Some p → Describes sectors frame p (shifted down a b)
unfolding moved_pointer
moved_describes sectors frame down (Ctx o) (Num y) p a b few fk fl dk dl e = by (moved_place 32 down o y.unsigned) refl e
  where
    by : (m : Option ℕ) → moved_place 32 down o y.unsigned ≡ m → option_map (λ q. Ctx q) m ≡ Some p → Describes sectors frame p (shifted down a b)
    by None f g = absurd (let bad : None ≡ Some p = g in cc)
    by (Some q) f g =
        let same : Ctx q ≡ p = cc in
        subst (λ r. Describes sectors frame r (shifted down a b)) same
        (rw dk (place_is 32 down 0x1_0000_0000 o b q y.unsigned f fl.words dl.word (omega arith) (omega (arith, fk)) (omega arith)))
moved_describes sectors frame down (Stack o) (Num y) p a b few fk fl dk dl e = by (moved_place 512 down o y.unsigned) refl e
  where
    by : (m : Option ℕ) → moved_place 512 down o y.unsigned ≡ m → option_map (λ q. Stack q) m ≡ Some p → Describes sectors frame p (shifted down a b)
    by None f g = absurd (let bad : None ≡ Some p = g in cc)
    by (Some q) f g =
        let same : Stack q ≡ p = cc in
        subst (λ r. Describes sectors frame r (shifted down a b)) same
        (rw dk (place_is 512 down (0x2_0000_0000 + 1024 * frame) o b q y.unsigned f fl.words dl.word (omega arith) fk (omega (arith, few.frames))))
moved_describes sectors frame down (Sector x) (Num y) p a b few fk fl dk dl e = by (moved_offsets down x y.unsigned) refl e
  where
    by : (m : Option Span) → moved_offsets down x y.unsigned ≡ m → option_map (λ z. Sector z) m ≡ Some p → Describes sectors frame p (shifted down a b)
    by None f g = absurd (let bad : None ≡ Some p = g in cc)
    by (Some z) f g =
        let same : Sector z ≡ p = cc in
        let lt = dk.2 in
        let h = offsets_moved down (sector_start + 1024 * dk.0) dk.1 b x y.unsigned z f fk fl.words dk.3 dl.word (omega (arith, few.device, lt)) in
        subst (λ r. Describes sectors frame r (shifted down a b)) same
        (dk.0, h.to, dk.2, h.inside, ap (λ v. shifted down v b) dk.4 ∙ h.is)
moved_describes sectors frame down k l p a b few fk fl dk dl e = absurd (let bad : None ≡ Some p = e in cc)

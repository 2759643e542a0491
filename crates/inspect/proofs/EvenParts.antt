-- Parts of a run: they have each image once, and are as long as one another, but for one image.
use Rattle.std.proofs.Common.{ℕ, ◌≡◌, ◌≤◌, ◌<◌, ◌+◌, ◌-◌, ◌*◌, ◌/◌, ◌%◌, ◌⊎◌, ◌&&◌, inl, inr, min, suc, refl, sym, true, nat_le, arith, ap}
use Rattle.std.proofs.Math.Nat.{div-add-mod, div-le_of_le-mul, eq-or-lt_of_le, mod-lt, mul-le-mul_right, suc-mul}
use Rattle.std.proofs.lemmas.Bool.{and_parts}
use Rattle.std.proofs.lemmas.Bool.Decides.{nat_tests}
use Rattle.choices.specs.Choices.{limit}
use Rattle.request.specs.declared.extent.Extent.TheVariants as extent
use Rattle.request.specs.Extents.{is_extent, has_extent}
use Rattle.inspect.specs.Layout.{most_parts, part_count, part_start, part_length, AreEven, PartsAreEven}

-- a part begins at an image of the run, or after the last one
pub start_within : (images count part : ℕ) → part ≤ count → part * (images / count) + images % count ≤ images
start_within images count part le =
    let all = div-add-mod images count in
    let before = mul-le-mul_right (images / count) le in
    omega (arith, all, before)

ends : (images count : ℕ) → 1 ≤ count → part_start images count count ≡ images
ends images count some =
    let all = div-add-mod images count in
    let rest = mod-lt images some in
    omega (arith, all, rest)

one_more : (part times : ℕ) → (part + 1) * times ≡ part * times + times
one_more part times = let e : part + 1 ≡ suc part = omega arith in rw e (suc-mul part times)

-- where the part after it begins
next : (images count part : ℕ) → part_start images count (part + 1) ≡ part * (images / count) + images / count + min (part + 1) (images % count)
next images count part = let more = one_more part (images / count) in omega (arith, more)

rising : (images count part : ℕ) → part_start images count part ≤ part_start images count (part + 1)
rising images count part = let to = next images count part in omega (arith, to)

longest : (images count i j : ℕ) → i ≤ j → part_length images count j ≤ part_length images count i
longest images count i j le = let first = next images count i in let second = next images count j in omega (arith, first, second, le)

near : (images count i j : ℕ) → part_length images count i ≤ part_length images count j + 1
near images count i j = let first = next images count i in let second = next images count j in omega (arith, first, second)

-- no part has more images than a run may have
few : (images count part : ℕ) → images ≤ count * limit → part_length images count part ≤ limit
few images count part fits =
    let to = next images count part in
    elim (eq-or-lt_of_le (div-le_of_le-mul count fits)) [
      | inl most ↦
          let all = div-add-mod images count in let whole = ap (λ (k : ℕ). count * k) most in
          omega (arith, to, most, all, whole, fits)
      | inr less ↦ omega (arith, to, less)
    ]

-- where there are no more parts than images, each has some
some : (images count part : ℕ) → count ≤ images → 1 ≤ count → part_start images count part < part_start images count (part + 1)
some images count part fits one =
    let to = next images count part in
    let all = div-add-mod images count in let rest = mod-lt images one in
    elim (eq-or-lt_of_le (let e : 0 ≤ images / count = omega arith in e)) [
      | inl none ↦
          let whole = ap (λ (k : ℕ). count * k) (sym none) in
          omega (arith, all, rest, whole, fits)
      | inr more ↦ omega (arith, to, more)
    ]

-- a part has images, or is that of a run without images
either : (images parts part : ℕ) → 1 ≤ parts → part < part_count images parts
    → (part_start images (part_count images parts) part < part_start images (part_count images parts) (part + 1)) ⊎ (images ≡ 0)
either images parts part one before =
    elim (eq-or-lt_of_le (let e : 0 ≤ images = omega arith in e)) [
      | inl none ↦ inr (sym none)
      | inr more ↦ inl (some images (part_count images parts) part (omega (arith, more, one)) (omega arith))
    ]

is_asked : (from to : ℕ) → (from < to) ⊎ ((from ≡ 0) × (to ≡ 0)) → to - from ≤ limit → is_extent (extent.Part from to) ≡ true
is_asked from to (inl more) fits = grind (arith, nat_tests, more, fits)
is_asked from to (inr (first, last)) fits = rw (first, last) refl

is_had : (from to images : ℕ) → (from < to) ⊎ (images ≡ 0) → to ≤ images → has_extent (extent.Part from to) images ≡ true
is_had from to images (inl more) within = grind (arith, nat_tests, more, within)
is_had from to images (inr none) within = grind (arith, nat_tests, none, within)

-- where a part begins and ends
within : (images count part : ℕ) → part ≤ count → part_start images count part ≤ images
within images count part le = let there = start_within images count part le in omega (arith, there)

bare : (images count part : ℕ) → part < count → (part_start images count part < part_start images count (part + 1)) ⊎ (images ≡ 0)
    → (part_start images count part < part_start images count (part + 1)) ⊎ ((part_start images count part ≡ 0) × (part_start images count (part + 1) ≡ 0))
bare images count part before (inl more) = inl more
bare images count part before (inr none) =
    let from = within images count part (omega arith) in let to = within images count (part + 1) (omega arith) in
    inr (omega (arith, from, none), omega (arith, to, none))

of_layout : (images parts : ℕ) → 1 ≤ parts → images ≤ part_count images parts * limit → AreEven images (part_count images parts)
of_layout images parts one fits = record {
  begins = omega arith;
  ends = ends images (part_count images parts) (omega arith);
  rising = rising images (part_count images parts);
  longest = longest images (part_count images parts);
  near = near images (part_count images parts);
  asked = λ part before. is_asked _ _ (bare images (part_count images parts) part before (either images parts part one before)) (few images (part_count images parts) part fits);
  within = λ part before. is_had _ _ images (either images parts part one before) (within images (part_count images parts) (part + 1) (omega (arith, before)));
}

pub parts_are_even : PartsAreEven
parts_are_even images parts can =
    let both = and_parts (nat_le 1 parts && nat_le parts most_parts) (nat_le images (part_count images parts * limit)) can in
    let some = and_parts (nat_le 1 parts) (nat_le parts most_parts) both.0 in
    of_layout images parts (grind (arith, nat_tests, some.0)) (grind (arith, nat_tests, both.1))

-- The sectors of ranges: how many they are, whether each is of a device, and whether none stands twice.
use Rattle.std.proofs.Common.{ℕ, zero, suc, ◌≡◌, ◌+◌, ◌-◌, ◌<◌, ◌≤◌, ◌^◌, ◌&&◌, ◌||◌, ◌⊎◌, nat_lt, nat_le, eqb, Bool, true, false, List, [], ◌∷◌, ◌++◌, length, take, get_or, append_assoc, refl, sym, subst, ap, ◌∙◌, inl, inr, arith}
use Rattle.std.specs.List.{flat_map, list_all, list_any, sum_by, range_with_len, IsDistinct}
use Rattle.std.specs.List.Sorted.{IsPermutation, IsNonDecreasing, IsSorted, IsStrictlyIncreasing}
use Rattle.std.specs.Ordering.{nat_cmp}
use Rattle.std.proofs.lemmas.Bool.Decides.{nat_tests, eqb_tells}
use Rattle.std.proofs.lemmas.List.Concat.{length-flat_map}
use Rattle.std.proofs.lemmas.List.Folds.{list_any-append}
use Rattle.std.proofs.lemmas.List.FromFn.{length-range_with_len}
use Rattle.std.proofs.lemmas.List.Kept.{AllPairs-from_increasing}
use Rattle.std.proofs.lemmas.List.Sorted.{IsPermutation-sym, IsNonDecreasingBy-from_sort}
use Rattle.std.proofs.lemmas.List.Sums.{sum_by-cons, sum_by_more, sum_by-take-le}
use Rattle.std.proofs.lemmas.Map.Keys.{IsDistinct-IsPermutation, IsStrictlyIncreasing-from_distinct}
use Rattle.std.proofs.lemmas.Map.Made.{IsDistinct-from_AllPairs}
use Rattle.std.proofs.lemmas.Map.Steps.{length-le_from_distinct_below}
use Rattle.base.proofs.Lists.{range_with_len-more}
use Rattle.known_text.specs.declared.looked.SectorRange.{SectorRange}
use Rattle.known_text.specs.Ranges.{ranges_text, count_in, sectors_in, is_range, IsLooked, NoLooked, IsLookedOnly}
use Rattle.known_text.specs.Reading.{AreSmall, ReadsRanges, AreSectors, NoSectors}
use Rattle.known_text.proofs.Texts.{byte_decides}

both_so : (a b : Bool) → (a && b) ≡ true → (a ≡ true) × (b ≡ true)
both_so true b is = (refl, is)
both_so false b is = absurd (let bad : false ≡ true = is in cc)

-- THE SECTORS OF A RANGE

pub row_more : (old out new : List ℕ) (first place sector : ℕ) → out ≡ old ++ range_with_len first place → new ≡ out ++ sector ∷ [] → sector ≡ first + place
    → new ≡ old ++ range_with_len first (place + 1)
row_more old out new first place sector was pushed is =
    pushed ∙ ap (λ (xs : List ℕ). xs ++ sector ∷ []) was ∙ append_assoc old (range_with_len first place) (sector ∷ [])
    ∙ ap (λ (n : ℕ). old ++ (range_with_len first place ++ n ∷ [])) is ∙ ap (λ (xs : List ℕ). old ++ xs) (sym (range_with_len-more first place))

-- HOW MANY THEY ARE

-- what is left of a device after the first ranges
pub count_more : (ranges : List SectorRange) (place left sectors count : ℕ) (range : SectorRange) → sum_by count_in (take place ranges) + left ≡ sectors → place < length ranges
    → range ≡ get_or ranges place range → count ≡ count_in range → count ≤ left → sum_by count_in (take (place + 1) ranges) + (left - count) ≡ sectors
count_more ranges place left sectors count range was less here is few =
    let next = sum_by_more count_in ranges place range less in
    let own : count_in (get_or ranges place range) ≡ count = ap count_in (sym here) ∙ sym is in
    omega (arith, was, next, own, few)

pub count_over : (ranges : List SectorRange) (place left sectors count : ℕ) (range : SectorRange) → sum_by count_in (take place ranges) + left ≡ sectors → place < length ranges
    → range ≡ get_or ranges place range → count ≡ count_in range → left < count → sectors < sum_by count_in ranges
count_over ranges place left sectors count range was less here is many =
    let next = sum_by_more count_in ranges place range less in
    let own : count_in (get_or ranges place range) ≡ count = ap count_in (sym here) ∙ sym is in
    let whole = sum_by-take-le count_in ranges (place + 1) in
    omega (arith, was, next, own, many, whole)

lengths_are : (ranges : List SectorRange) → sum_by (λ (r : SectorRange). length (sectors_in r)) ranges ≡ sum_by count_in ranges
lengths_are [] = refl
lengths_are (r ∷ ranges) =
    sum_by-cons (λ (q : SectorRange). length (sectors_in q)) r ranges ∙ ap (λ n. n + sum_by (λ (q : SectorRange). length (sectors_in q)) ranges) (length-range_with_len r.first (count_in r))
    ∙ ap (λ n. count_in r + n) (lengths_are ranges) ∙ sym (sum_by-cons count_in r ranges)

-- EACH IS OF THE DEVICE

or_both : (a b : Bool) → (a || b) ≡ true → (a ≡ true) ⊎ (b ≡ true)
or_both true b is = inl refl
or_both false b is = inr is

in_row : (a n q : ℕ) → list_any (eqb q) (range_with_len a n) ≡ true → q < a + n
in_row a zero q is = absurd (let bad : false ≡ true = is in cc)
in_row a (suc n) q is = elim (or_both (eqb q a) (list_any (eqb q) (range_with_len (a + 1) n)) is) [
  | inl here ↦ let same : q ≡ a = grind (arith, nat_tests, here) in omega (arith, same)
  | inr later ↦ let high = in_row (a + 1) n q later in omega (arith, high)
]

below : (sectors : ℕ) (ranges : List SectorRange) → list_all (is_range sectors) ranges ≡ true → (q : ℕ) → list_any (eqb q) (flat_map sectors_in ranges) ≡ true → q < sectors
below sectors [] are q is = absurd (let bad : false ≡ true = is in cc)
below sectors (r ∷ ranges) are q is =
    let two = both_so (is_range sectors r) (list_all (is_range sectors) ranges) are in
    let own = both_so (nat_le r.first r.last) (nat_lt r.last sectors) two.0 in
    let order_test = own.0 in
    let device_test = own.1 in
    let order : r.first ≤ r.last = grind (arith, nat_tests, order_test) in
    let device : r.last < sectors = grind (arith, nat_tests, device_test) in
    let parts : (list_any (eqb q) (sectors_in r) || list_any (eqb q) (flat_map sectors_in ranges)) ≡ true = sym (list_any-append (eqb q) (sectors_in r) (flat_map sectors_in ranges)) ∙ is in
    elim (or_both (list_any (eqb q) (sectors_in r)) (list_any (eqb q) (flat_map sectors_in ranges)) parts) [
      | inl here ↦ let high = in_row r.first (count_in r) q here in omega (arith, high, order, device)
      | inr later ↦ below sectors ranges two.1 q later
    ]

-- WHY RANGES ARE NO SECTORS

pub not_ranges : (sectors : ℕ) (ranges : List SectorRange) → list_all (is_range sectors) ranges ≡ false → NoSectors sectors ranges
not_ranges sectors ranges other = record { none = λ looked are. absurd (let bad : false ≡ true = sym other ∙ are.are in cc) }

pub not_few : (sectors : ℕ) (ranges : List SectorRange) → sectors < sum_by count_in ranges → NoSectors sectors ranges
not_few sectors ranges many = record { none = none }
  where
    none : (looked : List ℕ) → AreSectors sectors ranges looked → ⊥
    none looked are =
        let once : IsDistinct eqb (flat_map sectors_in ranges) = subst (IsDistinct eqb) are.all are.once in
        let few = length-le_from_distinct_below (flat_map sectors_in ranges) sectors once (below sectors ranges are.are) in
        let long = length-flat_map sectors_in ranges ∙ lengths_are ranges in
        omega (arith, few, long, many)

pub not_once : (sectors : ℕ) (ranges : List SectorRange) (found : List ℕ) → found ≡ flat_map sectors_in ranges → (IsDistinct eqb found → ⊥) → NoSectors sectors ranges
not_once sectors ranges found is twice = record { none = λ looked are. twice (subst (IsDistinct eqb) (are.all ∙ sym is) are.once) }

pub are_sectors : (sectors : ℕ) (ranges : List SectorRange) (found : List ℕ) → list_all (is_range sectors) ranges ≡ true → found ≡ flat_map sectors_in ranges → IsDistinct eqb found
    → AreSectors sectors ranges found
are_sectors sectors ranges found are is once = record { are = are; all = is; once = once }

-- NONE TWICE

flips : (a b : ℕ) → eqb a b ≡ eqb b a
flips a b = elim (eqb_tells a b) [
  | inl same ↦ same.0 ∙ sym ((byte_decides b a).1 (sym same.1))
  | inr other ↦ elim (eqb_tells b a) [ inl same ↦ absurd (other.1 (sym same.1)) | inr apart ↦ other.0 ∙ sym apart.0 ]
]

pub sorted_same : (found empty filled sorted : List ℕ) → empty ≡ [] → filled ≡ empty ++ found → IsPermutation filled sorted → IsPermutation found sorted
sorted_same found empty filled sorted none filled_is moved = subst (λ (xs : List ℕ). IsPermutation xs sorted) (filled_is ∙ ap (λ (xs : List ℕ). xs ++ found) none) moved

pub sorted_order : (sorted : List ℕ) → IsSorted nat_cmp sorted → IsNonDecreasing sorted
sorted_order sorted order = IsNonDecreasingBy-from_sort (λ x. x) sorted order

pub rises_once : (found sorted : List ℕ) → IsPermutation found sorted → IsStrictlyIncreasing sorted → IsDistinct eqb found
rises_once found sorted moved rises =
    IsDistinct-IsPermutation eqb flips sorted found (IsPermutation-sym found sorted moved)
    (IsDistinct-from_AllPairs byte_decides sorted (λ i j d lt within e. let less = AllPairs-from_increasing sorted rises i j d lt within in omega (arith, less, e)))

pub falls_twice : (found sorted : List ℕ) → IsPermutation found sorted → IsNonDecreasing sorted → (IsStrictlyIncreasing sorted → ⊥) → IsDistinct eqb found → ⊥
falls_twice found sorted moved order falls once = falls (IsStrictlyIncreasing-from_distinct sorted order (IsDistinct-IsPermutation eqb flips found sorted moved once))

-- OF A TEXT

small_of : (sectors : ℕ) (ranges : List SectorRange) → sectors < 2 ^ 32 → list_all (is_range sectors) ranges ≡ true → AreSmall ranges
small_of sectors [] device are = tt
small_of sectors (r ∷ ranges) device are =
    let two = both_so (is_range sectors r) (list_all (is_range sectors) ranges) are in
    let own = both_so (nat_le r.first r.last) (nat_lt r.last sectors) two.0 in
    let order_test = own.0 in
    let device_test = own.1 in
    let within : r.last < sectors = grind (arith, nat_tests, device_test) in
    (record { order = grind (arith, nat_tests, order_test); small = omega (arith, within, device) }, small_of sectors ranges device two.1)

-- the ranges that were read are those of a text that has sectors
own_ranges : (sectors : ℕ) (text : List ℕ) (ranges : List SectorRange) (looked : List ℕ) → sectors < 2 ^ 32 → ReadsRanges text ranges → (is : IsLooked sectors text looked) → ranges ≡ is.ranges
own_ranges sectors text ranges looked device read is = read.read is.ranges (small_of sectors is.ranges device is.are) is.is

pub not_text : (sectors : ℕ) (text : List ℕ) (ranges : List SectorRange) → sectors < 2 ^ 32 → ReadsRanges text ranges → (text ≡ ranges_text ranges → ⊥) → NoLooked sectors text
not_text sectors text ranges device read other = record {
  none = λ looked is. other (is.is ∙ ap ranges_text (sym (own_ranges sectors text ranges looked device read is)));
}

pub no_sectors : (sectors : ℕ) (text : List ℕ) (ranges : List SectorRange) → sectors < 2 ^ 32 → ReadsRanges text ranges → NoSectors sectors ranges → NoLooked sectors text
no_sectors sectors text ranges device read other = record {
  none = λ looked is.
      let same = own_ranges sectors text ranges looked device read is in
      other.none looked (record {
        are = ap (list_all (is_range sectors)) same ∙ is.are;
        all = is.all ∙ ap (flat_map sectors_in) (sym same);
        once = is.once;
      });
}

pub are_looked : (sectors : ℕ) (text : List ℕ) (ranges : List SectorRange) (looked : List ℕ) → sectors < 2 ^ 32 → ReadsRanges text ranges → text ≡ ranges_text ranges → AreSectors sectors ranges looked
    → IsLookedOnly sectors text looked
are_looked sectors text ranges looked device read is are = record {
  is = record { ranges = ranges; are = are.are; is = is; all = are.all; once = are.once };
  only = λ others it.
      it.all ∙ ap (flat_map sectors_in) (sym (own_ranges sectors text ranges others device read it)) ∙ sym are.all;
}

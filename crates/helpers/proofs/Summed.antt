-- The bytes of a device, some after others, and those of one sector; the sectors at which a checksum looks.
use Rattle.std.proofs.Common.{ℕ, zero, suc, ◌≡◌, ◌+◌, ◌/◌, ◌%◌, ◌<◌, ◌≤◌, ◌==◌, ◌⊎◌, inl, inr, Bool, false, if◌then◌else◌, List, [], ◌∷◌, ◌++◌, length, map, take, drop, get_or, replicate, Option, None, Some, slice_get, slice_index, unwrap_or, ◌-◌, refl, sym, ap, ◌∙◌, subst, arith}
use Rattle.std.specs.Option.{option_map_or}
use Rattle.std.specs.List.{AllByRecursion, range_with_len}
use Rattle.std.proofs.lemmas.Bool.{cases_lt}
use Rattle.std.proofs.lemmas.Bool.Decides.{nat_tests}
use Rattle.std.proofs.lemmas.List.{map-append, take_more, get_or-drop, length-drop, get_or-replicate}
use Rattle.std.proofs.Math.ListN.{length-replicate}
use Rattle.base.proofs.Lists.{range_with_len-more, range_with_len-append}
use Rattle.checksums.specs.Checksum.{checksum}
use Rattle.checksums.proofs.Linear.{checksum_append}
use Rattle.helpers.specs.Answers.{device_byte, device_bytes}
use Rattle.helpers.specs.Footprint.{FootprintValue, footprint_after, on_device}
use Rattle.helpers.specs.Sums.{sector_or_zeros, summed_sectors}
use Rattle.helpers.proofs.CallerLemmas.{looked_both}

pub bytes_append : (device : List (List ℕ)) (position n m : ℕ) → device_bytes device position (n + m) ≡ device_bytes device position n ++ device_bytes device (position + n) m
unfolding device_bytes
bytes_append device position n m =
    ap (map (device_byte device)) (range_with_len-append position n m) ∙ map-append (device_byte device) (range_with_len position n) (range_with_len (position + n) m)

-- a byte of the device is one of its sector, or of zeros
in_sector : (found : Option (List ℕ)) (i : ℕ) → i < 512 → option_map_or (λ sector. slice_index sector i) found 0 ≡ get_or (unwrap_or found (replicate 512 0)) i 0
in_sector None i h = sym (get_or-replicate 512 i 0 0 h)
in_sector (Some sector) i h = refl

byte_is : (device : List (List ℕ)) (place i : ℕ) → place % 512 + i < 512 → device_byte device (place + i) ≡ get_or (sector_or_zeros device (place / 512)) (place % 512 + i) 0
unfolding device_byte
byte_is device place i h =
    let number : (place + i) / 512 ≡ place / 512 = omega arith in
    let start : (place + i) % 512 ≡ place % 512 + i = omega arith in
    rw (number, start) (in_sector (slice_get device (place / 512)) (place % 512 + i) h)

-- each has 512 bytes
whole_or_zeros : (device : List (List ℕ)) (n : ℕ) → ((k : ℕ) (s : List ℕ) → slice_get device k ≡ Some s → length s ≡ 512) → length (sector_or_zeros device n) ≡ 512
whole_or_zeros device n whole = by (slice_get device n) refl
  where
    by : (found : Option (List ℕ)) → slice_get device n ≡ found → length (unwrap_or found (replicate 512 0)) ≡ 512
    by None e = length-replicate {A = ℕ} 512 0
    by (Some s) e = whole n s e

bytes_of_sector : (device : List (List ℕ)) (place n : ℕ) → length (sector_or_zeros device (place / 512)) ≡ 512 → place % 512 + n ≤ 512
    → device_bytes device place n ≡ take n (drop (place % 512) (sector_or_zeros device (place / 512)))
unfolding device_bytes
bytes_of_sector device place zero whole h = refl
bytes_of_sector device place (suc n) whole h =
    let sector : List ℕ = sector_or_zeros device (place / 512) in
    let long : length (drop (place % 512) (sector_or_zeros device (place / 512))) ≡ length (sector_or_zeros device (place / 512)) - place % 512 = length-drop (place % 512) (sector_or_zeros device (place / 512)) in
    let one : n + 1 ≡ suc n = omega arith in
    ap (λ k. map (device_byte device) (range_with_len place k)) (sym one)
    ∙ ap (map (device_byte device)) (range_with_len-more place n) ∙ map-append (device_byte device) (range_with_len place n) ((place + n) ∷ [])
    ∙ two (bytes_of_sector device place n whole (omega arith)) (byte_is device place n (omega arith) ∙ sym (get_or-drop (place % 512) (sector_or_zeros device (place / 512)) n 0))
    ∙ sym (take_more (drop (place % 512) (sector_or_zeros device (place / 512))) n 0 (omega arith))
    ∙ ap (λ k. take k (drop (place % 512) (sector_or_zeros device (place / 512)))) one
  where
    two : {xs ys : List ℕ} {x y : ℕ} → xs ≡ ys → x ≡ y → xs ++ x ∷ [] ≡ ys ++ y ∷ []
    two h k = λ i. h i ++ k i ∷ []

pub part_is : (device : List (List ℕ)) (position distance number start n : ℕ) (sector bytes : List ℕ)
    → ((k : ℕ) (s : List ℕ) → slice_get device k ≡ Some s → length s ≡ 512)
    → number ≡ (position + distance) / 512 → start ≡ (position + distance) % 512 → start + n ≤ 512
    → sector ≡ sector_or_zeros device number → bytes ≡ take n (drop start sector) → bytes ≡ device_bytes device (position + distance) n
part_is device position distance number start n sector bytes whole e f h is b =
    b ∙ ap (λ s. take n (drop start s)) (is ∙ ap (sector_or_zeros device) e) ∙ ap (λ k. take n (drop k (sector_or_zeros device ((position + distance) / 512)))) f
    ∙ sym (bytes_of_sector device (position + distance) n (whole_or_zeros device ((position + distance) / 512) whole) (omega arith))

-- a checksum of some bytes of the device, and of those after them
pub summed_more : (p r sum : ℕ) (device : List (List ℕ)) (position n : ℕ) (bytes : List ℕ) → sum ≡ checksum p r (device_bytes device position n)
    → bytes ≡ device_bytes device (position + n) (length bytes) → checksum p sum bytes ≡ checksum p r (device_bytes device position (n + length bytes))
summed_more p r sum device position n bytes is b =
    ap (λ s. checksum p s bytes) is ∙ ap (checksum p (checksum p r (device_bytes device position n))) b
    ∙ sym (checksum_append p r (device_bytes device position n) (device_bytes device (position + n) (length bytes)))
    ∙ ap (checksum p r) (sym (bytes_append device position n (length bytes)))

pub none_summed : (p r : ℕ) (device : List (List ℕ)) (position : ℕ) → r ≡ checksum p r (device_bytes device position 0)
unfolding checksum device_bytes
none_summed p r device position = refl

-- the sectors at which it looks
pub looked_more : (f now next : FootprintValue) (device : List (List ℕ)) (first i : ℕ) → now ≡ footprint_after f (on_device device (range_with_len first i))
    → next ≡ footprint_after now (on_device device ((first + i) ∷ [])) → next ≡ footprint_after f (on_device device (range_with_len first (i + 1)))
looked_more f now next device first i is e =
    e ∙ ap (λ g. footprint_after g (on_device device ((first + i) ∷ []))) is ∙ looked_both device f (range_with_len first i) ((first + i) ∷ [])
    ∙ ap (λ numbers. footprint_after f (on_device device numbers)) (sym (range_with_len-more first i))

pub looks_at_none : (position n : ℕ) → n ≡ 0 → summed_sectors position n ≡ []
unfolding summed_sectors
looks_at_none position n none = rw none refl

pub looks_at_all : (position n : ℕ) → 0 < n → summed_sectors position n ≡ range_with_len (position / 512) ((position % 512 + n + 511) / 512)
unfolding summed_sectors
looks_at_all position n some =
    let e : (n == 0) ≡ false = grind (arith, nat_tests) in
    ap (λ (none : Bool). if none then [] else range_with_len (position / 512) ((position % 512 + n + 511) / 512)) e

-- what holds of a range holds of each number in it
ranged : (P : ℕ → Type 0) (first k q : ℕ) → AllByRecursion P (range_with_len first k) → first ≤ q → q < first + k → P q
ranged P first zero q each low high = absurd (omega (arith, low, high))
ranged P first (suc k) q each low high = by (cases_lt first q) (λ above. ranged P (first + 1) k q each.1 above (omega (arith, high)))
  where
    by : ((first < q) ⊎ (q ≤ first)) → (first + 1 ≤ q → P q) → P q
    by (inl above) rest = rest (omega (arith, above))
    by (inr at) rest = subst P (let e : first ≡ q = omega (arith, at, low) in e) each.0

bytes_alike : (a b : List (List ℕ)) (n p : ℕ) → ((i : ℕ) → p ≤ i → i < p + n → slice_get a (i / 512) ≡ slice_get b (i / 512))
    → map (device_byte a) (range_with_len p n) ≡ map (device_byte b) (range_with_len p n)
unfolding device_byte
bytes_alike a b zero p same = refl
bytes_alike a b (suc n) p same =
    both
    (ap (λ (x : Option (List ℕ)). option_map_or (λ (sector : List ℕ). slice_index sector (p % 512)) x 0) (same p (omega arith) (omega arith)))
    (bytes_alike a b n (p + 1) (λ i low high. same i (omega (arith, low)) (omega (arith, high))))
  where
    both : {x y : ℕ} {xs ys : List ℕ} → x ≡ y → xs ≡ ys → x ∷ xs ≡ y ∷ ys
    both h k = λ i. h i ∷ k i

-- devices that have these sectors in common have these bytes in common
pub summed_same : (a b : List (List ℕ)) (p n : ℕ) → AllByRecursion (λ k. slice_get a k ≡ slice_get b k) (summed_sectors p n) → device_bytes a p n ≡ device_bytes b p n
unfolding device_bytes
summed_same a b p zero same = refl
summed_same a b p (suc n) same =
    let each : AllByRecursion (λ k. slice_get a k ≡ slice_get b k) (range_with_len (p / 512) ((p % 512 + suc n + 511) / 512)) =
    subst (AllByRecursion (λ k. slice_get a k ≡ slice_get b k)) (looks_at_all p (suc n) (omega arith)) same in
    bytes_alike a b (suc n) p
    (λ i low high. ranged (λ q. slice_get a q ≡ slice_get b q) (p / 512) ((p % 512 + suc n + 511) / 512) (i / 512) each (omega (arith, low)) (omega (arith, low, high)))

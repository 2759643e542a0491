-- What a footprint keeps.
use Rattle.std.proofs.Common.{ℕ, ◌≡◌, ◌+◌, ◌-◌, ◌/◌, ◌^◌, ◌<◌, ◌≤◌, nat_lt, Bool, true, false, if◌then◌else◌, List, [], ◌∷◌, ◌++◌, length, Option, None, refl, sym, ap, ◌∙◌, arith}
use Rattle.std.proofs.lemmas.Bool.Decides.{nat_tests}
use Rattle.std.proofs.lemmas.List.Elements.{filter-append}
use Rattle.std.specs.Option.{option_and_then}
use Rattle.helpers.specs.Footprint.{FootprintValue, sectors_with, footprint_with, footprint_after, on_device, sectors_of}

-- the sectors of one run after those of another
pub noted_append : (f : FootprintValue) (xs ys : List ℕ) → footprint_after f (xs ++ ys) ≡ footprint_after (footprint_after f xs) ys
noted_append f [] ys = refl
noted_append f (x ∷ xs) ys = noted_append (footprint_with f x) xs ys

-- where each sector may be one, nothing more is kept
one_noted : (f : FootprintValue) (x : ℕ) → f.sectors ≡ None → footprint_with f x ≡ f
unfolding footprint_with
one_noted f x none =
    let e : option_and_then (λ (numbers : List ℕ). sectors_with f.room numbers x) f.sectors ≡ f.sectors =
    ap (λ (kept : Option (List ℕ)). option_and_then (λ (numbers : List ℕ). sectors_with f.room numbers x) kept) none ∙ sym none in
    λ i. record { room = f.room; sectors = e i }

pub nothing_noted : (f : FootprintValue) (xs : List ℕ) → f.sectors ≡ None → footprint_after f xs ≡ f
nothing_noted f [] none = refl
nothing_noted f (x ∷ xs) none =
    ap (λ (g : FootprintValue). footprint_after g xs) (one_noted f x none) ∙ nothing_noted f xs none

-- notes of some sectors, and then of others

filter_both : (device : List (List ℕ)) (xs ys : List ℕ) → on_device device (xs ++ ys) ≡ on_device device xs ++ on_device device ys
filter_both device xs ys = filter-append (λ n. nat_lt n (length device)) xs ys

pub looked_both : (device : List (List ℕ)) (f : FootprintValue) (xs ys : List ℕ)
    → footprint_after (footprint_after f (on_device device xs)) (on_device device ys) ≡ footprint_after f (on_device device (xs ++ ys))
looked_both device f xs ys =
    sym (noted_append f (on_device device xs) (on_device device ys)) ∙ ap (footprint_after f) (sym (filter_both device xs ys))

-- no device has a sector with a byte after position 2 ^ 64
pub nothing_over : (device : List (List ℕ)) (position count : ℕ) → length device < 2 ^ 32 → 2 ^ 64 ≤ position + count
    → on_device device (sectors_of position count) ≡ on_device device (position / 512 ∷ [])
nothing_over device position count few over =
    let past : nat_lt ((position + count - 1) / 512) (length device) ≡ false = grind (arith, nat_tests) in
    looked (nat_lt (position / 512) (length device)) past
  where
    looked : (first : Bool) → nat_lt ((position + count - 1) / 512) (length device) ≡ false
        → (if first then position / 512 ∷ (if nat_lt ((position + count - 1) / 512) (length device) then (position + count - 1) / 512 ∷ [] else []) else (if nat_lt ((position + count - 1) / 512) (length device) then (position + count - 1) / 512 ∷ [] else []))
        ≡ (if first then position / 512 ∷ [] else [])
    looked true past = rw past refl
    looked false past = rw past refl

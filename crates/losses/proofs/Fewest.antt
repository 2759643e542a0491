-- No fewer places have one in each window: each place ends a window of its own, after the place before it.
use Rattle.std.proofs.Common.{ℕ, zero, suc, ◌≡◌, ◌+◌, ◌<◌, ◌≤◌, nat_le, Bool, true, false, if◌then◌else◌, List, [], ◌∷◌, length, slice_get, slice_index_or, Some, None, arith, inl, inr}
use Rattle.std.proofs.lemmas.Bool.Decides.{leb_tells}
use Rattle.std.proofs.lemmas.Option.{slice_get_cases, slice_get_within, slice_get-get_or}
use Rattle.losses.specs.declared.flushes.window.Window.{Window}
use Rattle.losses.specs.Places.{AreWindows, ArePlaces, Covers}
use Rattle.losses.specs.WindowLaws.{PlacesAreFewest}
use Rattle.losses.proofs.Walked.{after_earlier}

-- how many of some numbers are at most m
abbrev count : ℕ → List ℕ → ℕ
count m [] = 0
count m (x ∷ xs) = (if nat_le x m then 1 else 0) + count m xs

few : (m : ℕ) (xs : List ℕ) → count m xs ≤ length xs
few m [] = omega arith
few m (x ∷ xs) =
    let rest = few m xs in
    let own : (b : Bool) → (if b then 1 else 0) ≤ 1 = λ b. elim b as (λ v. (if v then 1 else 0) ≤ 1) [ true ↦ omega arith | false ↦ omega arith ] in
    let one = own (nat_le x m) in
    omega (arith, rest, one)

-- more are at most a greater number
more : (a b : ℕ) (xs : List ℕ) → a ≤ b → count a xs ≤ count b xs
more a b [] order = omega arith
more a b (x ∷ xs) order =
    let rest = more a b xs order in
    elim (leb_tells x a) [
      | inl low ↦ elim (leb_tells x b) [
        | inl both ↦ rw (low.0, both.0) (omega (arith, rest))
        | inr above ↦ let one = low.1 in let two = above.1 in absurd (omega (arith, one, two, order))
      ]
      | inr high ↦ rw high.0 (omega (arith, rest))
    ]

-- and one more where one lies between
one_more : (a b q i : ℕ) (xs : List ℕ) → slice_get xs i ≡ Some q → a < q → q ≤ b → count a xs + 1 ≤ count b xs
one_more a b q i [] there low high = absurd (let bad : None ≡ Some q = there in cc)
one_more a b q zero (x ∷ xs) there low high =
    let same : x ≡ q = cc in
    let rest = more a b xs (omega (arith, low, high)) in
    elim (leb_tells x a) [
      | inl early ↦ let under = early.1 in absurd (omega (arith, under, same, low))
      | inr late ↦ elim (leb_tells x b) [
        | inl both ↦ rw (late.0, both.0) (omega (arith, rest))
        | inr above ↦ let two = above.1 in absurd (omega (arith, two, same, high))
      ]
    ]
one_more a b q (suc i) (x ∷ xs) there low high =
    let rest = one_more a b q i xs there low high in
    let order : a ≤ b = omega (arith, low, high) in
    elim (leb_tells x a) [
      | inl early ↦ elim (leb_tells x b) [
        | inl both ↦ rw (early.0, both.0) (omega (arith, rest))
        | inr above ↦ let one = early.1 in let two = above.1 in absurd (omega (arith, one, two, order))
      ]
      | inr late ↦ rw late.0 (omega (arith, rest))
    ]

-- of the places that have one in each window as many are at most place number i as there are places up to it
reached : (n : ℕ) (ws : List Window) (ps qs : List ℕ) (i p : ℕ) → AreWindows n ws → ArePlaces ws ps → Covers ws qs
    → slice_get ps i ≡ Some p → i + 1 ≤ count p qs
reached n ws ps qs zero p are so all here =
    let next = so.each 0 p here in
    let own = all next.number next.window next.there in
    let start = (are next.number next.window next.there).0 in
    let from = own.holds.from in
    let to = own.holds.to in
    let end = next.end in
    let none : count 0 qs + 1 ≤ count p qs = one_more 0 p own.place own.number qs own.there (omega (arith, start, from)) (omega (arith, to, end)) in
    omega (arith, none)
reached n ws ps qs (suc i) p are so all here =
    elim (slice_get_cases ps i).1 [
      | inl a ↦
          let before = reached n ws ps qs i a.0 are so all a.2 in
          let next = so.each (suc i) p here in
          let own = all next.number next.window next.there in
          let beyond = after_earlier n ws ps i (suc i) a.0 p are so (omega arith) a.2 here in
          let from = own.holds.from in
          let to = own.holds.to in
          let end = next.end in
          let more_now = one_more a.0 p own.place own.number qs own.there (omega (arith, beyond, from)) (omega (arith, to, end)) in
          omega (arith, before, more_now)
      | inr past ↦ let within = slice_get_within ps (suc i) p here in let end = past.0 in absurd (omega (arith, within, end))
    ]

pub places_are_fewest : PlacesAreFewest
places_are_fewest n ws [] qs are so all = omega arith
places_are_fewest n ws (x ∷ xs) qs are so all =
    let ps : List ℕ = x ∷ xs in
    let here = slice_get-get_or ps (length xs) 0 (omega arith) in
    let place : ℕ = slice_index_or ps (length xs) 0 in
    let last = reached n ws ps qs (length xs) place are so all here in
    let most = few place qs in
    omega (arith, last, most)

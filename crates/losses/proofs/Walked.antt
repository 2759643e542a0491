-- The walk along the table of starts: the places so far.
use Rattle.std.proofs.Common.{ℕ, zero, suc, ◌≡◌, ◌+◌, ◌<◌, ◌≤◌, List, [], ◌∷◌, ◌++◌, length, take, slice_get, Some, None, refl, ◌∙◌, ap, arith, inl, inr, Ok, Err, Result, Vec, Global, IfOk}
use Rattle.std.specs.declared.alloc.AllocError.{AllocError}
use Rattle.std.proofs.lemmas.List.{take-append-le, take_all}
use Rattle.std.proofs.lemmas.Bool.Decides.{leb_tells}
use Rattle.std.proofs.lemmas.Option.{slice_get_within, slice_get-get_or}
use Rattle.base.proofs.Lists.{slice_get_of_push, slice_get-push, slice_get-append_left}
use Rattle.std.specs.List.Sorted.{IsNonDecreasing}
use Rattle.losses.specs.declared.flushes.window.Window.{Window}
use Rattle.losses.specs.Places.{HoldsOne, HoldsNone, IsNext, AreWindows, AreStarts, ArePlaces}

-- the entries below e were walked along, and `last` is the last place, or 0
pub record Walked (ws : List Window) (e last : ℕ) (ps : List ℕ) : Type 0 where
  pub each : (i p : ℕ) → slice_get ps i ≡ Some p → IsNext ws (take i ps) p
  pub done : (i : ℕ) (w : Window) → slice_get ws i ≡ Some w → w.end < e → HoldsOne w ps
  pub low : (i p : ℕ) → slice_get ps i ≡ Some p → p ≤ last
  pub final : 1 ≤ last → (i : ℕ) × (slice_get ps i ≡ Some last) × (last < e)

pub start : (ws : List Window) → Walked ws 0 0 []
start ws = record {
  each = λ i p h. absurd (let bad : None ≡ Some p = h in cc);
  done = λ i w h less. absurd (omega (arith, less));
  low = λ i p h. absurd (let bad : None ≡ Some p = h in cc);
  final = λ some. absurd (omega (arith, some));
}

-- a window that holds none of the places ends no earlier
ends_late : (ws : List Window) (e last : ℕ) (ps : List ℕ) (i : ℕ) (w : Window) → Walked ws e last ps → slice_get ws i ≡ Some w → HoldsNone w ps → e ≤ w.end
ends_late ws e last ps i w so here none =
    elim (leb_tells e w.end) [
      | inl late ↦ late.1
      | inr early ↦ let one = so.done i w here early.1 in absurd (none one.number one.place one.there one.holds)
    ]

-- at an entry where a window ends that begins after the last place
pub next : (n e s last : ℕ) (ws : List Window) (starts ps : List ℕ) → AreWindows n ws → AreStarts n ws starts → slice_get starts e ≡ Some s
    → last < s → Walked ws e last ps → Walked ws (e + 1) e (ps ++ e ∷ [])
next n e s last ws starts ps are table here later so =
    let real = table.real e s here (omega (arith, later)) in
    let window : Window = real.1 in
    let end : window.end ≡ e = real.3 in
    let begins : window.start ≡ s = real.4 in
    let none : HoldsNone window ps = λ i p there holds. let low = so.low i p there in let from = holds.from in absurd (omega (arith, low, from, begins, later)) in
    let stays : (w : Window) → HoldsOne w ps → HoldsOne w (ps ++ e ∷ []) = λ w one. record {
      number = one.number;
      place = one.place;
      there = slice_get-append_left ps (e ∷ []) one.number (slice_get_within ps one.number one.place one.there) ∙ one.there;
      holds = one.holds;
    } in
    record {
      each = λ i p there. elim (slice_get_of_push ps e i p there) [
        | inl was ↦
            let within = slice_get_within ps i p was in
            rw (take-append-le i ps (e ∷ []) (omega (arith, within))) (so.each i p was)
        | inr last_one ↦
            let front : take i (ps ++ e ∷ []) ≡ ps = ap (λ k. take k (ps ++ e ∷ [])) last_one.0 ∙ take-append-le (length ps) ps (e ∷ []) (omega arith) ∙ take_all (length ps) ps (omega arith) in
            rw (front, last_one.1) (record {
              number = real.0;
              window = window;
              there = real.2;
              end = end;
              none = none;
              first = λ k w at holds_none. ends_late ws e last ps k w so at holds_none;
            })
      ];
      done = λ i w at below. elim (leb_tells e w.end) [
        | inl late ↦
            let is : w.end ≡ e = let lower = late.1 in omega (arith, lower, below) in
            let least = table.greatest i w s at (ap (slice_get starts) is ∙ here) in
            let order = (are i w at).1 in
            let from = (are real.0 window real.2).1 in
            record { number = length ps; place = e; there = slice_get-push ps e; holds = record { from = omega (arith, least, begins, end, from); to = omega (arith, is) } }
        | inr early ↦ stays w (so.done i w at early.1)
      ];
      low = λ i p there. elim (slice_get_of_push ps e i p there) [
        | inl was ↦ let low = so.low i p was in let from = (are real.0 window real.2).1 in omega (arith, low, later, begins, end, from)
        | inr last_one ↦ let is = last_one.1 in omega (arith, is)
      ];
      final = λ some. (length ps, slice_get-push ps e, omega arith);
    }

-- at an entry where each window that ends holds the last place
pub pass : (n e s last : ℕ) (ws : List Window) (starts ps : List ℕ) → AreWindows n ws → AreStarts n ws starts → slice_get starts e ≡ Some s
    → s ≤ last → Walked ws e last ps → Walked ws (e + 1) last ps
pass n e s last ws starts ps are table here before so = record {
  each = so.each;
  done = λ i w at below. elim (leb_tells e w.end) [
    | inl late ↦
        let is : w.end ≡ e = let lower = late.1 in omega (arith, lower, below) in
        let least = table.greatest i w s at (ap (slice_get starts) is ∙ here) in
        let one = (are i w at).0 in
        let place = so.final (omega (arith, one, least, before)) in
        let beyond = place.2 in
        record { number = place.0; place = last; there = place.1; holds = record { from = omega (arith, least, before); to = omega (arith, beyond, is) } }
    | inr early ↦ so.done i w at early.1
  ];
  low = so.low;
  final = λ some. let was = so.final some in (was.0, was.1, let beyond = was.2 in omega (arith, beyond));
}

-- after the last entry
pub whole : (n last : ℕ) (ws : List Window) (ps : List ℕ) → AreWindows n ws → Walked ws n last ps → ArePlaces ws ps
whole n last ws ps are so = record {
  each = so.each;
  all = λ i w at. so.done i w at (are i w at).2;
}

-- the window of a place begins after each earlier place
pub after_earlier : (n : ℕ) (ws : List Window) (ps : List ℕ) (i j p q : ℕ) → AreWindows n ws → (so : ArePlaces ws ps) → i < j
    → slice_get ps i ≡ Some p → (there : slice_get ps j ≡ Some q) → p < (so.each j q there).window.start
after_earlier n ws ps i j p q are so less here there =
    let nth = so.each i p here in
    let later = so.each j q there in
    let front : slice_get (take j ps) i ≡ Some p = slice_get-take ps j i less ∙ here in
    let earlier : HoldsNone later.window (take i ps) = λ k r at holds. later.none k r (shorter ps i j k r less at) holds in
    let least = nth.first later.number later.window later.there earlier in
    elim (leb_tells later.window.start p) [
      | inl inside ↦ absurd (later.none i p front (record { from = inside.1; to = least }))
      | inr before ↦ before.1
    ]
  where
    slice_get-take : (xs : List ℕ) (j i : ℕ) → i < j → slice_get (take j xs) i ≡ slice_get xs i
    slice_get-take [] zero i less = refl
    slice_get-take [] (suc j) i less = refl
    slice_get-take (x ∷ xs) zero i less = absurd (omega (arith, less))
    slice_get-take (x ∷ xs) (suc j) zero less = refl
    slice_get-take (x ∷ xs) (suc j) (suc i) less = slice_get-take xs j i (omega (arith, less))

    shorter : (xs : List ℕ) (i j k r : ℕ) → i < j → slice_get (take i xs) k ≡ Some r → slice_get (take j xs) k ≡ Some r
    shorter xs zero j k r less at = absurd (let bad : None ≡ Some r = at in cc)
    shorter [] (suc i) j k r less at = absurd (let bad : None ≡ Some r = at in cc)
    shorter (x ∷ xs) (suc i) zero k r less at = absurd (omega (arith, less))
    shorter (x ∷ xs) (suc i) (suc j) zero r less at = at
    shorter (x ∷ xs) (suc i) (suc j) (suc k) r less at = shorter xs i j k r (omega (arith, less)) at

-- places rise
pub rising : (n : ℕ) (ws : List Window) (ps : List ℕ) (i j p q : ℕ) → AreWindows n ws → ArePlaces ws ps → i < j
    → slice_get ps i ≡ Some p → slice_get ps j ≡ Some q → p < q
rising n ws ps i j p q are so less here there =
    let later = so.each j q there in
    let low = after_earlier n ws ps i j p q are so less here there in
    let order = (are later.number later.window later.there).1 in
    let end = later.end in
    omega (arith, low, order, end)

pub in_order : (n : ℕ) (ws : List Window) (ps : List ℕ) → AreWindows n ws → ArePlaces ws ps → IsNonDecreasing ps
in_order n ws ps are so = λ i j d less within.
    let early : i < length ps = omega (arith, less, within) in
    let here = slice_get-get_or ps i d early in
    let there = slice_get-get_or ps j d within in
    elim (leb_tells (suc i) j) [
      | inl apart ↦ let rise = rising n ws ps i j _ _ are so apart.1 here there in omega (arith, rise)
      | inr near ↦ let same : i ≡ j = let below = near.1 in omega (arith, below, less) in rw same (omega arith)
    ]

pub ordered : (n : ℕ) (ws : List Window) (made : Result (Vec ℕ Global) AllocError) → AreWindows n ws → IfOk made (λ places. ArePlaces ws places.items)
    → IfOk made (λ places. IsNonDecreasing places.items)
ordered n ws (Ok places) are so = in_order n ws places.items are so
ordered n ws (Err e) are so = so

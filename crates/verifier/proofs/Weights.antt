-- Each round that changes a table raises its sum, which stays below 2^96.
use Rattle.std.proofs.Common.{◌≡◌, ◌<◌, ◌≤◌, ◌^◌, ◌+◌, ◌-◌, ◌*◌, ℕ, suc, not, Bool, true, false, IsTrue, ℤ, pos, negsuc, ◌-ℤ◌, ◌≤ℤ◌, List, [], ◌∷◌, length, Option, Some, None, refl, ap, arith}
use Rattle.std.proofs.lemmas.Int.{ints}
use Rattle.intervals.specs.Spans.{Span, Within}
use Rattle.intervals.specs.Reducing.{Limits, LimitsWithin, IsLimits}
use Rattle.ranges.specs.Kinds.{Kind, Unset, Word, Num, Ctx, Stack, Sector, SectorOrNull, is_unknown}
use Rattle.ranges.specs.Groups.{GroupKind, Marked, Spilled}
use Rattle.ranges.specs.States.{Abstract}
use Rattle.ranges.specs.Order.{Under, MarksUnder, GroupUnder, EachUnder, StateUnder, IsBounded, IsGroup, Each, IsState, Holds, EdgeUnder}
use Rattle.verifier.specs.Tables.{state_at, AreStates}
use Rattle.verifier.specs.Measure.{total, span_length, natural, signed_length, width, byte_width, group_width, state_width, slot_width, weight}

-- ranges

natural_is : (z : ℤ) → pos 0 ≤ℤ z → pos (natural z) ≡ z
natural_is (pos n) h = refl
natural_is (negsuc n) h = absurd (omega (arith, ints, h))

lengths : (a b c d : ℤ) (m n : ℕ) → pos m ≡ b -ℤ a → pos n ≡ d -ℤ c → c ≤ℤ a → b ≤ℤ d → (m ≤ n) × (m ≡ n → (a ≡ c) × (b ≡ d))
lengths a b c d m n e f p q = (omega (arith, ints, e, f, p, q), λ same. (omega (arith, ints, e, f, p, q, same), omega (arith, ints, e, f, p, q, same)))

small_length : (a b : ℤ) (m : ℕ) → pos m ≡ b -ℤ a → (pos 0 -ℤ pos (2 ^ 63)) ≤ℤ a → b ≤ℤ pos (2 ^ 63 - 1) → m < 2 ^ 64
small_length a b m e p q = omega (arith, ints, e, p, q)

span_weighs : (x y : Span) → x.low ≤ x.high → Within x y → (span_length x ≤ span_length y) × (span_length x ≡ span_length y → x ≡ y)
span_weighs x y o w =
    let a = w.from in let b = w.upto in (
      omega (arith, o, a, b),
      λ e.
          let low : x.low ≡ y.low = omega (arith, o, a, b, e) in
          let high : x.high ≡ y.high = omega (arith, o, a, b, e) in
          λ i. record { low = low i; high = high i },
    )

limits_weigh : (x y : Limits) → IsLimits x → IsLimits y → LimitsWithin x y
    → (span_length x.unsigned + signed_length x.signed ≤ span_length y.unsigned + signed_length y.signed)
    × (span_length x.unsigned + signed_length x.signed ≡ span_length y.unsigned + signed_length y.signed → x ≡ y)
limits_weigh x y h g w =
    let hx = h.readings.ordered in let gy = g.readings.ordered in
    let first = natural_is (x.signed.high -ℤ x.signed.low) (omega (arith, ints, hx)) in
    let other = natural_is (y.signed.high -ℤ y.signed.low) (omega (arith, ints, gy)) in
    let words = span_weighs x.unsigned y.unsigned h.words.ordered w.unsigned in
    let readings = lengths x.signed.low x.signed.high y.signed.low y.signed.high (signed_length x.signed) (signed_length y.signed) first other w.signed.from w.signed.upto in
    let a = words.0 in let b = readings.0 in (
      omega (arith, a, b),
      λ e.
          let same_words : span_length x.unsigned ≡ span_length y.unsigned = omega (arith, a, b, e) in
          let same_readings : signed_length x.signed ≡ signed_length y.signed = omega (arith, a, b, e) in
          let unsigned : x.unsigned ≡ y.unsigned = words.1 same_words in
          let low : x.signed.low ≡ y.signed.low = (readings.1 same_readings).0 in
          let high : x.signed.high ≡ y.signed.high = (readings.1 same_readings).1 in
          λ i. record { unsigned = unsigned i; signed = record { low = low i; high = high i } },
    )

-- values

number_width : (x : Limits) → IsLimits x → span_length x.unsigned + signed_length x.signed < 2 ^ 66
number_width x h =
    let o = h.readings.ordered in let l = h.readings.low_fits in let u = h.readings.high_fits in
    let is = natural_is (x.signed.high -ℤ x.signed.low) (omega (arith, ints, o)) in
    let small : signed_length x.signed < 2 ^ 64 = small_length x.signed.low x.signed.high (signed_length x.signed) is (omega (arith, ints, l)) (omega (arith, ints, u)) in
    let most = h.words.most in
    omega (arith, small, most)

known_width : (k : Kind) → IsBounded k → IsTrue (not (is_unknown k)) → width k < 2 ^ 66
unfolding width
known_width Unset h t = absurd (let bad : false ≡ true = t in cc)
known_width Word h t = absurd (let bad : false ≡ true = t in cc)
known_width (Num x) h t = number_width x h
known_width (Ctx o) h t = omega arith
known_width (Stack o) h t = omega arith
known_width (Sector x) h t = let most = h.most in omega (arith, most)
known_width SectorOrNull h t = omega arith

width_most : (k : Kind) → IsBounded k → width k ≤ 2 ^ 67
unfolding width
width_most Unset h = omega arith
width_most Word h = omega arith
width_most (Num x) h = let small = number_width x h in omega (arith, small)
width_most (Ctx o) h = omega arith
width_most (Stack o) h = omega arith
width_most (Sector x) h = let most = h.most in omega (arith, most)
width_most SectorOrNull h = omega arith

kind_weighs : (k l : Kind) → IsBounded k → IsBounded l → Under k l → (width k ≤ width l) × (width k ≡ width l → k ≡ l)
unfolding width
kind_weighs Unset Unset h g u = (omega arith, λ e. refl)
kind_weighs Word Word h g u = (omega arith, λ e. refl)
kind_weighs Word Unset h g u = (omega arith, λ e. absurd (omega (arith, e)))
kind_weighs Unset Word h g u = absurd u
kind_weighs (Num x) Word h g u = let small = number_width x h in (omega (arith, small), λ e. absurd (omega (arith, small, e)))
kind_weighs (Ctx a) Word h g u = (omega arith, λ e. absurd (omega (arith, e)))
kind_weighs (Stack a) Word h g u = (omega arith, λ e. absurd (omega (arith, e)))
kind_weighs (Sector x) Word h g u = let most = h.most in (omega (arith, most), λ e. absurd (omega (arith, most, e)))
kind_weighs SectorOrNull Word h g u = (omega arith, λ e. absurd (omega (arith, e)))
kind_weighs (Num x) (Num y) h g u = let both = limits_weigh x y h g u in (both.0, λ e. ap (λ z. Num z) (both.1 e))
kind_weighs (Ctx a) (Ctx b) h g u = (omega arith, λ e. ap (λ z. Ctx z) u)
kind_weighs (Stack a) (Stack b) h g u = (omega arith, λ e. ap (λ z. Stack z) u)
kind_weighs (Sector x) (Sector y) h g u = let both = span_weighs x y h.ordered u in (both.0, λ e. ap (λ z. Sector z) (both.1 e))
kind_weighs SectorOrNull SectorOrNull h g u = (omega arith, λ e. refl)
kind_weighs (Num x) Unset h g u = let small = number_width x h in (omega (arith, small), λ e. absurd (omega (arith, small, e)))
kind_weighs (Ctx a) Unset h g u = (omega arith, λ e. absurd (omega (arith, e)))
kind_weighs (Stack a) Unset h g u = (omega arith, λ e. absurd (omega (arith, e)))
kind_weighs (Sector x) Unset h g u = let most = h.most in (omega (arith, most), λ e. absurd (omega (arith, most, e)))
kind_weighs SectorOrNull Unset h g u = (omega arith, λ e. absurd (omega (arith, e)))
kind_weighs k l h g u = absurd u

-- lists, place by place

each_weighs : {X : Type 0} (R : X → X → Type 0) (P : X → Type 0) (f : X → ℕ) → ((x y : X) → P x → P y → R x y → (f x ≤ f y) × (f x ≡ f y → x ≡ y))
    → (xs ys : List X) → Each P xs → Each P ys → EachUnder R xs ys → (total f xs ≤ total f ys) × (total f xs ≡ total f ys → xs ≡ ys)
each_weighs R P f w [] [] a b u = (omega arith, λ e. refl)
each_weighs R P f w [] (y ∷ ys) a b u = absurd u
each_weighs R P f w (x ∷ xs) [] a b u = absurd u
each_weighs R P f w (x ∷ xs) (y ∷ ys) a b u =
    let here = w x y a.0 b.0 u.0 in
    let rest = each_weighs R P f w xs ys a.1 b.1 u.1 in
    let p = here.0 in let q = rest.0 in (
      omega (arith, p, q),
      λ e.
          let one : f x ≡ f y = omega (arith, p, q, e) in
          let others : total f xs ≡ total f ys = omega (arith, p, q, e) in
          rw (here.1 one, rest.1 others) refl,
    )

each_most : {X : Type 0} (P : X → Type 0) (f : X → ℕ) (m : ℕ) → ((x : X) → P x → f x ≤ m) → (xs : List X) → Each P xs → total f xs ≤ length xs * m
each_most P f m h [] a = omega arith
each_most P f m h (x ∷ xs) a =
    let here = h x a.0 in
    let rest = each_most P f m h xs a.1 in
    grind (arith, here, rest)

-- groups

mark_weighs : (x y : Bool) → (IsTrue y → IsTrue x) → (byte_width x ≤ byte_width y) × (byte_width x ≡ byte_width y → x ≡ y)
mark_weighs true true u = (omega arith, λ e. refl)
mark_weighs true false u = (omega arith, λ e. absurd (omega (arith, e)))
mark_weighs false true u = absurd (let bad : false ≡ true = u refl in cc)
mark_weighs false false u = (omega arith, λ e. refl)

marks_weigh : (xs ys : List Bool) → MarksUnder xs ys → (total byte_width xs ≤ total byte_width ys) × (total byte_width xs ≡ total byte_width ys → xs ≡ ys)
marks_weigh [] [] u = (omega arith, λ e. refl)
marks_weigh [] (y ∷ ys) u = absurd u
marks_weigh (x ∷ xs) [] u = absurd u
marks_weigh (x ∷ xs) (y ∷ ys) u =
    let here = mark_weighs x y u.0 in
    let rest = marks_weigh xs ys u.1 in
    let p = here.0 in let q = rest.0 in (
      omega (arith, p, q),
      λ e.
          let one : byte_width x ≡ byte_width y = omega (arith, p, q, e) in
          let others : total byte_width xs ≡ total byte_width ys = omega (arith, p, q, e) in
          rw (here.1 one, rest.1 others) refl,
    )

byte_least : (b : Bool) → 2 ^ 66 ≤ byte_width b
byte_least true = omega arith
byte_least false = omega arith

byte_most : (b : Bool) → byte_width b ≤ 2 ^ 67
byte_most true = omega arith
byte_most false = omega arith

marks_least : (xs : List Bool) → length xs * 2 ^ 66 ≤ total byte_width xs
marks_least [] = omega arith
marks_least (x ∷ xs) = let here = byte_least x in let rest = marks_least xs in omega (arith, here, rest)

marks_most : (xs : List Bool) → total byte_width xs ≤ length xs * 2 ^ 67
marks_most [] = omega arith
marks_most (x ∷ xs) = let here = byte_most x in let rest = marks_most xs in omega (arith, here, rest)

eight_least : (xs : List Bool) → length xs ≡ 8 → 8 * 2 ^ 66 ≤ total byte_width xs
eight_least xs e = let least : length xs * 2 ^ 66 ≤ total byte_width xs = marks_least xs in rw e at least

eight_most : (xs : List Bool) → length xs ≡ 8 → total byte_width xs ≤ 8 * 2 ^ 67
eight_most xs e = let most : total byte_width xs ≤ length xs * 2 ^ 67 = marks_most xs in rw e at most

group_most : (g : GroupKind) → IsGroup g → group_width g ≤ 8 * 2 ^ 67
unfolding group_width
group_most (Marked xs) h = eight_most xs h
group_most (Spilled k) h = let most = width_most k h.1 in omega (arith, most)

group_weighs : (g h : GroupKind) → IsGroup g → IsGroup h → GroupUnder g h → (group_width g ≤ group_width h) × (group_width g ≡ group_width h → g ≡ h)
unfolding group_width
group_weighs (Marked xs) (Marked ys) a b u = let both = marks_weigh xs ys u in (both.0, λ e. ap (λ z. Marked z) (both.1 e))
group_weighs (Marked xs) (Spilled l) a b u = absurd u
group_weighs (Spilled k) (Marked ys) a b u =
    let small = known_width k a.1 a.0 in
    let least = eight_least ys b in
    (omega (arith, small, least), λ e. absurd (omega (arith, small, least, e)))
group_weighs (Spilled k) (Spilled l) a b u =
    let both = kind_weighs k l a.1 b.1 u in
    let p = both.0 in
    (omega (arith, p), λ e. let same : width k ≡ width l = omega (arith, e) in ap (λ z. Spilled z) (both.1 same))

-- states and tables

state_weighs : (s t : Abstract) → IsState s → IsState t → StateUnder s t → (state_width s ≤ state_width t) × (state_width s ≡ state_width t → s ≡ t)
unfolding state_width
state_weighs s t a b u =
    let values = each_weighs Under IsBounded width kind_weighs s.values t.values a.values b.values u.values in
    let groups = each_weighs GroupUnder IsGroup group_width group_weighs s.groups t.groups a.groups b.groups u.groups in
    let p = values.0 in let q = groups.0 in (
      omega (arith, p, q),
      λ e.
          let one : total width s.values ≡ total width t.values = omega (arith, p, q, e) in
          let other : total group_width s.groups ≡ total group_width t.groups = omega (arith, p, q, e) in
          let same_values : s.values ≡ t.values = values.1 one in
          let same_groups : s.groups ≡ t.groups = groups.1 other in
          λ i. record { values = same_values i; groups = same_groups i },
    )

state_some : (s : Abstract) → 0 < state_width s
unfolding state_width
state_some s = omega arith

state_most : (s : Abstract) → IsState s → state_width s ≤ 2 ^ 78
unfolding state_width
state_most s a =
    let values : total width s.values ≤ length s.values * 2 ^ 67 = each_most IsBounded width (2 ^ 67) width_most s.values a.values in
    let groups : total group_width s.groups ≤ length s.groups * (8 * 2 ^ 67) = each_most IsGroup group_width (8 * 2 ^ 67) group_most s.groups a.groups in
    let few : total width s.values ≤ 11 * 2 ^ 67 = rw a.registers at values in
    let some : total group_width s.groups ≤ 64 * (8 * 2 ^ 67) = rw a.stack at groups in
    omega (arith, few, some)

slot_weighs : (m n : Option Abstract) → Holds IsState m → Holds IsState n → EdgeUnder m n → (slot_width m ≤ slot_width n) × (slot_width m ≡ slot_width n → m ≡ n)
slot_weighs None None a b u = (omega arith, λ e. refl)
slot_weighs None (Some t) a b u = let some = state_some t in (omega arith, λ e. absurd (omega (arith, some, e)))
slot_weighs (Some s) None a b u = absurd u
slot_weighs (Some s) (Some t) a b u = let both = state_weighs s t a b u in (both.0, λ e. ap (λ z. Some z) (both.1 e))

slot_most : (m : Option Abstract) → Holds IsState m → slot_width m ≤ 2 ^ 78
slot_most None h = omega arith
slot_most (Some s) h = state_most s h

pub table_weighs : (t u : List (Option Abstract)) → length t ≡ length u → AreStates t → AreStates u → ((slot : ℕ) → EdgeUnder (state_at t slot) (state_at u slot))
    → (weight t ≤ weight u) × (weight t ≡ weight u → t ≡ u)
unfolding weight
table_weighs [] [] e a b h = (omega arith, λ f. refl)
table_weighs [] (y ∷ ys) e a b h = absurd (let bad : 0 ≡ suc (length ys) = e in cc)
table_weighs (x ∷ xs) [] e a b h = absurd (let bad : suc (length xs) ≡ 0 = e in cc)
table_weighs (x ∷ xs) (y ∷ ys) e a b h =
    let here = slot_weighs x y (a 0) (b 0) (h 0) in
    let rest = table_weighs xs ys (omega (arith, e)) (λ slot. a (suc slot)) (λ slot. b (suc slot)) (λ slot. h (suc slot)) in
    let p = here.0 in let q = rest.0 in (
      omega (arith, p, q),
      λ f.
          let one : slot_width x ≡ slot_width y = omega (arith, p, q, f) in
          let others : total slot_width xs ≡ total slot_width ys = omega (arith, p, q, f) in
          rw (here.1 one, rest.1 others) refl,
    )

table_most : (t : List (Option Abstract)) → AreStates t → weight t ≤ length t * 2 ^ 78
unfolding weight
table_most [] a = omega arith
table_most (x ∷ xs) a =
    let here = slot_most x (a 0) in
    let rest = table_most xs (λ slot. a (suc slot)) in
    omega (arith, here, rest)

pub table_below : (t : List (Option Abstract)) → AreStates t → length t ≤ 4096 → weight t < 2 ^ 96
table_below t a few = let most : weight t ≤ length t * 2 ^ 78 = table_most t a in omega (arith, most, few)

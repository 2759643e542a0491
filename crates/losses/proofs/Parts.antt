-- Parts of choices: a part of a rising list is got by leaving numbers out.
use Rattle.std.proofs.Common.{ℕ, zero, suc, ◌≡◌, ◌<◌, ◌≤◌, ◌⊎◌, List, [], ◌∷◌, length, slice_get, None, Some, refl, sym, ◌∙◌, ap, subst, inl, inr, arith}
use Rattle.std.proofs.lemmas.Bool.{cases_lt}
use Rattle.losses.specs.FirstParts.{IsPartOf, AreRising, DiffersBelow, Precedes, AreChoices, IsPart}
use Rattle.losses.specs.FirstPartLaws.{GroupIsSmallest}

-- the second without some of its numbers is the first
abbrev pub Leaves : List ℕ → List ℕ → Type 0
Leaves [] ms = Unit {0}
Leaves (n ∷ ns) [] = ⊥
Leaves (n ∷ ns) (m ∷ ms) = ((n ≡ m) × Leaves ns ms) ⊎ Leaves (n ∷ ns) ms

-- a list without its first number rises too
later_rises : (n : ℕ) (ns : List ℕ) → AreRising (n ∷ ns) → AreRising ns
later_rises n ns h i j a b lt at_i at_j = h (suc i) (suc j) a b (omega (arith, lt)) at_i at_j

-- a number after the head is above it
above_head : (n : ℕ) (ns : List ℕ) → AreRising (n ∷ ns) → (i a : ℕ) → slice_get ns i ≡ Some a → n < a
above_head n ns h i a at = h 0 (suc i) n a (omega arith) refl at

-- what isn't the head stands after it
beyond : (m : ℕ) (ms : List ℕ) (j n : ℕ) → m < n → slice_get (m ∷ ms) j ≡ Some n → (k : ℕ) × (slice_get ms k ≡ Some n)
beyond m ms zero n lt at = absurd (let same : Some m ≡ Some n = at in let e : m ≡ n = cc in omega (arith, e, lt))
beyond m ms (suc j) n lt at = (j, at)

-- the numbers of a part whose first stands after the head stand after it too
all_after : (n : ℕ) (ns : List ℕ) (m : ℕ) (ms : List ℕ) → AreRising (n ∷ ns) → m < n → IsPartOf (n ∷ ns) (m ∷ ms) → IsPartOf (n ∷ ns) ms
all_after n ns m ms rn low h zero a at_i =
    let same : Some n ≡ Some a = at_i in
    let e : n ≡ a = cc in
    beyond m ms (h 0 a at_i).0 a (subst (λ x. m < x) e low) (h 0 a at_i).1
all_after n ns m ms rn low h (suc i) a at_i = beyond m ms (h (suc i) a at_i).0 a (let up = above_head n ns rn i a at_i in omega (arith, low, up)) (h (suc i) a at_i).1

-- and so do all but the first of a part whose first is the head
rest_after : (n : ℕ) (ns : List ℕ) (m : ℕ) (ms : List ℕ) → AreRising (n ∷ ns) → n ≡ m → IsPartOf (n ∷ ns) (m ∷ ms) → IsPartOf ns ms
rest_after n ns m ms rn e h i a at_i = beyond m ms (h (suc i) a at_i).0 a (subst (λ x. x < a) e (above_head n ns rn i a at_i)) (h (suc i) a at_i).1

left_step : (n : ℕ) (ns : List ℕ) (m : ℕ) (ms : List ℕ) → AreRising (n ∷ ns) → AreRising (m ∷ ms) → IsPartOf (n ∷ ns) (m ∷ ms)
    → ((ks : List ℕ) → AreRising ks → IsPartOf ks ms → Leaves ks ms) → (j : ℕ) → slice_get (m ∷ ms) j ≡ Some n → Leaves (n ∷ ns) (m ∷ ms)
left_step n ns m ms rn rm h inner zero at =
    let same : Some m ≡ Some n = at in
    let e : n ≡ m = cc in
    inl (e, inner ns (later_rises n ns rn) (rest_after n ns m ms rn e h))
left_step n ns m ms rn rm h inner (suc j) at = inr (inner (n ∷ ns) rn (all_after n ns m ms rn (above_head m ms rm j n at) h))

pub left_out : (ms ns : List ℕ) → AreRising ns → AreRising ms → IsPartOf ns ms → Leaves ns ms
left_out ms [] rn rm h = tt
left_out [] (n ∷ ns) rn rm h = absurd (let bad : None ≡ Some n = (h 0 n refl).1 in cc)
left_out (m ∷ ms) (n ∷ ns) rn rm h =
    left_step n ns m ms rn rm h (λ ks rk hk. left_out ms ks rk (later_rises m ms rm) hk) (h 0 n refl).0 (h 0 n refl).1

-- so a part is no longer, and of the same length only the whole
pub no_longer : (ns ms : List ℕ) → Leaves ns ms → length ns ≤ length ms
no_longer [] ms h = omega arith
no_longer (n ∷ ns) [] h = absurd h
no_longer (n ∷ ns) (m ∷ ms) (inl h) = let le = no_longer ns ms h.1 in omega (arith, le)
no_longer (n ∷ ns) (m ∷ ms) (inr h) = let le = no_longer (n ∷ ns) ms h in omega (arith, le)

pub as_long_is_same : (ns ms : List ℕ) → Leaves ns ms → length ns ≡ length ms → ns ≡ ms
as_long_is_same [] [] h e = refl
as_long_is_same [] (m ∷ ms) h e = absurd (omega (arith, e))
as_long_is_same (n ∷ ns) [] h e = absurd h
as_long_is_same (n ∷ ns) (m ∷ ms) (inl h) e =
    let rest : ns ≡ ms = as_long_is_same ns ms h.1 (omega (arith, e)) in
    ap (λ x. x ∷ ns) h.0 ∙ ap (λ xs. m ∷ xs) rest
as_long_is_same (n ∷ ns) (m ∷ ms) (inr h) e = absurd (let le = no_longer (n ∷ ns) ms h in omega (arith, le, e))

-- nothing precedes itself
differs_once : (ns : List ℕ) → DiffersBelow ns ns → ⊥
differs_once [] h = h
differs_once (n ∷ ns) (inl lt) = omega (arith, lt)
differs_once (n ∷ ns) (inr h) = differs_once ns h.1

-- what a choice precedes is no part of it
pub not_after : (ns ms : List ℕ) → AreRising ns → AreRising ms → IsPartOf ns ms → Precedes ms ns → ⊥
not_after ns ms rn rm h (inl lt) = let le = no_longer ns ms (left_out ms ns rn rm h) in omega (arith, le, lt)
not_after ns ms rn rm h (inr p) =
    let same : ns ≡ ms = as_long_is_same ns ms (left_out ms ns rn rm h) (sym p.0) in
    differs_once ns (subst (λ xs. DiffersBelow xs ns) (sym same) p.1)

-- a part of a part is a part
pub part_of_part : (cs : List (List ℕ)) (h g i : ℕ) → IsPart cs h g → IsPart cs g i → IsPart cs h i
part_of_part cs h g i a b =
    let there : Some a.whole ≡ Some b.part = sym a.whole_there ∙ b.part_there in
    let same : a.whole ≡ b.part = cc in
    record {
      part = a.part;
      part_there = a.part_there;
      whole = b.whole;
      whole_there = b.whole_there;
      within = λ k n at. let mid = a.within k n at in b.within mid.0 n (ap (λ xs. slice_get xs mid.0) (sym same) ∙ mid.1);
    }

-- a part doesn't stand after the whole
pub part_is_before : (cs : List (List ℕ)) (g i : ℕ) → AreChoices cs → IsPart cs g i → g ≤ i
part_is_before cs g i are is =
    elim (cases_lt i g) [
      | inr le ↦ le
      | inl lt ↦ absurd (not_after is.part is.whole (are.rising g is.part is.part_there) (are.rising i is.whole is.whole_there) is.within
          (are.ordered i g is.whole is.part lt is.whole_there is.part_there))
    ]

pub group_is_smallest : GroupIsSmallest
group_is_smallest cs i g are is =
    record {
      is_part = is.is_part;
      smallest = λ h part. let le = part_is_before cs h g are part in let ge = is.first h (part_of_part cs h g i part is.is_part) in omega (arith, le, ge);
      first = λ h part smallest. is.first h part;
    }

-- what leaves numbers out is a part
pub leaves_part : (ns ms : List ℕ) → Leaves ns ms → IsPartOf ns ms
leaves_part [] ms h i n at = absurd (let bad : None ≡ Some n = at in cc)
leaves_part (a ∷ ns) [] h i n at = absurd h
leaves_part (a ∷ ns) (m ∷ ms) (inl h) zero n at = let same : Some a ≡ Some n = at in (0, ap (λ x. Some x) (sym h.0) ∙ same)
leaves_part (a ∷ ns) (m ∷ ms) (inl h) (suc i) n at = let there = leaves_part ns ms h.1 i n at in (suc there.0, there.1)
leaves_part (a ∷ ns) (m ∷ ms) (inr h) i n at = let there = leaves_part (a ∷ ns) ms h i n at in (suc there.0, there.1)

pub part_of_itself : (ns : List ℕ) → IsPartOf ns ns
part_of_itself ns i n at = (i, at)

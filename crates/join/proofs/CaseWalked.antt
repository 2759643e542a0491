-- Of two lists of parts that rise, each part of the one is found where the walk over the other stands.
use Rattle.std.proofs.Common.{ℕ, zero, suc, ◌≡◌, ◌+◌, ◌<◌, ◌≤◌, ◌⊎◌, inl, inr, ◌&&◌, ◌||◌, ◌==◌, not, nat_lt, Bool, true, false, if◌then◌else◌, List, [], ◌∷◌, length, drop, get_or, map, Option, None, Some, refl, sym, subst, ap, ◌∙◌, arith}
use Rattle.std.proofs.lemmas.Bool.Decides.{nat_tests}
use Rattle.std.specs.List.{list_all}
use mathlib.Core.List.{map-id}
use Rattle.choices.specs.declared.fate.Fate.{Fate}
use Rattle.choices.specs.declared.name.Name.{Name}
use Rattle.join.specs.declared.case_parts.names.PartName.{PartName}
use Rattle.join.specs.CaseTexts.{MixedPart, part_of, parts_of, mixed_parts, is_before, is_named_alike, is_apart, parts_rise, stands_in, fate_in, begins_as}
use Rattle.join.specs.CaseWalks.{from_part, begins_with, first_fate, is_first_of}
use Rattle.join.proofs.CaseJudged.{drop_here, drop_none, found_first}
use Rattle.join.proofs.CaseLasts.{and_both}

-- THE ORDER OF PARTS

abbrev Before : PartName → PartName → Type 0
Before p q = (p.entry < q.entry) ⊎ ((p.entry ≡ q.entry) × (p.place < q.place))

is_so : (p q : PartName) → is_before p q ≡ true → Before p q
is_so p q is = by_entry (nat_lt p.entry q.entry) refl
  where
    by_entry : (t : Bool) → nat_lt p.entry q.entry ≡ t → Before p q
    by_entry true e = inl (grind (arith, nat_tests, e))
    by_entry false e =
        let rest : ((p.entry == q.entry) && nat_lt p.place q.place) ≡ true = ap (λ (t : Bool). t || ((p.entry == q.entry) && nat_lt p.place q.place)) (sym e) ∙ is in
        let both = and_both (p.entry == q.entry) (nat_lt p.place q.place) rest in
        let same = both.0 in
        let less = both.1 in
        inr (grind (arith, nat_tests, same), grind (arith, nat_tests, less))

or_true : (a : Bool) → (a || true) ≡ true
or_true true = refl
or_true false = refl

so_is : (p q : PartName) → Before p q → is_before p q ≡ true
so_is p q (inl less) = let e : nat_lt p.entry q.entry ≡ true = grind (arith, nat_tests, less) in ap (λ (t : Bool). t || ((p.entry == q.entry) && nat_lt p.place q.place)) e
so_is p q (inr (same, less)) =
    let e : (p.entry == q.entry) ≡ true = grind (arith, nat_tests, same) in
    let f : nat_lt p.place q.place ≡ true = grind (arith, nat_tests, less) in
    ap (λ (t : Bool). nat_lt p.entry q.entry || (t && nat_lt p.place q.place)) e ∙ ap (λ (t : Bool). nat_lt p.entry q.entry || t) f ∙ or_true (nat_lt p.entry q.entry)

beyond_both : (p q r : PartName) → Before p q → Before q r → Before p r
beyond_both p q r (inl a) (inl b) = inl (omega (arith, a, b))
beyond_both p q r (inl a) (inr (e, b)) = inl (omega (arith, a, e))
beyond_both p q r (inr (e, a)) (inl b) = inl (omega (arith, e, b))
beyond_both p q r (inr (e, a)) (inr (f, b)) = inr (omega (arith, e, f), omega (arith, a, b))

on_from : (p q r : PartName) → is_before p q ≡ true → is_before q r ≡ true → is_before p r ≡ true
on_from p q r a b = so_is p r (beyond_both p q r (is_so p q a) (is_so q r b))

-- a part isn't before one that another isn't before, which it follows
still_not : (q x k : PartName) → is_before q k ≡ false → is_before q x ≡ true → is_before x k ≡ false
still_not q x k not_yet after = by_test (is_before x k) refl
  where
    by_test : (t : Bool) → is_before x k ≡ t → t ≡ false
    by_test true e = let bad : true ≡ false = sym (on_from q x k after e) ∙ not_yet in bad
    by_test false e = refl

alike_is : (k q : PartName) → is_named_alike k q ≡ true → (k.entry ≡ q.entry) × (k.place ≡ q.place)
alike_is k q e =
    let both = and_both (k.entry == q.entry) (k.place == q.place) e in
    let a = both.0 in
    let b = both.1 in
    (grind (arith, nat_tests, a), grind (arith, nat_tests, b))

-- a part that is before another has another name
other_before : (q k : PartName) → is_before q k ≡ true → is_named_alike k q ≡ false
other_before q k before = by_test (is_named_alike k q) refl
  where
    apart : Before q k → (k.entry ≡ q.entry) × (k.place ≡ q.place) → ⊥
    apart (inl a) (e, f) = absurd (omega (arith, a, e))
    apart (inr (d, a)) (e, f) = absurd (omega (arith, a, f))

    by_test : (t : Bool) → is_named_alike k q ≡ t → t ≡ false
    by_test true e = absurd (apart (is_so q k before) (alike_is k q e))
    by_test false e = refl

-- and so has one that follows a part which isn't before it
other_after : (q x k : PartName) → is_before q k ≡ false → is_before q x ≡ true → is_named_alike k x ≡ false
other_after q x k not_yet after = by_test (is_named_alike k x) refl
  where
    moved : Before q x → (k.entry ≡ x.entry) × (k.place ≡ x.place) → Before q k
    moved (inl a) (e, f) = inl (omega (arith, a, e))
    moved (inr (d, a)) (e, f) = inr (omega (arith, d, e), omega (arith, a, f))

    by_test : (t : Bool) → is_named_alike k x ≡ t → t ≡ false
    by_test true e = let bad : true ≡ false = sym (so_is q k (moved (is_so q x after) (alike_is k x e))) ∙ not_yet in bad
    by_test false e = refl

-- PARTS THAT RISE

-- they do without what comes before
freed : (last : PartName) (ps : List PartName) → parts_rise (Some last) ps ≡ true → parts_rise None ps ≡ true
freed last [] e = refl
freed last (p ∷ ps) e = (and_both (is_before last p) (parts_rise (Some p) ps) e).1

pub rise_from : {A : Type 0} (part : A → PartName) (xs : List A) (k : PartName) → parts_rise None (map part xs) ≡ true → parts_rise None (map part (from_part part k xs)) ≡ true
rise_from part [] k e = refl
rise_from {A} part (x ∷ xs) k e = by_test (is_before (part x) k) (rise_from part xs k (freed (part x) (map part xs) e))
  where
    by_test : (t : Bool) → parts_rise None (map part (from_part part k xs)) ≡ true → parts_rise None (map part (if t then from_part part k xs else x ∷ xs)) ≡ true
    by_test true rest = rest
    by_test false rest = e

-- what is the same of all parts after one is the same of what follows it
each_above : {B : Type 0} (part : B → PartName) (f g : B → Bool) (k : PartName) (xs : List B) → parts_rise (Some k) (map part xs) ≡ true → ((x : B) → is_before k (part x) ≡ true → f x ≡ g x) → list_all f xs ≡ list_all g xs
each_above part f g k [] rise same = refl
each_above {B} part f g k (x ∷ xs) rise same =
    let both = and_both (is_before k (part x)) (parts_rise (Some (part x)) (map part xs)) rise in
    let rest = each_above part f g (part x) xs both.1 (λ y after. same y (on_from k (part x) (part y) both.0 after)) in
    ap (λ (t : Bool). t && list_all f xs) (same x both.0) ∙ ap (λ (t : Bool). g x && t) rest

-- WHERE A PART STANDS

-- among what rises above one that isn't before it there is none
none_above : (last k : PartName) (ps : List PartName) → parts_rise (Some last) ps ≡ true → is_before last k ≡ false → stands_in ps k ≡ false
none_above last k [] rise not_yet = refl
none_above last k (p ∷ ps) rise not_yet =
    let both = and_both (is_before last p) (parts_rise (Some p) ps) rise in
    ap (λ (t : Bool). t || stands_in ps k) (other_after last p k not_yet both.0) ∙ none_above p k ps both.1 (still_not last p k not_yet both.0)

here_or : (a b : Bool) → b ≡ false → (a || b) ≡ a
here_or true b e = refl
here_or false b e = e

-- it stands where the walk stops
pub stands_here : (ps : List PartName) (k : PartName) → parts_rise None ps ≡ true → stands_in ps k ≡ begins_with (from_part (λ (p : PartName). p) k ps) k
stands_here [] k rise = refl
stands_here (p ∷ ps) k rise = by_test (is_before p k) refl (stands_here ps k (freed p ps rise))
  where
    left : Bool → List PartName
    left t = if t then from_part (λ (q : PartName). q) k ps else p ∷ ps

    by_test : (t : Bool) → is_before p k ≡ t → stands_in ps k ≡ begins_with (from_part (λ (q : PartName). q) k ps) k → (is_named_alike k p || stands_in ps k) ≡ begins_with (left t) k
    by_test true e rest = ap (λ (b : Bool). b || stands_in ps k) (other_before p k e) ∙ rest
    by_test false e rest = here_or (is_named_alike k p) (stands_in ps k) (none_above p k ps rise e)

-- a later one stands in what is left
pub stands_later : (ps : List PartName) (k j : PartName) → is_before k j ≡ true → stands_in ps j ≡ stands_in (from_part (λ (p : PartName). p) k ps) j
stands_later [] k j after = refl
stands_later (p ∷ ps) k j after = by_test (is_before p k) refl (stands_later ps k j after)
  where
    left : Bool → List PartName
    left t = if t then from_part (λ (q : PartName). q) k ps else p ∷ ps

    by_test : (t : Bool) → is_before p k ≡ t → stands_in ps j ≡ stands_in (from_part (λ (q : PartName). q) k ps) j → stands_in (p ∷ ps) j ≡ stands_in (left t) j
    by_test true e rest = ap (λ (b : Bool). b || stands_in ps j) (other_before p j (on_from p k j e after)) ∙ rest
    by_test false e rest = refl

-- WHAT BECOMES OF A PART

fate_none : (last k : PartName) (ns : List Name) → parts_rise (Some last) (parts_of ns) ≡ true → is_before last k ≡ false → fate_in ns k ≡ None
fate_none last k [] rise not_yet = refl
fate_none last k (n ∷ ns) rise not_yet =
    let both = and_both (is_before last (part_of n)) (parts_rise (Some (part_of n)) (parts_of ns)) rise in
    found_first n ns k false (other_after last (part_of n) k not_yet both.0) ∙ fate_none (part_of n) k ns both.1 (still_not last (part_of n) k not_yet both.0)

pub fate_here : (ns : List Name) (k : PartName) → parts_rise None (parts_of ns) ≡ true → fate_in ns k ≡ first_fate (from_part part_of k ns) k
fate_here [] k rise = refl
fate_here (n ∷ ns) k rise = by_test (is_before (part_of n) k) refl (fate_here ns k (freed (part_of n) (parts_of ns) rise))
  where
    left : Bool → List Name
    left t = if t then from_part part_of k ns else n ∷ ns

    by_name : (b : Bool) → is_named_alike k (part_of n) ≡ b → fate_in ns k ≡ None → fate_in (n ∷ ns) k ≡ (if b then Some n.fate else None)
    by_name true e none = found_first n ns k true e
    by_name false e none = found_first n ns k false e ∙ none

    by_test : (t : Bool) → is_before (part_of n) k ≡ t → fate_in ns k ≡ first_fate (from_part part_of k ns) k → fate_in (n ∷ ns) k ≡ first_fate (left t) k
    by_test true e rest = found_first n ns k false (other_before (part_of n) k e) ∙ rest
    by_test false e rest = by_name (is_named_alike k (part_of n)) refl (fate_none (part_of n) k ns rise e)

pub fate_later : (ns : List Name) (k j : PartName) → is_before k j ≡ true → fate_in ns j ≡ fate_in (from_part part_of k ns) j
fate_later [] k j after = refl
fate_later (n ∷ ns) k j after = by_test (is_before (part_of n) k) refl (fate_later ns k j after)
  where
    left : Bool → List Name
    left t = if t then from_part part_of k ns else n ∷ ns

    by_test : (t : Bool) → is_before (part_of n) k ≡ t → fate_in ns j ≡ fate_in (from_part part_of k ns) j → fate_in (n ∷ ns) j ≡ fate_in (left t) j
    by_test true e rest = found_first n ns j false (other_before (part_of n) j (on_from (part_of n) k j e after)) ∙ rest
    by_test false e rest = refl

-- NO PART OF THE ONE LIST IS AMONG THE OTHER

abbrev pub lacks_part : List PartName → PartName → Bool
lacks_part ps p = not (stands_in ps p)

pub record NoneUpTo (parts kept left : List PartName) (i : ℕ) : Type 0 where
  pub rise : parts_rise None left ≡ true
  pub after : parts_rise None (drop i kept) ≡ true
  pub rest : list_all (lacks_part parts) kept ≡ list_all (lacks_part left) (drop i kept)

pub none_begun : (parts kept : List PartName) → parts_rise None parts ≡ true → parts_rise None kept ≡ true → NoneUpTo parts kept parts 0
none_begun parts kept a b = record { rise = a; after = b; rest = refl }

-- an element as a loop has it
pub own_place : (ps : List PartName) (i : ℕ) (d : PartName) → i < length ps → get_or ps i d ≡ get_or ps i (get_or ps i d)
own_place [] i d small = absurd (omega (arith, small))
own_place (p ∷ ps) zero d small = refl
own_place (p ∷ ps) (suc i) d small = same ps i d (get_or ps i d) (omega (arith, small))
  where
    same : (qs : List PartName) (j : ℕ) (a b : PartName) → j < length qs → get_or qs j a ≡ get_or qs j b
    same [] j a b small = absurd (omega (arith, small))
    same (q ∷ qs) zero a b small = refl
    same (q ∷ qs) (suc j) a b small = same qs j a b (omega (arith, small))

-- what is left of them, by the next one
record IsNextPart (kept : List PartName) (i : ℕ) (k : PartName) : Type 0 where
  is : drop i kept ≡ k ∷ drop (i + 1) kept

next_part : (kept : List PartName) (i : ℕ) (k : PartName) → i < length kept → k ≡ get_or kept i k → IsNextPart kept i k
next_part kept i k small is = record { is = drop_here kept i k small ∙ ap (λ (p : PartName). p ∷ drop (i + 1) kept) (sym is) }

here_lacks : (parts kept left now : List PartName) (i : ℕ) (k : PartName) → NoneUpTo parts kept left i → i < length kept → k ≡ get_or kept i k → now ≡ from_part (λ (p : PartName). p) k left
    → list_all (lacks_part parts) kept ≡ (not (begins_with now k) && list_all (lacks_part left) (drop (i + 1) kept))
here_lacks parts kept left now i k h small is walked =
    let next = next_part kept i k small is in
    let own : stands_in left k ≡ begins_with now k = stands_here left k h.rise ∙ ap (λ (ps : List PartName). begins_with ps k) (sym walked) in
    h.rest ∙ ap (λ (ps : List PartName). list_all (lacks_part left) ps) next.is ∙ ap (λ (t : Bool). not t && list_all (lacks_part left) (drop (i + 1) kept)) own

pub none_on : (parts kept left now : List PartName) (i : ℕ) (k : PartName) → NoneUpTo parts kept left i → i < length kept → k ≡ get_or kept i k → now ≡ from_part (λ (p : PartName). p) k left → begins_with now k ≡ false
    → NoneUpTo parts kept now (i + 1)
none_on parts kept left now i k h small is walked lacking =
    let next = next_part kept i k small is in
    let above : parts_rise (Some k) (drop (i + 1) kept) ≡ true = subst (λ (ps : List PartName). parts_rise None ps ≡ true) next.is h.after in
    let as_map : parts_rise (Some k) (map (λ (p : PartName). p) (drop (i + 1) kept)) ≡ true = ap (λ (ps : List PartName). parts_rise (Some k) ps) (map-id (drop (i + 1) kept)) ∙ above in
    let rises : parts_rise None (from_part (λ (p : PartName). p) k left) ≡ true =
    ap (λ (ps : List PartName). parts_rise None ps) (sym (map-id (from_part (λ (p : PartName). p) k left)))
    ∙ rise_from (λ (p : PartName). p) left k (ap (λ (ps : List PartName). parts_rise None ps) (map-id left) ∙ h.rise) in
    let same : list_all (lacks_part left) (drop (i + 1) kept) ≡ list_all (lacks_part now) (drop (i + 1) kept) =
    each_above (λ (p : PartName). p) (lacks_part left) (lacks_part now) k (drop (i + 1) kept) as_map
    (λ j after. ap not (stands_later left k j after ∙ ap (λ (ps : List PartName). stands_in ps j) (sym walked))) in
    record {
      rise = ap (λ (ps : List PartName). parts_rise None ps) walked ∙ rises;
      after = freed k (drop (i + 1) kept) above;
      rest =
          here_lacks parts kept left now i k h small is walked ∙ ap (λ (t : Bool). not t && list_all (lacks_part left) (drop (i + 1) kept)) lacking ∙ same;
    }

pub one_met : (parts kept left now : List PartName) (i : ℕ) (k : PartName) → NoneUpTo parts kept left i → i < length kept → k ≡ get_or kept i k → now ≡ from_part (λ (p : PartName). p) k left → begins_with now k ≡ true
    → list_all (lacks_part parts) kept ≡ false
one_met parts kept left now i k h small is walked met = here_lacks parts kept left now i k h small is walked ∙ ap (λ (t : Bool). not t && list_all (lacks_part left) (drop (i + 1) kept)) met

pub none_met : (parts kept left : List PartName) (i : ℕ) → NoneUpTo parts kept left i → length kept ≤ i → list_all (lacks_part parts) kept ≡ true
none_met parts kept left i h long = h.rest ∙ ap (λ (ps : List PartName). list_all (lacks_part left) ps) (drop_none kept i long)

-- neither of two lists has one
pub both_lack : (lost mixed kept : List PartName) → (list_all (lacks_part lost) kept && list_all (lacks_part mixed) kept) ≡ list_all (is_apart lost mixed) kept
both_lack lost mixed [] = refl
both_lack lost mixed (p ∷ ps) = shuffled (lacks_part lost p) (lacks_part mixed p) (list_all (lacks_part lost) ps) (list_all (lacks_part mixed) ps) ∙ ap (λ (t : Bool). is_apart lost mixed p && t) (both_lack lost mixed ps)
  where
    shuffled : (a b c d : Bool) → ((a && c) && (b && d)) ≡ ((a && b) && (c && d))
    shuffled true true c d = refl
    shuffled true false true d = refl
    shuffled true false false d = refl
    shuffled false b c d = refl

-- THE REPRESENTATIVE HAS THE FIRST FATE OF EACH MIXED PART

pub record BeginUpTo (lost left : List Name) (mixed : List MixedPart) (i : ℕ) : Type 0 where
  pub rise : parts_rise None (parts_of left) ≡ true
  pub after : parts_rise None (mixed_parts (drop i mixed)) ≡ true
  pub rest : list_all (begins_as lost) mixed ≡ list_all (begins_as left) (drop i mixed)

pub begin_begun : (lost : List Name) (mixed : List MixedPart) → parts_rise None (parts_of lost) ≡ true → parts_rise None (mixed_parts mixed) ≡ true → BeginUpTo lost lost mixed 0
begin_begun lost mixed a b = record { rise = a; after = b; rest = refl }

mapped : {A : Type 0} (f : A → MixedPart) (xs : List A) (i : ℕ) (x : A) → i < length xs → x ≡ get_or xs i x → f x ≡ get_or (map f xs) i (f x)
mapped f [] i x small is = absurd (omega (arith, small))
mapped f (y ∷ ys) zero x small is = ap f is
mapped {A} f (y ∷ ys) (suc i) x small is = mapped f ys i x (omega (arith, small)) is

mapped_long : {A : Type 0} (f : A → MixedPart) (xs : List A) → length (map f xs) ≡ length xs
mapped_long f [] = refl
mapped_long f (x ∷ xs) = ap suc (mapped_long f xs)

next_mixed : {A : Type 0} (f : A → MixedPart) (xs : List A) (i : ℕ) (x : A) → i < length xs → x ≡ get_or xs i x → drop i (map f xs) ≡ f x ∷ drop (i + 1) (map f xs)
next_mixed f xs i x small is =
    let long = mapped_long f xs in
    drop_here (map f xs) i (f x) (omega (arith, small, long)) ∙ ap (λ (m : MixedPart). m ∷ drop (i + 1) (map f xs)) (sym (mapped f xs i x small is))

here_begins : {A : Type 0} (f : A → MixedPart) (lost left now : List Name) (xs : List A) (i : ℕ) (x : A) → BeginUpTo lost left (map f xs) i → i < length xs → x ≡ get_or xs i x → now ≡ from_part part_of (f x).part left
    → list_all (begins_as lost) (map f xs) ≡ (is_first_of (first_fate now (f x).part) (f x) && list_all (begins_as left) (drop (i + 1) (map f xs)))
here_begins f lost left now xs i x h small is walked =
    let own : fate_in left (f x).part ≡ first_fate now (f x).part = fate_here left (f x).part h.rise ∙ ap (λ (ns : List Name). first_fate ns (f x).part) (sym walked) in
    h.rest ∙ ap (λ (ms : List MixedPart). list_all (begins_as left) ms) (next_mixed f xs i x small is)
    ∙ ap (λ (g : Option Fate). is_first_of g (f x) && list_all (begins_as left) (drop (i + 1) (map f xs))) own

pub begin_on : {A : Type 0} (f : A → MixedPart) (lost left now : List Name) (xs : List A) (i : ℕ) (x : A) → BeginUpTo lost left (map f xs) i → i < length xs → x ≡ get_or xs i x → now ≡ from_part part_of (f x).part left
    → is_first_of (first_fate now (f x).part) (f x) ≡ true → BeginUpTo lost now (map f xs) (i + 1)
begin_on f lost left now xs i x h small is walked begins =
    let k = (f x).part in
    let above : parts_rise (Some (f x).part) (mixed_parts (drop (i + 1) (map f xs))) ≡ true = subst (λ (ms : List MixedPart). parts_rise None (mixed_parts ms) ≡ true) (next_mixed f xs i x small is) h.after in
    let same : list_all (begins_as left) (drop (i + 1) (map f xs)) ≡ list_all (begins_as now) (drop (i + 1) (map f xs)) =
    each_above (λ (m : MixedPart). m.part) (begins_as left) (begins_as now) (f x).part (drop (i + 1) (map f xs)) above
    (λ m after. ap (λ (g : Option Fate). is_first_of g m) (fate_later left (f x).part m.part after ∙ ap (λ (ns : List Name). fate_in ns m.part) (sym walked))) in
    record {
      rise = ap (λ (ns : List Name). parts_rise None (parts_of ns)) walked ∙ rise_from part_of left (f x).part h.rise;
      after = freed (f x).part (mixed_parts (drop (i + 1) (map f xs))) above;
      rest =
          here_begins f lost left now xs i x h small is walked ∙ ap (λ (t : Bool). t && list_all (begins_as left) (drop (i + 1) (map f xs))) begins ∙ same;
    }

pub other_begins : {A : Type 0} (f : A → MixedPart) (lost left now : List Name) (xs : List A) (i : ℕ) (x : A) → BeginUpTo lost left (map f xs) i → i < length xs → x ≡ get_or xs i x → now ≡ from_part part_of (f x).part left
    → is_first_of (first_fate now (f x).part) (f x) ≡ false → list_all (begins_as lost) (map f xs) ≡ false
other_begins f lost left now xs i x h small is walked other =
    here_begins f lost left now xs i x h small is walked ∙ ap (λ (t : Bool). t && list_all (begins_as left) (drop (i + 1) (map f xs))) other

pub all_begin : {A : Type 0} (f : A → MixedPart) (lost left : List Name) (xs : List A) (i : ℕ) → BeginUpTo lost left (map f xs) i → length xs ≤ i → list_all (begins_as lost) (map f xs) ≡ true
all_begin f lost left xs i h long =
    let own = mapped_long f xs in
    h.rest ∙ ap (λ (ms : List MixedPart). list_all (begins_as left) ms) (drop_none (map f xs) i (omega (arith, own, long)))

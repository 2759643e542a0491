-- The units that cover a sector, one after the other, from the last before a cut down.
use Rattle.std.proofs.Common.{ℕ, zero, suc, ◌≡◌, ◌+◌, ◌-◌, ◌<◌, ◌≤◌, ◌==◌, nat_lt, nat_le, Bool, true, false, ◌||◌, if◌then◌else◌, List, [], ◌∷◌, ◌++◌, map, filter, reverse, slice_get, Option, None, Some, refl, sym, ◌∙◌, ap, arith, inl, inr}
use Rattle.std.specs.List.{range_with_len}
use Rattle.std.proofs.lemmas.Bool.Decides.{eqb_tells, nat_tests}
use Rattle.std.proofs.lemmas.Bool.{eq-eqb, ne_eqb}
use Rattle.std.proofs.lemmas.List.{reverse-append, append-nil}
use Rattle.std.proofs.lemmas.List.Elements.{filter-append}
use Rattle.std.proofs.lemmas.Option.{same_Some}
use Rattle.logfmt.specs.declared.entry.Entry.{Entry}
use Rattle.logfmt.specs.Bounds.{LogValue, IsLog}
use Rattle.epochs.specs.declared.unit.Unit.{Unit as LogUnit}
use Rattle.epochs.specs.Units.{unit_of, units_of_entry, units_before}
use Rattle.epochs.proofs.Growth.{units_before-next}
use Rattle.images.specs.Table.{covering}
use Rattle.cases.specs.Rows.{row}
use Rattle.cases.specs.Table.{unit_over, IsNext}
use Rattle.cases.proofs.Numbered.{kept_mapped}

-- one number of a range alone passes a test
none_kept : (p : ℕ → Bool) (a n : ℕ) → ((i : ℕ) → a ≤ i → i < a + n → p i ≡ false) → filter p (range_with_len a n) ≡ []
none_kept p a zero none = refl
none_kept p a (suc n) none =
    ap (λ b. if b then a ∷ filter p (range_with_len (a + 1) n) else filter p (range_with_len (a + 1) n)) (none a (omega arith) (omega arith))
    ∙ none_kept p (a + 1) n (λ i low high. none i (omega (arith, low)) (omega (arith, high)))

one_kept : (p : ℕ → Bool) (a n t : ℕ) → a ≤ t → t < a + n → p t ≡ true → ((i : ℕ) → (i == t) ≡ false → p i ≡ false) → filter p (range_with_len a n) ≡ t ∷ []
one_kept p a zero t low high is none = absurd (omega (arith, low, high))
one_kept p a (suc n) t low high is none = elim (eqb_tells a t) [
  | inl same ↦
      let here : p a ≡ true = ap p same.1 ∙ is in
      let e = same.1 in
      ap (λ b. if b then a ∷ filter p (range_with_len (a + 1) n) else filter p (range_with_len (a + 1) n)) here
      ∙ ap (λ xs. a ∷ xs) (none_kept p (a + 1) n (λ i from to. none i (ne_eqb i t (λ hit. omega (arith, hit, from, e)))))
      ∙ ap (λ x. x ∷ []) same.1
  | inr other ↦
      let apart = other.1 in
      ap (λ b. if b then a ∷ filter p (range_with_len (a + 1) n) else filter p (range_with_len (a + 1) n)) (none a other.0)
      ∙ one_kept p (a + 1) n t (omega (arith, low, apart)) (omega (arith, high)) is none
]

-- what is there as a list
abbrev as_list : Option LogUnit → List LogUnit
as_list None = []
as_list (Some u) = u ∷ []

-- the units of an entry that cover a sector: one, or none
over_entry : (e : ℕ) (x : Entry) (s : ℕ) → filter (λ (u : LogUnit). u.sector == s) (units_of_entry e x) ≡ as_list (unit_over e x s)
over_entry e x s = kept_mapped (unit_of e x) (λ (u : LogUnit). u.sector == s) (range_with_len 0 x.count) ∙ by_place (nat_lt s x.sector) (nat_le x.count (s - x.sector)) refl refl
  where
    p : ℕ → Bool
    p j = x.sector + j == s

    by_place : (a b : Bool) → nat_lt s x.sector ≡ a → nat_le x.count (s - x.sector) ≡ b
        → map (unit_of e x) (filter (λ j. x.sector + j == s) (range_with_len 0 x.count))
        ≡ as_list (if a || b then None else Some (record { entry = e; place = s - x.sector; sector = s }))
    by_place true b low high =
        let less : s < x.sector = grind (arith, nat_tests, low) in
        ap (map (unit_of e x)) (none_kept (λ j. x.sector + j == s) 0 x.count (λ i from to. ne_eqb (x.sector + i) s (λ hit. omega (arith, hit, less))))
    by_place false true low high =
        let more : x.sector ≤ s = grind (arith, nat_tests, low) in
        let past : x.count ≤ s - x.sector = grind (arith, nat_tests, high) in
        ap (map (unit_of e x)) (none_kept (λ j. x.sector + j == s) 0 x.count (λ i from to. ne_eqb (x.sector + i) s (λ hit. omega (arith, hit, more, past, to))))
    by_place false false low high =
        let more : x.sector ≤ s = grind (arith, nat_tests, low) in
        let inside : s - x.sector < x.count = grind (arith, nat_tests, high) in
        let hit : x.sector + (s - x.sector) ≡ s = omega (arith, more) in
        ap (map (unit_of e x))
        (one_kept (λ j. x.sector + j == s) 0 x.count (s - x.sector) (omega arith) (omega (arith, inside)) (eq-eqb (x.sector + (s - x.sector)) s hit)
        (λ i apart. ne_eqb (x.sector + i) s (λ is. let off : (i == s - x.sector) ≡ true = eq-eqb i (s - x.sector) (omega (arith, is, more)) in let bad : true ≡ false = sym off ∙ apart in cc)))
        ∙ (λ i. (record { entry = e; place = s - x.sector; sector = hit i }) ∷ [])

kept_reversed : {A : Type 0} (p : A → Bool) (xs : List A) → filter p (reverse xs) ≡ reverse (filter p xs)
kept_reversed p [] = refl
kept_reversed p (x ∷ xs) =
    ap (filter p) (Rattle.std.proofs.lemmas.Grind.reverse_onto xs x [])
    ∙ filter-append p (reverse xs) (x ∷ [])
    ∙ ap (λ ys. ys ++ filter p (x ∷ [])) (kept_reversed p xs)
    ∙ by_test (p x)
  where
    by_test : (b : Bool) → reverse (filter p xs) ++ (if b then x ∷ [] else []) ≡ reverse (if b then x ∷ filter p xs else filter p xs)
    by_test true = sym (Rattle.std.proofs.lemmas.Grind.reverse_onto (filter p xs) x [])
    by_test false = append-nil (reverse (filter p xs))

-- an entry that covers a sector has the last unit of its row, and what is below it is the row of the cut before that entry
row_grown : (es : List Entry) (e s : ℕ) (x : Entry) → slice_get es e ≡ Some x → row es (suc e) s ≡ as_list (unit_over e x s) ++ row es e s
unfolding covering
row_grown es e s x there =
    let p : LogUnit → Bool = λ u. u.sector == s in
    ap (λ us. filter p (reverse us)) (units_before-next es e x there)
    ∙ ap (filter p) (reverse-append (units_before es e) (units_of_entry e x))
    ∙ filter-append p (reverse (units_of_entry e x)) (reverse (units_before es e))
    ∙ ap (λ us. us ++ filter p (reverse (units_before es e))) (kept_reversed p (units_of_entry e x) ∙ ap (λ (us : List LogUnit). reverse us) (over_entry e x s) ∙ turned (unit_over e x s))
  where
    turned : (o : Option LogUnit) → reverse (as_list o) ≡ as_list o
    turned None = refl
    turned (Some u) = refl

pub row_none : (es : List Entry) (e s : ℕ) (x : Entry) → slice_get es e ≡ Some x → unit_over e x s ≡ None → row es (suc e) s ≡ row es e s
row_none es e s x there none = row_grown es e s x there ∙ ap (λ o. as_list o ++ row es e s) none

pub row_one : (es : List Entry) (e s : ℕ) (x : Entry) (u : LogUnit) → slice_get es e ≡ Some x → unit_over e x s ≡ Some u → row es (suc e) s ≡ u ∷ row es e s
row_one es e s x u there some = row_grown es e s x there ∙ ap (λ o. as_list o ++ row es e s) some

-- what a unit over a sector says of its entry
pub record IsOver (e : ℕ) (x : Entry) (s : ℕ) (u : LogUnit) : Type 0 where
  pub low : x.sector ≤ s
  pub high : s - x.sector < x.count
  pub is : ◌≡◌ {A = LogUnit} (record { entry = e; place = s - x.sector; sector = s }) u

pub over_is : (e : ℕ) (x : Entry) (s : ℕ) (u : LogUnit) → unit_over e x s ≡ Some u → IsOver e x s u
over_is e x s u some = by_tests (nat_lt s x.sector) (nat_le x.count (s - x.sector)) refl refl some
  where
    by_tests : (a b : Bool) → nat_lt s x.sector ≡ a → nat_le x.count (s - x.sector) ≡ b
        → ◌≡◌ {A = Option LogUnit} (if a || b then None else Some (record { entry = e; place = s - x.sector; sector = s })) (Some u) → IsOver e x s u
    by_tests true b low high is = absurd (let bad : ◌≡◌ {A = Option LogUnit} None (Some u) = is in cc)
    by_tests false true low high is = absurd (let bad : ◌≡◌ {A = Option LogUnit} None (Some u) = is in cc)
    by_tests false false low high is = record {
      low = grind (arith, nat_tests, low);
      high = grind (arith, nat_tests, high);
      is = same_Some _ u is;
    }

-- from a cut down to the last unit that covers a sector

pub over_none : (es : List Entry) (n m s : ℕ) (x : Entry) → 0 < n → m ≡ n - 1 → slice_get es m ≡ Some x → unit_over m x s ≡ None → row es n s ≡ row es m s
over_none es n m s x some is there none =
    let same : n ≡ suc m = omega (arith, some, is) in
    ap (λ j. row es j s) same ∙ row_none es m s x there none

pub over_found : (log : LogValue) (k n m s : ℕ) (x : Entry) (u : LogUnit) → IsLog log → n ≤ k → 0 < n → m ≡ n - 1 → slice_get log.entries m ≡ Some x
    → row log.entries k s ≡ row log.entries n s → unit_over m x s ≡ Some u → IsNext log k s u
over_found log k n m s x u bounds le some is there so over =
    let same : n ≡ suc m = omega (arith, some, is) in
    let at = over_is m x s u over in
    let entry : m ≡ u.entry = ap (λ (v : LogUnit). v.entry) at.is in
    let place : s - x.sector ≡ u.place = ap (λ (v : LogUnit). v.place) at.is in
    let sector : s ≡ u.sector = ap (λ (v : LogUnit). v.sector) at.is in
    let low = at.low in
    let high = at.high in
    let on = (bounds.entries m x there).device (omega (arith, high)) in
    record {
      unit = record {
        entry = x;
        there = ap (slice_get log.entries) (sym entry) ∙ there;
        place = omega (arith, high, place);
        sector = omega (arith, low, place, sector);
        device = omega (arith, on, low, high, sector);
      };
      before = omega (arith, le, some, is, entry);
      over = sym sector;
      rest = so ∙ ap (λ j. row log.entries j s) same ∙ row_one log.entries m s x u there over ∙ ap (λ j. u ∷ row log.entries j s) entry;
    }

pub row_of_none : (es : List Entry) (n s : ℕ) → n ≡ 0 → row es n s ≡ []
unfolding covering
row_of_none es n s none = ap (λ j. row es j s) none

-- The parts at risk at a cut: they rise by entry, and then by place, and each is one of a run.
use Rattle.std.proofs.Common.{ℕ, zero, suc, ◌≡◌, ◌+◌, ◌*◌, ◌<◌, ◌≤◌, ◌^◌, ◌⊎◌, ◌==◌, ◌&&◌, ◌||◌, nat_lt, Bool, true, false, if◌then◌else◌, List, [], ◌∷◌, ◌++◌, length, map, filter, take, slice_get, Option, None, Some, refl, sym, subst, ◌∙◌, ap, arith, inl, inr}
use Rattle.std.specs.List.{range_with_len}
use Rattle.std.proofs.lemmas.Bool.Decides.{nat_tests}
use Rattle.std.proofs.lemmas.List.{map-append}
use Rattle.std.proofs.lemmas.List.Sums.{sum_by-cons}
use Rattle.base.specs.Sizes.{most_sectors, most_units}
use Rattle.logfmt.specs.declared.entry.Entry.{Entry}
use Rattle.logfmt.specs.Bounds.{LogValue, IsLog, units_of}
use Rattle.epochs.specs.declared.part.Part.{Part}
use Rattle.epochs.specs.declared.part.By.{By}
use Rattle.epochs.specs.declared.part.By.TheVariants as by
use Rattle.epochs.specs.Units.{of_entries}
use Rattle.epochs.specs.Parts.{part_of, part_size, part_count, parts_of_entry, parts_before}
use Rattle.epochs.proofs.Parts.{parts_few}
use Rattle.epochs.proofs.Parts.{parts_rise as places_rise}
use Rattle.cases.specs.Risk.{is_at_risk, parts_at_risk}
use Rattle.cases.specs.Laws.{IsAmong}
use Rattle.cases.proofs.Rows.{IsBefore, part_before}
use Rattle.case_text.proofs.Taking.{risky_told}
use Rattle.join.specs.declared.case_parts.names.PartName.{PartName}
use Rattle.join.specs.CaseTexts.{is_before, comes_after, parts_rise, is_part_of_run, is_place_of_run, is_named_alike}
use Rattle.commands.proofs.CaseFates.{first_so, second_so, both_so, AreSome, some_few, some_kept, some_map}

-- a part by its name
abbrev pub named : Part → PartName
named p = record { entry = p.entry; place = p.place }

-- ONE BEFORE ANOTHER

abbrev pub Before : PartName → PartName → Type 0
Before p q = (p.entry < q.entry) ⊎ ((p.entry ≡ q.entry) × (p.place < q.place))

pub before_told : (p q : PartName) → is_before p q ≡ true → Before p q
before_told p q is = by_less (nat_lt p.entry q.entry) refl is
  where
    by_less : (b : Bool) → nat_lt p.entry q.entry ≡ b → (b || ((p.entry == q.entry) && nat_lt p.place q.place)) ≡ true → Before p q
    by_less true less all = inl (grind (arith, nat_tests, less))
    by_less false more all =
        let same = first_so (p.entry == q.entry) (nat_lt p.place q.place) all in
        let up = second_so (p.entry == q.entry) (nat_lt p.place q.place) all in
        inr (grind (arith, nat_tests, same), grind (arith, nat_tests, up))

pub before_is : (p q : PartName) → Before p q → is_before p q ≡ true
before_is p q (inl less) = let one : nat_lt p.entry q.entry ≡ true = grind (arith, nat_tests, less) in ap (λ (b : Bool). b || ((p.entry == q.entry) && nat_lt p.place q.place)) one
before_is p q (inr (same, up)) =
    let one : nat_lt p.entry q.entry ≡ false = grind (arith, nat_tests, same) in
    let two : (p.entry == q.entry) ≡ true = grind (arith, nat_tests, same) in
    let three : nat_lt p.place q.place ≡ true = grind (arith, nat_tests, up) in
    rw (one, two, three) refl

before_before : (p q r : PartName) → Before p q → Before q r → Before p r
before_before p q r (inl one) (inl two) = inl (omega (arith, one, two))
before_before p q r (inl one) (inr (same, up)) = inl (omega (arith, one, same))
before_before p q r (inr (same, up)) (inl two) = inl (omega (arith, two, same))
before_before p q r (inr (same, up)) (inr (also, more)) = inr (omega (arith, same, also), omega (arith, up, more))

comes_after_more : (last : Option PartName) (p q : PartName) → comes_after last p ≡ true → is_before p q ≡ true → comes_after last q ≡ true
comes_after_more None p q one two = refl
comes_after_more (Some l) p q one two = before_is l q (before_before l p q (before_told l p one) (before_told p q two))

rise_from : (last : Option PartName) (p : PartName) (ps : List PartName) → comes_after last p ≡ true → parts_rise (Some p) ps ≡ true → parts_rise last ps ≡ true
rise_from last p [] one rise = refl
rise_from last p (q ∷ ps) one rise =
    both_so (comes_after last q) (parts_rise (Some q) ps) (comes_after_more last p q one (first_so (is_before p q) (parts_rise (Some q) ps) rise)) (second_so (is_before p q) (parts_rise (Some q) ps) rise)

pub some_parts_rise : (last : Option PartName) (ps qs : List PartName) → AreSome ps qs → parts_rise last qs ≡ true → parts_rise last ps ≡ true
some_parts_rise last [] qs some rise = refl
some_parts_rise last (p ∷ ps) [] some rise = absurd some
some_parts_rise last (p ∷ ps) (q ∷ qs) (inl one) rise =
    let after = first_so (comes_after last q) (parts_rise (Some q) qs) rise in
    let rest = some_parts_rise (Some q) ps qs one.1 (second_so (comes_after last q) (parts_rise (Some q) qs) rise) in
    both_so (comes_after last p) (parts_rise (Some p) ps)
    (subst (λ (x : PartName). comes_after last x ≡ true) one.0 after)
    (subst (λ (x : PartName). parts_rise (Some x) ps ≡ true) one.0 rest)
some_parts_rise last (p ∷ ps) (q ∷ qs) (inr more) rise =
    some_parts_rise last (p ∷ ps) qs more
    (rise_from last q qs (first_so (comes_after last q) (parts_rise (Some q) qs) rise) (second_so (comes_after last q) (parts_rise (Some q) qs) rise))

-- THOSE AT RISK RISE

-- a part comes right after others
abbrev IsPast : Option PartName → ℕ → ℕ → Type 0
IsPast None e place = Unit {0}
IsPast (Some l) e place = (l.entry < e) ⊎ ((l.entry ≡ e) × (l.place < place))

abbrev IsUpTo : Option PartName → ℕ → Type 0
IsUpTo None e = Unit {0}
IsUpTo (Some l) e = l.entry ≤ e

past_is : (last : Option PartName) (p : PartName) → IsPast last p.entry p.place → comes_after last p ≡ true
past_is None p past = refl
past_is (Some l) p past = before_is l p past

own_rise : (way : By) (e : ℕ) (x : Entry) (a n : ℕ) (last : Option PartName) (more : List PartName) → a + n ≤ part_count way x → (0 < n → IsPast last e (a * part_size way x))
    → IsUpTo last e → ((o : Option PartName) → IsUpTo o e → parts_rise o more ≡ true)
    → parts_rise last (map named (map (part_of way e x) (range_with_len a n)) ++ more) ≡ true
own_rise way e x a zero last more few past up rest = rest last up
own_rise way e x a (suc n) last more few past up rest =
    let here : PartName = record { entry = e; place = a * part_size way x } in
    let own = past_is last here (past (omega arith)) in
    let next : 0 < n → IsPast (Some here) e ((a + 1) * part_size way x) = λ some. inr (refl, places_rise way x a (a + 1) (omega arith) (omega (arith, few, some))) in
    let same : e ≤ e = omega arith in
    both_so (comes_after last here) (parts_rise (Some here) (map named (map (part_of way e x) (range_with_len (a + 1) n)) ++ more)) own
    (own_rise way e x (a + 1) n (Some here) more (omega (arith, few)) next same rest)

abbrev IsBelow : Option PartName → ℕ → Type 0
IsBelow None e = Unit {0}
IsBelow (Some l) e = l.entry < e

below_past : (last : Option PartName) (e place : ℕ) → IsBelow last e → IsPast last e place
below_past None e place low = tt
below_past (Some l) e place low = inl low

below_up : (last : Option PartName) (e : ℕ) → IsBelow last e → IsUpTo last e
below_up None e low = tt
below_up (Some l) e low = omega (arith, low)

up_below : (last : Option PartName) (e : ℕ) → IsUpTo last e → IsBelow last (suc e)
up_below None e low = tt
up_below (Some l) e low = omega (arith, low)

entries_rise : (way : By) (e : ℕ) (es : List Entry) (last : Option PartName) → IsBelow last e → parts_rise last (map named (of_entries (parts_of_entry way) e es)) ≡ true
entries_rise way e [] last low = refl
entries_rise way e (x ∷ es) last low =
    let own : List Part = parts_of_entry way e x in
    let rest : List Part = of_entries (parts_of_entry way) (suc e) es in
    let rise = own_rise way e x 0 (part_count way x) last (map named rest) (omega arith) (λ some. below_past last e (0 * part_size way x) low) (below_up last e low)
    (λ o up. entries_rise way (suc e) es o (up_below o e up)) in
    subst (λ (ps : List PartName). parts_rise last ps ≡ true) (sym (map-append named own rest)) rise

pub risky_rise : (way : By) (es : List Entry) (k : ℕ) → parts_rise None (map named (parts_at_risk way es k)) ≡ true
unfolding parts_at_risk
risky_rise way es k =
    some_parts_rise None (map named (filter (λ (p : Part). is_at_risk es k p.entry) (parts_before way es k))) (map named (parts_before way es k))
    (some_map named (filter (λ (p : Part). is_at_risk es k p.entry) (parts_before way es k)) (parts_before way es k) (some_kept (λ (p : Part). is_at_risk es k p.entry) (parts_before way es k)))
    (entries_rise way 0 (take k es) None tt)

-- EACH IS ONE OF A RUN

place_of_run : (way : By) (log : LogValue) (e j : ℕ) (x : Entry) → IsLog log → slice_get log.entries e ≡ Some x → j < part_count way x → is_place_of_run way (j * part_size way x) ≡ true
place_of_run by.Sector log e j x bounds there within =
    let count : j < x.count = within in
    let fits = (bounds.entries e x there).device (omega (arith, count)) in
    let device = bounds.device in
    let sectors : most_sectors ≡ 33554432 = refl in
    let small : j * 1 < 2 ^ 32 = omega (arith, count, fits, device, sectors) in
    grind (arith, nat_tests, small)
place_of_run by.Write log e j x bounds there within = by_count (x.count == 0) refl within
  where
    by_count : (b : Bool) → (x.count == 0) ≡ b → j < (if b then 0 else 1) → (j * x.count == 0) ≡ true
    by_count true is lt = absurd (omega (arith, lt))
    by_count false is lt =
        let first : j ≡ 0 = omega (arith, lt) in
        let none : 0 * x.count ≡ 0 = omega arith in
        let gone : j * x.count ≡ 0 = ap (λ (i : ℕ). i * x.count) first ∙ none in
        grind (arith, nat_tests, gone)

pub risky_of_run : (log : LogValue) (way : By) (k : ℕ) (p : Part) → IsLog log → k ≤ length log.entries → IsAmong (parts_at_risk way log.entries k) p → is_part_of_run way k (named p) ≡ true
risky_of_run log way k p bounds within among =
    let was : IsBefore way log.entries k p = part_before way log.entries k p within (risky_told way log.entries k p among).0 in
    let own = place_of_run way log was.entry was.place was.own bounds was.there was.within in
    let less : nat_lt was.entry k ≡ true = (let lt = was.before in grind (arith, nat_tests, lt)) in
    subst (λ (q : Part). is_part_of_run way k (named q) ≡ true) was.is (both_so (nat_lt was.entry k) (is_place_of_run way (was.place * part_size way was.own)) less own)

-- THERE ARE FEW

pub length_mapped : {A B : Type 0} (f : A → B) (xs : List A) → length (map f xs) ≡ length xs
length_mapped f [] = refl
length_mapped f (x ∷ xs) = let rest = length_mapped f xs in omega (arith, rest)

range_long : (a n : ℕ) → length (range_with_len a n) ≡ n
range_long a zero = refl
range_long a (suc n) = let rest = range_long (a + 1) n in omega (arith, rest)

length_both : {A : Type 0} (xs ys : List A) → length (xs ++ ys) ≡ length xs + length ys
length_both [] ys = omega arith
length_both (x ∷ xs) ys = let rest = length_both xs ys in omega (arith, rest)

entries_few : (way : By) (e : ℕ) (es : List Entry) → length (of_entries (parts_of_entry way) e es) ≤ units_of es
entries_few way e [] = omega arith
entries_few way e (x ∷ es) =
    let rest = entries_few way (suc e) es in
    let one = length_both (parts_of_entry way e x) (of_entries (parts_of_entry way) (suc e) es) in
    let own = length_mapped (part_of way e x) (range_with_len 0 (part_count way x)) in
    let long = range_long 0 (part_count way x) in
    let few = parts_few way x in
    let sum = sum_by-cons (λ (y : Entry). y.count) x es in
    omega (arith, rest, one, own, long, few, sum)

taken_few : (k : ℕ) (es : List Entry) → units_of (take k es) ≤ units_of es
taken_few zero es = omega arith
taken_few (suc k) [] = omega arith
taken_few (suc k) (x ∷ es) =
    let rest = taken_few k es in
    let one = sum_by-cons (λ (y : Entry). y.count) x (take k es) in
    let two = sum_by-cons (λ (y : Entry). y.count) x es in
    omega (arith, rest, one, two)

pub risky_few : (log : LogValue) (way : By) (k : ℕ) → IsLog log → length (parts_at_risk way log.entries k) ≤ most_units
unfolding parts_at_risk
risky_few log way k bounds =
    let kept = some_few (filter (λ (p : Part). is_at_risk log.entries k p.entry) (parts_before way log.entries k)) (parts_before way log.entries k) (some_kept (λ (p : Part). is_at_risk log.entries k p.entry) (parts_before way log.entries k)) in
    let few = entries_few way 0 (take k log.entries) in
    let taken = taken_few k log.entries in
    let units = bounds.units in
    omega (arith, kept, few, taken, units)

-- PARTS OF ONE NAME ARE ONE

later_before : (p : PartName) (ps : List Part) (q : Part) → parts_rise (Some p) (map named ps) ≡ true → IsAmong ps q → Before p (named q)
later_before p [] q rise among = absurd among
later_before p (r ∷ ps) q rise (inl same) = subst (λ (x : Part). Before p (named x)) same (before_told p (named r) (first_so (is_before p (named r)) (parts_rise (Some (named r)) (map named ps)) rise))
later_before p (r ∷ ps) q rise (inr later) =
    before_before p (named r) (named q) (before_told p (named r) (first_so (is_before p (named r)) (parts_rise (Some (named r)) (map named ps)) rise))
    (later_before (named r) ps q (second_so (is_before p (named r)) (parts_rise (Some (named r)) (map named ps)) rise) later)

pub not_alike : (p q : PartName) → Before p q → is_named_alike p q ≡ false
not_alike p q (inl less) = let other : (p.entry == q.entry) ≡ false = grind (arith, nat_tests, less) in ap (λ (b : Bool). b && (p.place == q.place)) other
not_alike p q (inr (same, up)) =
    let one : (p.entry == q.entry) ≡ true = grind (arith, nat_tests, same) in
    let other : (p.place == q.place) ≡ false = grind (arith, nat_tests, up) in
    rw (one, other) refl

pub not_alike_back : (p q : PartName) → Before p q → is_named_alike q p ≡ false
not_alike_back p q (inl less) = let other : (q.entry == p.entry) ≡ false = grind (arith, nat_tests, less) in ap (λ (b : Bool). b && (q.place == p.place)) other
not_alike_back p q (inr (same, up)) =
    let one : (q.entry == p.entry) ≡ true = grind (arith, nat_tests, same) in
    let other : (q.place == p.place) ≡ false = grind (arith, nat_tests, up) in
    rw (one, other) refl

pub alike_own : (p : PartName) → is_named_alike p p ≡ true
alike_own p =
    let one : (p.entry == p.entry) ≡ true = grind (arith, nat_tests) in
    let two : (p.place == p.place) ≡ true = grind (arith, nat_tests) in
    rw (one, two) refl

-- the first of some parts is before each other
pub head_before : (last : Option PartName) (p : Part) (ps : List Part) (q : Part) → parts_rise last (map named (p ∷ ps)) ≡ true → IsAmong ps q → Before (named p) (named q)
head_before last p ps q rise among = later_before (named p) ps q (second_so (comes_after last (named p)) (parts_rise (Some (named p)) (map named ps)) rise) among

pub tail_rises : (last : Option PartName) (p : Part) (ps : List Part) → parts_rise last (map named (p ∷ ps)) ≡ true → parts_rise (Some (named p)) (map named ps) ≡ true
tail_rises last p ps rise = second_so (comes_after last (named p)) (parts_rise (Some (named p)) (map named ps)) rise

pub one_named : (last : Option PartName) (ps : List Part) (p q : Part) → parts_rise last (map named ps) ≡ true → IsAmong ps p → IsAmong ps q → is_named_alike (named p) (named q) ≡ true → p ≡ q
one_named last [] p q rise one two alike = absurd one
one_named last (r ∷ ps) p q rise (inl a) (inl b) alike = sym a ∙ b
one_named last (r ∷ ps) p q rise (inl a) (inr b) alike =
    let before = subst (λ (x : Part). Before (named x) (named q)) a (head_before last r ps q rise b) in
    absurd (let bad : false ≡ true = sym (not_alike (named p) (named q) before) ∙ alike in cc)
one_named last (r ∷ ps) p q rise (inr a) (inl b) alike =
    let before = subst (λ (x : Part). Before (named x) (named p)) b (head_before last r ps p rise a) in
    absurd (let bad : false ≡ true = sym (not_alike_back (named q) (named p) before) ∙ alike in cc)
one_named last (r ∷ ps) p q rise (inr a) (inr b) alike = one_named (Some (named r)) ps p q (tail_rises last r ps rise) a b alike

-- What a line of a run says of the parts at risk is what a text of cases may say of them.
use Rattle.std.proofs.Common.{ℕ, ◌≡◌, ◌<◌, ◌≤◌, ◌==◌, ◌&&◌, nat_lt, Bool, true, false, not, List, [], ◌∷◌, ◌++◌, length, map, filter, slice_get, slice_index_or, Option, None, Some, refl, sym, subst, ◌∙◌, ap, arith, inl, inr}
use Rattle.std.specs.List.{list_all}
use Rattle.std.specs.Option.{option_map_or}
use Rattle.std.proofs.lemmas.Bool.Decides.{nat_tests}
use Rattle.std.proofs.lemmas.List.Sums.{count_by-le-length}
use Rattle.epochs.specs.declared.part.Part.{Part}
use Rattle.epochs.specs.declared.part.By.{By}
use Rattle.choices.specs.declared.fate.Fate.{Fate}
use Rattle.choices.specs.declared.name.Name.{Name}
use Rattle.choices.specs.Named.{name_of}
use Rattle.losses.specs.declared.flushes.window.Window.{Window}
use Rattle.cases.specs.Choices.{Choice, all_fates, departs, departures}
use Rattle.cases.specs.Cases.{Case, representative}
use Rattle.cases.specs.Laws.{IsAmong}
use Rattle.cases.proofs.Cases.{among_kept}
use Rattle.case_text.specs.Known.{PartFates, is_kept, is_free, is_mixed, with_fates, count_free}
use Rattle.case_text.specs.Known.{mixed_parts as mixed_in_case}
use Rattle.join.specs.declared.case_parts.names.PartName.{PartName}
use Rattle.join.specs.declared.case_parts.front.CaseFront.{CaseFront}
use Rattle.join.specs.CaseTexts.{MixedPart, ToldCase, is_part_of_run, is_fate_of_run, is_possible, parts_of, mixed_parts, is_lost_of_run, parts_rise, fate_number, are_fates_of_run, is_mixed_of_run, is_named_alike, stands_in, fate_in, begins_as, is_apart, all_of_run, all_rise, go_together}
use Rattle.commands.proofs.CaseFates.{first_so, second_so, both_so, AreSome, some_more, some_kept, some_map, some_few, some_so, some_fates_rise, AreFates, IsFair, all_possible, first_of_run}
use Rattle.commands.proofs.CaseFates.{all_rise as all_fates_rise}
use Rattle.commands.proofs.CasePlaces.{named, not_alike, not_alike_back, alike_own, head_before, tail_rises, one_named, some_parts_rise}

-- WHAT IT SAYS

abbrev pub told_mixed : PartFates → MixedPart
told_mixed m = record { part = named m.part; fates = m.fates }

abbrev pub lost_of : Case → List Part → List Name
lost_of c ps = map name_of (departures (representative c) ps)

abbrev pub kept_of : Case → List Part → List PartName
kept_of c ps = map named (filter (λ (p : Part). is_kept (c p)) ps)

abbrev pub mixed_of : Bool → Case → List Part → List MixedPart
mixed_of tears c ps = map told_mixed (mixed_in_case tears c ps)

abbrev pub told_by : CaseFront → List ℕ → Bool → Case → List Part → Option Window → ToldCase
told_by front outcome tears c ps window = record {
  front = front;
  outcome = outcome;
  lost = lost_of c ps;
  kept = kept_of c ps;
  mixed = mixed_of tears c ps;
  free = count_free tears c ps;
  window = window;
}

-- LISTS

all_mapped : {A B : Type 0} (q : B → Bool) (f : A → B) (xs : List A) → ((x : A) → IsAmong xs x → q (f x) ≡ true) → list_all q (map f xs) ≡ true
all_mapped q f [] each = refl
all_mapped q f (x ∷ xs) each = both_so (q (f x)) (list_all q (map f xs)) (each x (inl refl)) (all_mapped q f xs (λ y among. each y (inr among)))

among_mapped : {A B : Type 0} (f : A → B) (xs : List A) (y : B) → IsAmong (map f xs) y → (x : A) × IsAmong xs x × (f x ≡ y)
among_mapped f [] y among = absurd among
among_mapped f (x ∷ xs) y (inl same) = (x, inl refl, same)
among_mapped f (x ∷ xs) y (inr later) = let was = among_mapped f xs y later in (was.0, inr was.1, was.2)

none_stands : (qs : List PartName) (k : PartName) → ((q : PartName) → IsAmong qs q → is_named_alike k q ≡ false) → stands_in qs k ≡ false
none_stands [] k each = refl
none_stands (q ∷ qs) k each = let own = each q (inl refl) in let rest = none_stands qs k (λ r among. each r (inr among)) in rw (own, rest) refl

-- WHICH PARTS

departed_some : (choice : Choice) (ps : List Part) → AreSome (parts_of (map name_of (departures choice ps))) (map named ps)
departed_some choice [] = tt
departed_some choice (p ∷ ps) = by_fate (choice p) (departed_some choice ps)
  where
    by_fate : (o : Option Fate) → AreSome (parts_of (map name_of (departures choice ps))) (map named ps)
        → AreSome (parts_of (map name_of (departs p o ++ departures choice ps))) (map named (p ∷ ps))
    by_fate None rest = some_more (parts_of (map name_of (departures choice ps))) (map named ps) (named p) rest
    by_fate (Some f) rest = inl (refl, rest)

mixed_named : (c : Case) (xs : List Part) → mixed_parts (map told_mixed (map (with_fates c) xs)) ≡ map named xs
mixed_named c [] = refl
mixed_named c (x ∷ xs) = ap (λ (ps : List PartName). named x ∷ ps) (mixed_named c xs)

-- a part that departs
record Departs (choice : Choice) (ps : List Part) (q : PartName) : Type 0 where
  part : Part
  among : IsAmong ps part
  is : named part ≡ q
  fate : Fate
  departs : choice part ≡ Some fate

departed_among : (choice : Choice) (ps : List Part) (q : PartName) → IsAmong (parts_of (map name_of (departures choice ps))) q → Departs choice ps q
departed_among choice [] q among = absurd among
departed_among choice (p ∷ ps) q among = by_fate (λ later. departed_among choice ps q later) (choice p) refl among
  where
    more : Departs choice ps q → Departs choice (p ∷ ps) q
    more was = record { part = was.part; among = inr was.among; is = was.is; fate = was.fate; departs = was.departs }

    by_fate : (IsAmong (parts_of (map name_of (departures choice ps))) q → Departs choice ps q) → (o : Option Fate) → choice p ≡ o
        → IsAmong (parts_of (map name_of (departs p o ++ departures choice ps))) q → Departs choice (p ∷ ps) q
    by_fate again None e later = more (again later)
    by_fate again (Some f) e (inl same) = record { part = p; among = inl refl; is = same; fate = f; departs = e }
    by_fate again (Some f) e (inr later) = more (again later)

-- THEY RISE

rising_told : (tears : Bool) (c : Case) (ps : List Part) (front : CaseFront) (outcome : List ℕ) (window : Option Window) → parts_rise None (map named ps) ≡ true
    → all_rise (told_by front outcome tears c ps window) ≡ true
rising_told tears c ps front outcome window rise =
    let lost = some_parts_rise None (parts_of (lost_of c ps)) (map named ps) (departed_some (representative c) ps) rise in
    let kept_parts : List Part = filter (λ (p : Part). is_kept (c p)) ps in
    let kept = some_parts_rise None (map named kept_parts) (map named ps) (some_map named kept_parts ps (some_kept (λ (p : Part). is_kept (c p)) ps)) rise in
    let parts : List Part = filter (λ (p : Part). is_mixed tears (c p)) ps in
    let named_mixed = some_parts_rise None (map named parts) (map named ps) (some_map named parts ps (some_kept (λ (p : Part). is_mixed tears (c p)) ps)) rise in
    let mixed = subst (λ (qs : List PartName). parts_rise None qs ≡ true) (sym (mixed_named c parts)) named_mixed in
    rw (lost, kept, mixed) refl

-- THEY ARE OF A RUN

lost_told : (way : By) (tears : Bool) (cut : ℕ) (choice : Choice) (ps : List Part) → ((p : Part) → IsAmong ps p → is_part_of_run way cut (named p) ≡ true)
    → ((p : Part) (f : Fate) → choice p ≡ Some f → is_fate_of_run tears f ≡ true) → list_all (is_lost_of_run way tears cut) (map name_of (departures choice ps)) ≡ true
lost_told way tears cut choice [] each fates = refl
lost_told way tears cut choice (p ∷ ps) each fates = by_fate (choice p) refl (lost_told way tears cut choice ps (λ q among. each q (inr among)) fates)
  where
    by_fate : (o : Option Fate) → choice p ≡ o → list_all (is_lost_of_run way tears cut) (map name_of (departures choice ps)) ≡ true
        → list_all (is_lost_of_run way tears cut) (map name_of (departs p o ++ departures choice ps)) ≡ true
    by_fate None e rest = rest
    by_fate (Some f) e rest =
        both_so (is_part_of_run way cut (named p) && is_fate_of_run tears f) (list_all (is_lost_of_run way tears cut) (map name_of (departures choice ps)))
        (both_so (is_part_of_run way cut (named p)) (is_fate_of_run tears f) (each p (inl refl)) (fates p f e)) rest

mixed_fates : (tears : Bool) (fates : List (Option Fate)) → AreFates tears fates → is_mixed tears fates ≡ true → are_fates_of_run tears fates ≡ true
mixed_fates tears fates are mixed =
    by_tears tears are (first_so (nat_lt 1 (length fates)) (not (is_free tears fates)) mixed) (second_so (nat_lt 1 (length fates)) (not (is_free tears fates)) mixed)
  where
    not_all : (b : Bool) → not b ≡ true → b ≡ false
    not_all true is = let bad : false ≡ true = is in cc
    not_all false is = refl

    by_tears : (t : Bool) → AreFates t fates → nat_lt 1 (length fates) ≡ true → not (length fates == length (all_fates t)) ≡ true → are_fates_of_run t fates ≡ true
    by_tears true own many other =
        let few = some_few fates (all_fates true) own.of_all in
        let apart = not_all (length fates == 16) other in
        let differ : length fates < 16 = grind (arith, nat_tests, apart, few) in
        let less : nat_lt (length fates) 16 ≡ true = grind (arith, nat_tests, differ) in
        let possible = some_so is_possible fates (all_fates true) own.of_all (all_possible true) in
        let rise = some_fates_rise None fates (all_fates true) own.of_all (all_fates_rise true) in
        rw (many, less, possible, rise) refl
    by_tears false own many other =
        let few = some_few fates (all_fates false) own.of_all in
        let apart = not_all (length fates == 2) other in
        let more : 1 < length fates = grind (arith, nat_tests, many) in
        absurd (let both : length fates ≡ 2 = omega (arith, few, more) in let test : (length fates == 2) ≡ true = grind (arith, nat_tests, both) in let bad : false ≡ true = sym apart ∙ test in cc)

-- what a case says of the parts
pub record AreTold (way : By) (tears : Bool) (cut : ℕ) (c : Case) (ps : List Part) : Type 0 where
  pub rise : parts_rise None (map named ps) ≡ true
  pub each : (p : Part) → IsAmong ps p → is_part_of_run way cut (named p) ≡ true
  pub fair : IsFair tears c

all_told : (way : By) (tears : Bool) (cut : ℕ) (c : Case) (ps : List Part) (front : CaseFront) (outcome : List ℕ) (window : Option Window) → AreTold way tears cut c ps
    → all_of_run way tears cut (told_by front outcome tears c ps window) ≡ true
all_told way tears cut c ps front outcome window are =
    let lost = lost_told way tears cut (representative c) ps are.each (λ p f e. first_of_run tears (c p) f (are.fair p) e) in
    let kept : list_all (is_part_of_run way cut) (kept_of c ps) ≡ true =
    all_mapped (is_part_of_run way cut) named (filter (λ (p : Part). is_kept (c p)) ps) (λ p among. are.each p (among_kept (λ (q : Part). is_kept (c q)) ps p among).0) in
    let mixed : list_all (is_mixed_of_run way tears cut) (mixed_of tears c ps) ≡ true =
    all_mapped (is_mixed_of_run way tears cut) told_mixed (mixed_in_case tears c ps) (λ m among. one_mixed m (among_mapped (with_fates c) (filter (λ (p : Part). is_mixed tears (c p)) ps) m among)) in
    rw (lost, kept, mixed) refl
  where
    one_mixed : (m : PartFates) → (p : Part) × IsAmong (filter (λ (q : Part). is_mixed tears (c q)) ps) p × (with_fates c p ≡ m) → is_mixed_of_run way tears cut (told_mixed m) ≡ true
    one_mixed m was =
        let p : Part = was.0 in
        let own = among_kept (λ (q : Part). is_mixed tears (c q)) ps p was.1 in
        subst (λ (x : PartFates). is_mixed_of_run way tears cut (told_mixed x) ≡ true) was.2
        (both_so (is_part_of_run way cut (named p)) (are_fates_of_run tears (c p)) (are.each p own.0) (mixed_fates tears (c p) (are.fair p) own.1))

-- THEY GO TOGETHER

kept_first : (fates : List (Option Fate)) → is_kept fates ≡ true → fates ≡ None ∷ []
kept_first [] is = absurd (let bad : false ≡ true = is in cc)
kept_first (Some f ∷ fates) is = absurd (let bad : false ≡ true = is in cc)
kept_first (None ∷ []) is = refl
kept_first (None ∷ g ∷ fates) is = absurd (let bad : false ≡ true = is in cc)

kept_apart : (tears : Bool) (c : Case) (ps : List Part) (p : Part) → parts_rise None (map named ps) ≡ true → IsAmong ps p → is_kept (c p) ≡ true
    → is_apart (parts_of (lost_of c ps)) (mixed_parts (mixed_of tears c ps)) (named p) ≡ true
kept_apart tears c ps p rise among kept =
    let whole : c p ≡ None ∷ [] = kept_first (c p) kept in
    let lost : stands_in (parts_of (lost_of c ps)) (named p) ≡ false = none_stands (parts_of (lost_of c ps)) (named p) (λ q own. not_lost q whole (departed_among (representative c) ps q own)) in
    let parts : List Part = filter (λ (q : Part). is_mixed tears (c q)) ps in
    let mixed_out : stands_in (map named parts) (named p) ≡ false = none_stands (map named parts) (named p) (λ q own. not_mixed q whole (among_mapped named parts q own)) in
    let mixed : stands_in (mixed_parts (mixed_of tears c ps)) (named p) ≡ false = subst (λ (qs : List PartName). stands_in qs (named p) ≡ false) (sym (mixed_named c parts)) mixed_out in
    rw (lost, mixed) refl
  where
    not_lost : (q : PartName) → c p ≡ None ∷ [] → Departs (representative c) ps q → is_named_alike (named p) q ≡ false
    not_lost q whole was = by_test (is_named_alike (named p) q) refl
      where
        by_test : (b : Bool) → is_named_alike (named p) q ≡ b → is_named_alike (named p) q ≡ false
        by_test false e = e
        by_test true e =
            let same : p ≡ was.part = one_named None ps p was.part rise among was.among (subst (λ (x : PartName). is_named_alike (named p) x ≡ true) (sym was.is) e) in
            let own : representative c p ≡ Some was.fate = ap (representative c) same ∙ was.departs in
            let none : representative c p ≡ None = ap (λ (fs : List (Option Fate)). slice_index_or fs 0 None) whole in
            absurd (let bad : None ≡ Some was.fate = sym none ∙ own in cc)

    not_mixed : (q : PartName) → c p ≡ None ∷ [] → (r : Part) × IsAmong (filter (λ (x : Part). is_mixed tears (c x)) ps) r × (named r ≡ q) → is_named_alike (named p) q ≡ false
    not_mixed q whole was = by_test (is_named_alike (named p) q) refl
      where
        by_test : (b : Bool) → is_named_alike (named p) q ≡ b → is_named_alike (named p) q ≡ false
        by_test false e = e
        by_test true e =
            let own = among_kept (λ (x : Part). is_mixed tears (c x)) ps was.0 was.1 in
            let same : p ≡ was.0 = one_named None ps p was.0 rise among own.0 (subst (λ (x : PartName). is_named_alike (named p) x ≡ true) (sym was.2) e) in
            let mixed : is_mixed tears (c p) ≡ true = ap (λ (x : Part). is_mixed tears (c x)) same ∙ own.1 in
            let none : is_mixed tears (c p) ≡ false = ap (λ (fs : List (Option Fate)). is_mixed tears fs) whole in
            absurd (let bad : false ≡ true = sym none ∙ mixed in cc)

-- what a choice does with a part is found among what departs
none_found : (choice : Choice) (ps : List Part) (k : PartName) → ((q : Part) → IsAmong ps q → is_named_alike k (named q) ≡ false) → fate_in (map name_of (departures choice ps)) k ≡ None
none_found choice [] k each = refl
none_found choice (p ∷ ps) k each = by_fate (choice p) (none_found choice ps k (λ q among. each q (inr among)))
  where
    by_fate : (o : Option Fate) → fate_in (map name_of (departures choice ps)) k ≡ None → fate_in (map name_of (departs p o ++ departures choice ps)) k ≡ None
    by_fate None rest = rest
    by_fate (Some f) rest = let own : is_named_alike k (named p) ≡ false = each p (inl refl) in rw own rest

fate_found : (choice : Choice) (last : Option PartName) (ps : List Part) (p : Part) → parts_rise last (map named ps) ≡ true → IsAmong ps p → fate_in (map name_of (departures choice ps)) (named p) ≡ choice p
fate_found choice last [] p rise among = absurd among
fate_found choice last (q ∷ ps) p rise (inl same) =
    let none : fate_in (map name_of (departures choice ps)) (named q) ≡ None = none_found choice ps (named q) (λ r among. not_alike (named q) (named r) (head_before last q ps r rise among)) in
    subst (λ (x : Part). fate_in (map name_of (departures choice (q ∷ ps))) (named x) ≡ choice x) same (by_fate (choice q) none)
  where
    by_fate : (o : Option Fate) → fate_in (map name_of (departures choice ps)) (named q) ≡ None → fate_in (map name_of (departs q o ++ departures choice ps)) (named q) ≡ o
    by_fate None none = none
    by_fate (Some f) none = let own : is_named_alike (named q) (named q) ≡ true = alike_own (named q) in rw own refl
fate_found choice last (q ∷ ps) p rise (inr later) =
    by_fate (choice q) (fate_found choice (Some (named q)) ps p (tail_rises last q ps rise) later)
  where
    by_fate : (o : Option Fate) → fate_in (map name_of (departures choice ps)) (named p) ≡ choice p → fate_in (map name_of (departs q o ++ departures choice ps)) (named p) ≡ choice p
    by_fate None rest = rest
    by_fate (Some f) rest = let own : is_named_alike (named p) (named q) ≡ false = not_alike_back (named q) (named p) (head_before last q ps p rise later) in rw own rest

begins : (c : Case) (ps : List Part) (p : Part) → parts_rise None (map named ps) ≡ true → IsAmong ps p → 0 < length (c p) → begins_as (lost_of c ps) (told_mixed (with_fates c p)) ≡ true
begins c ps p rise among some = by_fates (c p) refl (fate_found (representative c) None ps p rise among) some
  where
    same_number : (n : ℕ) → (n == n) ≡ true
    same_number n = grind (arith, nat_tests)

    by_fates : (fs : List (Option Fate)) → c p ≡ fs → fate_in (lost_of c ps) (named p) ≡ representative c p → 0 < length fs
        → option_map_or (λ (f : Option Fate). fate_number f == fate_number (fate_in (lost_of c ps) (named p))) (slice_get fs 0) false ≡ true
    by_fates [] e own more = absurd (omega (arith, more))
    by_fates (f ∷ fs) e own more =
        let first : fate_in (lost_of c ps) (named p) ≡ f = own ∙ ap (λ (gs : List (Option Fate)). slice_index_or gs 0 None) e in
        ap (λ (o : Option Fate). fate_number f == fate_number o) first ∙ same_number (fate_number f)

together_told : (way : By) (tears : Bool) (cut : ℕ) (c : Case) (ps : List Part) (front : CaseFront) (outcome : List ℕ) (window : Option Window) → AreTold way tears cut c ps
    → go_together (told_by front outcome tears c ps window) ≡ true
together_told way tears cut c ps front outcome window are =
    let apart : list_all (is_apart (parts_of (lost_of c ps)) (mixed_parts (mixed_of tears c ps))) (kept_of c ps) ≡ true =
    all_mapped (is_apart (parts_of (lost_of c ps)) (mixed_parts (mixed_of tears c ps))) named (filter (λ (p : Part). is_kept (c p)) ps)
    (λ p among. let own = among_kept (λ (q : Part). is_kept (c q)) ps p among in kept_apart tears c ps p are.rise own.0 own.1) in
    let first : list_all (begins_as (lost_of c ps)) (mixed_of tears c ps) ≡ true =
    all_mapped (begins_as (lost_of c ps)) told_mixed (mixed_in_case tears c ps) (λ m among. one_mixed m (among_mapped (with_fates c) (filter (λ (p : Part). is_mixed tears (c p)) ps) m among)) in
    rw (apart, first) refl
  where
    one_mixed : (m : PartFates) → (p : Part) × IsAmong (filter (λ (q : Part). is_mixed tears (c q)) ps) p × (with_fates c p ≡ m) → begins_as (lost_of c ps) (told_mixed m) ≡ true
    one_mixed m was =
        let own = among_kept (λ (q : Part). is_mixed tears (c q)) ps was.0 was.1 in
        subst (λ (x : PartFates). begins_as (lost_of c ps) (told_mixed x) ≡ true) was.2 (begins c ps was.0 are.rise own.0 (are.fair was.0).some)

pub parts_told : (way : By) (tears : Bool) (cut : ℕ) (c : Case) (ps : List Part) (front : CaseFront) (outcome : List ℕ) (window : Option Window) → AreTold way tears cut c ps
    → (all_of_run way tears cut (told_by front outcome tears c ps window) && (all_rise (told_by front outcome tears c ps window) && go_together (told_by front outcome tears c ps window))) ≡ true
parts_told way tears cut c ps front outcome window are =
    both_so (all_of_run way tears cut (told_by front outcome tears c ps window)) (all_rise (told_by front outcome tears c ps window) && go_together (told_by front outcome tears c ps window))
    (all_told way tears cut c ps front outcome window are)
    (both_so (all_rise (told_by front outcome tears c ps window)) (go_together (told_by front outcome tears c ps window)) (rising_told tears c ps front outcome window are.rise)
    (together_told way tears cut c ps front outcome window are))

-- no more may have any fate than there are
pub free_few : (tears : Bool) (c : Case) (ps : List Part) → count_free tears c ps ≤ length ps
free_few tears c ps = count_by-le-length (λ (p : Part). is_free tears (c p)) ps

-- By which image a case without a window is shown.
use Rattle.std.proofs.Common.{ℕ, ◌≡◌, ◌+◌, ◌<◌, ◌≤◌, ◌==◌, nat_lt, nat_le, Bool, true, false, if◌then◌else◌, List, [], ◌∷◌, ◌++◌, reverse, Option, None, Some, MatchOption, refl, sym, subst, ◌∙◌, ap, arith, inl, inr}
use Rattle.std.specs.List.{list_all}
use Rattle.std.proofs.lemmas.Bool.Decides.{nat_tests}
use Rattle.std.proofs.lemmas.List.Elements.{filter-append}
use Rattle.epochs.specs.declared.part.Part.{Part}
use Rattle.choices.specs.declared.fate.Fate.{Fate}
use Rattle.choices.specs.declared.fate.Fate.TheVariants as fate
use Rattle.choices.specs.declared.choice.Departure.{Departure}
use Rattle.cases.specs.Choices.{departs, departures}
use Rattle.cases.specs.Cases.{Case, representative}
use Rattle.cases.specs.Trees.{is_lost}
use Rattle.cases.specs.Laws.{IsAmong}
use Rattle.cases.specs.AtCut.{parts_of}
use Rattle.cases.proofs.Rows.{part_before}
use Rattle.losses.specs.WindowLaws.{up_to, only_of}
use Rattle.case_text.specs.Known.{is_never_whole, is_never_gone, last_arrived}
use Rattle.case_text.specs.Window.{stays}
use Rattle.case_text.specs.Causes.{is_entry}
use Rattle.case_text.specs.Laws.{IsThere, IsWindow, HasNoWindow, IsOfCase, only_choice, before_choice, CaseIsShown, NothingIsLost}
use Rattle.case_text.proofs.Taking.{turned_among, risky_told}
use Rattle.case_text.proofs.Windowed.{Rising, falling_turned, rising_risky, first_found, no_first, earliest, latest, turned_back, window_is_told}

some_whole : (fates : List (Option Fate)) → list_all is_lost fates ≡ false → IsAmong fates None
some_whole [] is = absurd (let bad : true ≡ false = is in cc)
some_whole (None ∷ fates) is = inl refl
some_whole (Some f ∷ fates) is = inr (some_whole fates is)

some_gone : (fates : List (Option Fate)) → is_never_gone fates ≡ false → IsAmong fates (Some fate.Drop)
some_gone [] is = absurd (let bad : true ≡ false = is in cc)
some_gone (None ∷ fates) is = inr (some_gone fates is)
some_gone (Some fate.Drop ∷ fates) is = inl refl
some_gone (Some (fate.Head t) ∷ fates) is = inr (some_gone fates is)
some_gone (Some (fate.Tail t) ∷ fates) is = inr (some_gone fates is)

pub nothing_is_lost : NothingIsLost
nothing_is_lost at c none p among = by_test (is_never_whole (c p)) refl
  where
    by_test : (b : Bool) → is_never_whole (c p) ≡ b → IsAmong (c p) None
    by_test true is = absurd (no_first (λ (q : Part). is_never_whole (c q)) (parts_of at) p none among is)
    by_test false is = some_whole (c p) is

-- what a part loses and tears up to entry e, where what was written before e is whole, and what was written after it is lost
one_gone : (c : Case) (e : ℕ) (p : Part) → up_to e (departs p (only_choice c e p)) ≡ only_of e (departs p (representative c p))
one_gone c e p = by_order (nat_lt p.entry e) refl
  where
    nothing : (o : Option Fate) → (p.entry == e) ≡ false → only_of e (departs p o) ≡ []
    nothing None other = refl
    nothing (Some f) other = ap (λ (v : Bool). if v then record { part = p; fate = f } ∷ [] else []) other

    all : (o : Option Fate) → (p.entry == e) ≡ true → up_to e (departs p o) ≡ only_of e (departs p o)
    all None same = refl
    all (Some f) same =
        let low : nat_le p.entry e ≡ true = grind (arith, nat_tests, same) in
        ap (λ (v : Bool). if v then record { part = p; fate = f } ∷ [] else []) (low ∙ sym same)

    by_place : (b : Bool) → (p.entry == e) ≡ b → nat_lt p.entry e ≡ false
        → up_to e (departs p (if b then representative c p else Some fate.Drop)) ≡ only_of e (departs p (representative c p))
    by_place true is other = all (representative c p) is
    by_place false is other =
        let high : nat_le p.entry e ≡ false = grind (arith, nat_tests, is, other) in
        ap (λ (v : Bool). if v then record { part = p; fate = fate.Drop } ∷ [] else []) high ∙ sym (nothing (representative c p) is)

    by_order : (b : Bool) → nat_lt p.entry e ≡ b
        → up_to e (departs p (if b then None else if p.entry == e then representative c p else Some fate.Drop)) ≡ only_of e (departs p (representative c p))
    by_order true is = let other : (p.entry == e) ≡ false = grind (arith, nat_tests, is) in sym (nothing (representative c p) other)
    by_order false is = by_place (p.entry == e) refl is

gone_of : (c : Case) (e : ℕ) (ps : List Part) → up_to e (departures (only_choice c e) ps) ≡ only_of e (departures (representative c) ps)
gone_of c e [] = refl
gone_of c e (p ∷ ps) =
    filter-append (λ (d : Departure). nat_le d.part.entry e) (departs p (only_choice c e p)) (departures (only_choice c e) ps)
    ∙ ap (λ ds. ds ++ up_to e (departures (only_choice c e) ps)) (one_gone c e p)
    ∙ ap (λ ds. only_of e (departs p (representative c p)) ++ ds) (gone_of c e ps)
    ∙ sym (filter-append (λ (d : Departure). d.part.entry == e) (departs p (representative c p)) (departures (representative c) ps))

pub case_is_shown : CaseIsShown
case_is_shown at c e within own none first = record { only = only; gone = gone_of c e (parts_of at); quiet = quiet; before = before }
  where
    no_window : HasNoWindow at c
    no_window = subst (λ (o : Option _). MatchOption o (HasNoWindow at c) (IsWindow at c)) none (window_is_told at c within)

    rise : Rising (parts_of at)
    rise = rising_risky at.way at.log.entries at.cut within

    early : (q : Part) → IsAmong (parts_of at) q → q.entry < at.cut
    early q among =
        let told = part_before at.way at.log.entries at.cut q within (risky_told at.way at.log.entries at.cut q among).0 in
        let own : told.entry ≡ q.entry = ap (λ (r : Part). r.entry) told.is in
        let less = told.before in
        omega (arith, less, own)

    -- nothing is there after e
    none_there : (i : ℕ) → e < i → i < at.cut → IsThere at c i → ⊥
    none_there i low high there =
        let it = first_found (λ (q : Part). is_never_whole (c q)) (parts_of at) e first in
        let entry = it.entry in
        no_window it.part i it.among it.passes (omega (arith, entry, low)) high there

    quiet : (i : ℕ) → e < i → i < at.cut → stays at.way at.log.entries at.cut i ≡ false
    quiet i low high = by_test (stays at.way at.log.entries at.cut i) refl
      where
        by_test : (b : Bool) → stays at.way at.log.entries at.cut i ≡ b → stays at.way at.log.entries at.cut i ≡ false
        by_test true is = absurd (none_there i low high (inl is))
        by_test false is = is

    -- what was written before e may be whole
    whole_before : (p : Part) → IsAmong (parts_of at) p → p.entry < e → IsAmong (c p) None
    whole_before p among less = by_test (is_never_whole (c p)) refl
      where
        by_test : (b : Bool) → is_never_whole (c p) ≡ b → IsAmong (c p) None
        by_test true is = let low = earliest (λ (q : Part). is_never_whole (c q)) (parts_of at) e p rise first among is in absurd (omega (arith, low, less))
        by_test false is = some_whole (c p) is

    -- what was written after it may be lost
    lost_after : (p : Part) → IsAmong (parts_of at) p → e < p.entry → IsAmong (c p) (Some fate.Drop)
    lost_after p among less = by_test (is_never_gone (c p)) refl
      where
        by_test : (b : Bool) → is_never_gone (c p) ≡ b → IsAmong (c p) (Some fate.Drop)
        by_test true is = absurd (none_there p.entry less (early p among) (inr (p, among, is, refl)))
        by_test false is = some_gone (c p) is

    only : IsOfCase at c (only_choice c e)
    only p among = by_order (nat_lt p.entry e) refl
      where
        by_place : (b : Bool) → (p.entry == e) ≡ b → nat_lt p.entry e ≡ false → IsAmong (c p) (if b then representative c p else Some fate.Drop)
        by_place true is other = own p among
        by_place false is other = let after : e < p.entry = grind (arith, nat_tests, is, other) in lost_after p among after

        by_order : (b : Bool) → nat_lt p.entry e ≡ b → IsAmong (c p) (if b then None else if p.entry == e then representative c p else Some fate.Drop)
        by_order true is = let less : p.entry < e = grind (arith, nat_tests, is) in whole_before p among less
        by_order false is = by_place (p.entry == e) refl is

    before : is_entry (last_arrived c (parts_of at)) e ≡ false → IsOfCase at c (before_choice e)
    before none_at p among = by_order (nat_lt p.entry e) refl
      where
        arrived : (o : Option ℕ) → last_arrived c (parts_of at) ≡ o → is_entry o e ≡ false → is_never_gone (c p) ≡ true → e ≤ p.entry → ⊥
        arrived None is other passes low = no_first (λ (q : Part). is_never_gone (c q)) (reverse (parts_of at)) p is (turned_back (parts_of at) p among) passes
        arrived (Some y) is other passes low =
            let it = first_found (λ (q : Part). is_never_gone (c q)) (reverse (parts_of at)) y is in
            let there = turned_among (parts_of at) it.part it.among in
            let high = early it.part there in
            let entry = it.entry in
            let most = latest (λ (q : Part). is_never_gone (c q)) (reverse (parts_of at)) y p (falling_turned (parts_of at) rise) is (turned_back (parts_of at) p among) passes in
            let apart : e < y = grind (arith, nat_tests, other, most, low) in
            none_there y apart (omega (arith, high, entry)) (inr (it.part, there, it.passes, entry))

        gone : (b : Bool) → is_never_gone (c p) ≡ b → e ≤ p.entry → IsAmong (c p) (Some fate.Drop)
        gone true is low = absurd (arrived (last_arrived c (parts_of at)) refl none_at is low)
        gone false is low = some_gone (c p) is

        by_order : (b : Bool) → nat_lt p.entry e ≡ b → IsAmong (c p) (if b then None else Some fate.Drop)
        by_order true is = let less : p.entry < e = grind (arith, nat_tests, is) in whole_before p among less
        by_order false is = let low : e ≤ p.entry = grind (arith, nat_tests, is) in gone (is_never_gone (c p)) refl low

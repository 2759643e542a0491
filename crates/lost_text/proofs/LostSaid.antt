-- The choice that a text says, of any number of parts.
use Rattle.std.proofs.Common.{ℕ, suc, ◌≡◌, ◌≢◌, ◌≤◌, Bool, true, false, List, [], ◌∷◌, ◌++◌, All, length, map, Option, None, Some, Result, Ok, Err, IfOk, IfSome, MatchOption, option_map, refl, sym, subst, ◌∙◌, ap, arith, inl, inr}
use Rattle.std.proofs.lemmas.List.{append-nil, length-map}
use Rattle.std.proofs.lemmas.List.Elements.{All-nil, All-cons}
use Rattle.std.proofs.lemmas.Option.{same_Some}
use Rattle.logfmt.specs.Bounds.{IsLog}
use Rattle.epochs.specs.declared.part.Part.{Part}
use Rattle.epochs.specs.declared.part.By.{By}
use Rattle.epochs.specs.declared.part.By.TheVariants as by
use Rattle.choices.specs.declared.choice.Departure.{Departure}
use Rattle.choices.specs.declared.name.Name.{Name}
use Rattle.choices.specs.CrashModel.{IsFate}
use Rattle.choices.specs.Named.{name_of}
use Rattle.report.specs.ChoiceText.{names_text, IsPlace, IsName}
use Rattle.cases.specs.Choices.{Choice, all_fates, departures}
use Rattle.cases.specs.Cases.{representative}
use Rattle.cases.specs.Sets.{fates_in}
use Rattle.cases.specs.Laws.{IsAmong}
use Rattle.cases.specs.AtCut.{CutValue, Apart, case_of, parts_of}
use Rattle.cases.proofs.Chosen.{there_among}
use Rattle.lost_text.specs.AnyNames.{ReadsAny}
use Rattle.lost_text.specs.Said.{IsSaid, NoneIsSaid, IsLostSo}
use Rattle.lost_text.specs.Lost.{fates_said, names_left, lost_of, only, set_of, is_possible, AreSetsOf, IsImpossible}
use Rattle.lost_text.proofs.Printing.{prints_choices}
use Rattle.lost_text.proofs.LostParts.{IsSmall, first_in, joined, departs_among, said_back, lost_is, firsts_are, by_sets, in_case, first_among, fates_possible, possible, possible_back, mapped_among, names_apart, in_range}

-- names of departures are within their ranges
place_is : (way : By) (p : Part) → IsSmall way p → IsPlace way p.place
place_is by.Sector p is = is
place_is by.Write p is = is

all_named : (way : By) (ds : List Departure) → ((d : Departure) → IsAmong ds d → IsName way (name_of d)) → All (IsName way) (map name_of ds)
all_named way [] each = All-nil (IsName way)
all_named way (d ∷ ds) each = All-cons (IsName way) (name_of d) (map name_of ds) (each d (inl refl)) (all_named way ds (λ e is. each e (inr is)))

-- what a choice loses and tears has names within their ranges, and is printed as these
pub record IsNamedSo (at : CutValue) (said : List ℕ) (choice : Choice) : Type 0 where
  pub names : All (IsName at.way) (map name_of (departures choice (parts_of at)))
  pub printed : said ≡ names_text at.way (map name_of (departures choice (parts_of at)))

pub named_so : (at : CutValue) (tears : Bool) (said : List ℕ) (ds : List Departure) → IsLog at.log → at.cut ≤ length at.log.entries → (is : IsSaid at tears said ds)
    → IsNamedSo at said is.choice
named_so at tears said ds bounds within is = record {
  names = all_named at.way (departures is.choice (parts_of at))
      (λ d among.
      let own = departs_among is.choice (parts_of at) d among in
      let range = in_range at d.part bounds within own.0 in
      record {
        entry = range.entry;
        place = place_is at.way d.part range.place;
        fate = (possible_back tears d.fate (subst (IsAmong (all_fates tears)) own.1 (is.possible d.part))).1;
      });
  printed = is.printed ∙ prints_choices at.way ds ∙ ap (λ (es : List Departure). names_text at.way (map name_of es)) is.departs;
}

-- a text that isn't read is that of no choice
pub none_read : (at : CutValue) (tears : Bool) (said : List ℕ) → IsLog at.log → at.cut ≤ length at.log.entries → ReadsAny at.way said None → NoneIsSaid at tears said
none_read at tears said bounds within read = record {
  none = λ ds is.
      let named = named_so at tears said ds bounds within is in
      absurd (let bad : None ≡ Some (map name_of (departures is.choice (parts_of at))) = read.read _ named.names named.printed in cc);
}

-- the names that are read are those of the choice
own_names : (at : CutValue) (tears : Bool) (said : List ℕ) (ds : List Departure) (names : List Name) → IsLog at.log → at.cut ≤ length at.log.entries
    → ReadsAny at.way said (Some names) → (is : IsSaid at tears said ds) → names ≡ map name_of (departures is.choice (parts_of at))
own_names at tears said ds names bounds within read is =
    let named = named_so at tears said ds bounds within is in
    same_Some names (map name_of (departures is.choice (parts_of at))) (read.read _ named.names named.printed)

pub none_torn : (at : CutValue) (tears : Bool) (said : List ℕ) (names : List Name) → IsLog at.log → at.cut ≤ length at.log.entries → ReadsAny at.way said (Some names)
    → IsImpossible tears names → NoneIsSaid at tears said
none_torn at tears said names bounds within read torn = record {
  none = λ ds is.
      let same = own_names at tears said ds names bounds within read is in
      let among = subst (λ (ns : List Name). IsAmong ns torn.name) same (there_among names torn.place torn.name torn.there) in
      let it = mapped_among name_of (departures is.choice (parts_of at)) torn.name among in
      let own = departs_among is.choice (parts_of at) it.0 it.1 in
      let good = (possible_back tears it.0.fate (subst (IsAmong (all_fates tears)) own.1 (is.possible it.0.part))).0 in
      let fate : it.0.fate ≡ torn.name.fate = ap (λ (n : Name). n.fate) it.2 in
      absurd (let bad : true ≡ false = sym good ∙ ap (is_possible tears) fate ∙ torn.torn in cc);
}

pub none_left : (at : CutValue) (tears : Bool) (said : List ℕ) (names : List Name) → IsLog at.log → at.cut ≤ length at.log.entries → Apart (parts_of at)
    → ReadsAny at.way said (Some names) → names_left (parts_of at) names ≢ [] → NoneIsSaid at tears said
none_left at tears said names bounds within apart read left = record {
  none = λ ds is.
      let same = own_names at tears said ds names bounds within read is in
      left (ap (names_left (parts_of at)) same ∙ (said_back is.choice (parts_of at) (names_apart at within apart)).1);
}

among_there : (tears : Bool) (names : List Name) → All (λ (n : Name). IsFate tears n.fate) names → (n : Name) → IsAmong names n → IsFate tears n.fate
among_there tears [] all n is = absurd is
among_there tears (m ∷ names) all n (inl same) = subst (λ (x : Name). IsFate tears x.fate) same (all 0 m (omega arith))
among_there tears (m ∷ names) all n (inr rest) = among_there tears names (λ k d l. all (suc k) d (omega (arith, l))) n rest

long_fates : (ps : List Part) (ns : List Name) → length (fates_said ps ns) ≡ length ps
long_fates [] ns = refl
long_fates (p ∷ ps) ns = ap suc (long_fates ps _)

sets_of : (choice : Choice) (ps : List Part) → map set_of (map choice ps) ≡ map (λ (p : Part). set_of (choice p)) ps
sets_of choice [] = refl
sets_of choice (p ∷ ps) = ap (λ xs. set_of (choice p) ∷ xs) (sets_of choice ps)

-- the choice that a text says
pub lost_so : (at : CutValue) (tears : Bool) (said : List ℕ) (names : List Name) (sets : List ℕ) (ds : List Departure) → IsLog at.log → at.cut ≤ length at.log.entries
    → Apart (parts_of at) → ReadsAny at.way said (Some names) → said ≡ names_text at.way names → All (λ (n : Name). IsFate tears n.fate) names
    → names_left (parts_of at) names ≡ [] → AreSetsOf sets (fates_said (parts_of at) names) → ds ≡ lost_of (parts_of at) (fates_said (parts_of at) names)
    → IsLostSo at tears said sets ds
lost_so at tears said names sets ds bounds within apart read printed fates left each lost =
    let ps = parts_of at in
    let fs = fates_said ps names in
    let firsts : map first_in sets ≡ fs = firsts_are sets fs each.fates in
    let long : length sets ≡ length ps =
    sym (length-map sets fates_in) ∙ ap length each.fates ∙ length-map fs only ∙ long_fates ps names in
    let own : departures (representative (case_of tears ps sets)) ps ≡ ds = by_sets tears ps sets apart long ∙ ap (lost_of ps) firsts ∙ sym lost in
    let all : map name_of ds ≡ names =
    ap (map name_of) lost ∙ sym (append-nil (map name_of (lost_of ps fs))) ∙ ap (λ (ns : List Name). map name_of (lost_of ps fs) ++ ns) (sym left) ∙ joined ps names in
    record {
      is = record {
        choice = representative (case_of tears ps sets);
        possible = in_case tears ps sets
            (λ b among.
            fates_possible tears ps names (λ n is. possible tears n.fate (among_there tears names fates n is)) (first_in b) (first_among sets fs firsts b among));
        departs = sym own;
        printed = printed ∙ ap (names_text at.way) (sym all) ∙ sym (prints_choices at.way ds);
      };
      only = λ others is.
          let same = own_names at tears said others names bounds within read is in
          is.departs ∙ lost_is is.choice ps
          ∙ ap (lost_of ps) (sym (said_back is.choice ps (names_apart at within apart)).0)
          ∙ ap (λ (ns : List Name). lost_of ps (fates_said ps ns)) (sym same) ∙ sym lost;
      each = long;
      departs = own;
      fates = λ others it.
          let same = own_names at tears said others names bounds within read it in
          each.value ∙ ap (λ (ns : List Name). map set_of (fates_said ps ns)) same ∙ ap (map set_of) (said_back it.choice ps (names_apart at within apart)).0
          ∙ sets_of it.choice ps;
    }

-- the same of what was read, in the terms of the code

read_so : {X : Type 0} (at : CutValue) (way : By) (said : List ℕ) (found other : Option X) (items : X → List Name) → at.way ≡ way → found ≡ other
    → ReadsAny way said (option_map items found) → ReadsAny at.way said (option_map items other)
read_so at way said found other items same is read =
    subst (λ w. ReadsAny w said (option_map items other)) (sym same) (subst (λ o. ReadsAny way said (option_map items o)) is read)

pub none_by : {X : Type 0} (at : CutValue) (way : By) (tears : Bool) (said : List ℕ) (found : Option X) (items : X → List Name) → IsLog at.log → at.cut ≤ length at.log.entries
    → at.way ≡ way → found ≡ None → ReadsAny way said (option_map items found) → NoneIsSaid at tears said
none_by at way tears said found items bounds within same none read = none_read at tears said bounds within (read_so at way said found None items same none read)

pub torn_by : {X : Type 0} (at : CutValue) (way : By) (tears : Bool) (said : List ℕ) (found : Option X) (x : X) (items : X → List Name) (names : List Name) → IsLog at.log
    → at.cut ≤ length at.log.entries → at.way ≡ way → found ≡ Some x → ReadsAny way said (option_map items found) → names ≡ items x → IsImpossible tears names
    → NoneIsSaid at tears said
torn_by at way tears said found x items names bounds within same some read these torn =
    none_torn at tears said (items x) bounds within (read_so at way said found (Some x) items same some read) (subst (IsImpossible tears) these torn)

by_found : {Y : Type 0} (at : CutValue) (tears : Bool) (said : List ℕ) (names : List Name) (sets : Y → List ℕ) (ds : Y → List Departure) → IsLog at.log → at.cut ≤ length at.log.entries
    → Apart (parts_of at) → ReadsAny at.way said (Some names) → said ≡ names_text at.way names → All (λ (n : Name). IsFate tears n.fate) names
    → (found : Option Y) → MatchOption found (names_left (parts_of at) names ≢ []) (λ y. names_left (parts_of at) names ≡ [])
    → IfSome found (λ y. AreSetsOf (sets y) (fates_said (parts_of at) names)) → IfSome found (λ y. ds y ≡ lost_of (parts_of at) (fates_said (parts_of at) names))
    → MatchOption found (NoneIsSaid at tears said) (λ y. IsLostSo at tears said (sets y) (ds y))
by_found at tears said names sets ds bounds within apart read printed fates None left each lost = none_left at tears said names bounds within apart read left
by_found at tears said names sets ds bounds within apart read printed fates (Some y) left each lost =
    lost_so at tears said names (sets y) (ds y) bounds within apart read printed fates left each lost

by_result : {Y E : Type 0} (A B C D : Option Y → Type 0) (r : Result (Option Y) E) → ((o : Option Y) → A o → B o → C o → D o) → IfOk r A → IfOk r B → IfOk r C → IfOk r D
by_result A B C D (Ok o) f a b c = f o a b c
by_result A B C D (Err e) f a b c = tt

pub lost_by : {X Y E : Type 0} (at : CutValue) (way : By) (tears : Bool) (said : List ℕ) (found : Option X) (x : X) (items : X → List Name) (tested names : List Name) (parts : List Part)
    (r : Result (Option Y) E) (sets : Y → List ℕ) (ds : Y → List Departure) → IsLog at.log → at.cut ≤ length at.log.entries → Apart (parts_of at) → at.way ≡ way → parts ≡ parts_of at
    → found ≡ Some x → ReadsAny way said (option_map items found) → IfSome found (λ y. said ≡ names_text way (items y)) → tested ≡ items x → names ≡ items x
    → All (λ (n : Name). IsFate tears n.fate) tested
    → IfOk r (λ found. MatchOption found (names_left parts names ≢ []) (λ y. names_left parts names ≡ []))
    → IfOk r (λ found. IfSome found (λ y. AreSetsOf (sets y) (fates_said parts names)))
    → IfOk r (λ found. IfSome found (λ y. ds y ≡ lost_of parts (fates_said parts names)))
    → IfOk r (λ found. MatchOption found (NoneIsSaid at tears said) (λ y. IsLostSo at tears said (sets y) (ds y)))
lost_by {X} {Y} {E} at way tears said found x items tested names parts r sets ds bounds within apart same own some read printed tested_are these fates left each lost =
    let back : ReadsAny at.way said (Some (items x)) = read_so at way said found (Some x) items same some read in
    let text : said ≡ names_text way (items x) = subst (λ (o : Option X). IfSome o (λ y. said ≡ names_text way (items y))) some printed in
    let whole : said ≡ names_text at.way (items x) = text ∙ ap (λ w. names_text w (items x)) (sym same) in
    let all : All (λ (n : Name). IsFate tears n.fate) (items x) = subst (All (λ (n : Name). IsFate tears n.fate)) tested_are fates in
    let P : List Part → List Name → Type 0 = λ ps ns. IfOk r (λ o. MatchOption o (names_left ps ns ≢ []) (λ y. names_left ps ns ≡ [])) in
    let Q : List Part → List Name → Type 0 = λ ps ns. IfOk r (λ o. IfSome o (λ y. AreSetsOf (sets y) (fates_said ps ns))) in
    let R : List Part → List Name → Type 0 = λ ps ns. IfOk r (λ o. IfSome o (λ y. ds y ≡ lost_of ps (fates_said ps ns))) in
    by_result (λ o. MatchOption o (names_left (parts_of at) (items x) ≢ []) (λ y. names_left (parts_of at) (items x) ≡ []))
    (λ o. IfSome o (λ y. AreSetsOf (sets y) (fates_said (parts_of at) (items x)))) (λ o. IfSome o (λ y. ds y ≡ lost_of (parts_of at) (fates_said (parts_of at) (items x))))
    (λ o. MatchOption o (NoneIsSaid at tears said) (λ y. IsLostSo at tears said (sets y) (ds y))) r
    (λ o a b c. by_found at tears said (items x) sets ds bounds within apart back whole all o a b c)
    (subst (λ ns. P (parts_of at) ns) these (subst (λ ps. P ps names) own left))
    (subst (λ ns. Q (parts_of at) ns) these (subst (λ ps. Q ps names) own each))
    (subst (λ ns. R (parts_of at) ns) these (subst (λ ps. R ps names) own lost))

-- What the report prints of departures, and the choices that are meant by it.
use Rattle.std.proofs.Common.{ℕ, zero, suc, ◌≡◌, ◌+◌, ◌<◌, ◌≤◌, Bool, true, List, [], ◌∷◌, length, map, slice_get, Option, Some, None, refl, sym, subst, ◌∙◌, ap, arith}
use Rattle.std.specs.Prelude.{MatchOption}
use Rattle.std.specs.List.{flat_map, slice_index_or}
use Rattle.std.proofs.lemmas.Option.{same_Some, slice_get_within}
use Rattle.base.specs.Sizes.{most_sectors}
use Rattle.logfmt.specs.declared.entry.Entry.{Entry}
use Rattle.logfmt.specs.Bounds.{LogValue, IsLog}
use Rattle.epochs.specs.declared.part.By.{By}
use Rattle.epochs.specs.declared.part.By.TheVariants as by
use Rattle.epochs.specs.Parts.{part_size}
use Rattle.epochs.specs.Laws.{IsVolatile}
use Rattle.epochs.specs.Plan.{PlanValue}
use Rattle.choices.specs.declared.choice.Departure.{Departure}
use Rattle.choices.specs.declared.fate.Fate.{Fate}
use Rattle.choices.specs.declared.fate.Fate.TheVariants as fate
use Rattle.choices.specs.declared.name.Name.{Name}
use Rattle.choices.specs.Choices.{ChoiceValue, ranked_choices}
use Rattle.choices.specs.CrashModel.{IsFate}
use Rattle.choices.specs.Named.{name_of, IsNamed, NoneIsNamed}
use Rattle.choices.proofs.CrashModel.{ranked_is_model}
use Rattle.images.specs.Views.{IsMember}
use Rattle.report.specs.LineText.{choice_text, departure_text, next_departure_text, part_text as printed_part}
use Rattle.report.specs.ChoiceText.{name_text, next_name_text, names_text, departures_text, part_text, IsPlace, IsName, AreNames, IsTextOf, NoNames}
use Rattle.report.specs.Reading.{ReadsAs}
use Rattle.inspect.specs.Which.{IsPrinted, IsOnly, NoneIs}
use Rattle.inspect.proofs.Counts.{long}

one_printed : (way : By) (d : Departure) → departure_text way d ≡ name_text way (name_of d)
unfolding departure_text name_text printed_part part_text
one_printed by.Sector d = refl
one_printed by.Write d = refl

rest_printed : (way : By) (ds : List Departure) → flat_map (next_departure_text way) ds ≡ flat_map (next_name_text way) (map name_of ds)
rest_printed way [] = refl
rest_printed way (d ∷ ds) = rw (one_printed way d, rest_printed way ds) refl

pub prints_choices : (way : By) (ds : List Departure) → choice_text way ds ≡ departures_text way ds
unfolding choice_text names_text
prints_choices way [] = refl
prints_choices way (d ∷ ds) = rw (one_printed way d, rest_printed way ds) refl

-- the names of a choice are within their ranges

fate_is : (tears : Bool) (f : Fate) → IsFate tears f → IsFate true f
fate_is tears fate.Drop is = is
fate_is tears (fate.Head t) is = (refl, is.1, is.2)
fate_is tears (fate.Tail t) is = (refl, is.1, is.2)

place_is : (way : By) (x : Entry) (place count : ℕ) → count ≡ part_size way x → place + count ≤ x.count → x.count ≤ most_sectors → IsPlace way place
place_is by.Sector x place count size inside few = omega (arith, inside, few)
place_is by.Write x place count size inside few = omega (arith, size, inside)

name_is : (way : By) (log : LogValue) (k : ℕ) (tears : Bool) (d : Departure) → IsLog log → IsVolatile way log.entries k d.part → IsFate tears d.fate
    → IsName way (name_of d)
name_is way log k tears d bounds at fate =
    let some = at.some in
    let inside = at.inside in
    let device = bounds.device in
    let count = bounds.count in
    let on : at.entry.sector + at.entry.count ≤ log.sectors = (bounds.entries d.part.entry at.entry at.there).device (omega (arith, some, inside)) in
    let within : d.part.entry < length log.entries = slice_get_within log.entries d.part.entry at.entry at.there in
    record {
      entry = omega (arith, within, count);
      place = place_is way at.entry d.part.place d.part.count at.count inside (omega (arith, on, device));
      fate = fate_is tears d.fate fate;
    }

all_names : (way : By) (ds : List Departure) → ((i : ℕ) (d : Departure) → slice_get ds i ≡ Some d → IsName way (name_of d))
    → (k : ℕ) (n : Name) → k < length (map name_of ds) → IsName way (slice_index_or (map name_of ds) k n)
all_names way [] each k n l = absurd (omega (arith, l))
all_names way (d ∷ ds) each zero n l = each 0 d refl
all_names way (d ∷ ds) each (suc k) n l = all_names way ds (λ i e there. each (suc i) e there) k n (omega (arith, l))

pub names_are : (plan : PlanValue) (bound : ℕ) (tears : Bool) (number : ℕ) (c : ChoiceValue) → IsLog plan.log → bound ≤ 3
    → slice_get (ranked_choices plan bound tears) number ≡ Some c → AreNames plan.by (map name_of c.departures)
names_are plan bound tears number c bounds small there =
    let model = (ranked_is_model plan bound tears).sound number c there in
    let few = model.few in
    record {
      few = omega (arith, long name_of c.departures, few, small);
      names = all_names plan.by c.departures (λ i d at. name_is plan.by plan.log c.cut tears d bounds (model.volatile i d at) (model.fates i d at));
    }

text_is : (plan : PlanValue) (bound : ℕ) (tears : Bool) (cut : ℕ) (text : List ℕ) (c : ChoiceValue) → IsLog plan.log → bound ≤ 3
    → IsPrinted plan bound tears cut text c → IsTextOf plan.by text (map name_of c.departures)
text_is plan bound tears cut text c bounds small is = record {
  names = names_are plan bound tears is.number c bounds small is.there;
  printed = is.printed ∙ prints_choices plan.by c.departures;
}

-- a choice is the one of its names

same_departure : (way : By) (es : List Entry) (k l : ℕ) (c d : Departure) → IsVolatile way es k c.part → IsVolatile way es l d.part → name_of c ≡ name_of d → c ≡ d
same_departure way es k l c d one two e =
    let entry : c.part.entry ≡ d.part.entry = ap (λ (n : Name). n.entry) e in
    let place : c.part.place ≡ d.part.place = ap (λ (n : Name). n.place) e in
    let fate : c.fate ≡ d.fate = ap (λ (n : Name). n.fate) e in
    let same : one.entry ≡ two.entry = same_Some one.entry two.entry (sym one.there ∙ ap (slice_get es) entry ∙ two.there) in
    let count : c.part.count ≡ d.part.count = one.count ∙ ap (part_size way) same ∙ sym two.count in
    let sector : c.part.sector ≡ d.part.sector =
    one.sector ∙ ap (λ (x : Entry). x.sector + c.part.place) same ∙ ap (λ (p : ℕ). two.entry.sector + p) place ∙ sym two.sector in
    λ i. record { part = record { entry = entry i; place = place i; count = count i; sector = sector i }; fate = fate i }

same_departures : (way : By) (es : List Entry) (k l : ℕ) (cs ds : List Departure)
    → ((i : ℕ) (c : Departure) → slice_get cs i ≡ Some c → IsVolatile way es k c.part)
    → ((i : ℕ) (d : Departure) → slice_get ds i ≡ Some d → IsVolatile way es l d.part)
    → map name_of cs ≡ map name_of ds → cs ≡ ds
same_departures way es k l [] [] first second e = refl
same_departures way es k l [] (d ∷ ds) first second e = absurd (let bad : 0 ≡ suc (length (map name_of ds)) = ap length e in omega (arith, bad))
same_departures way es k l (c ∷ cs) [] first second e = absurd (let bad : suc (length (map name_of cs)) ≡ 0 = ap length e in omega (arith, bad))
same_departures way es k l (c ∷ cs) (d ∷ ds) first second e =
    let head : name_of c ≡ name_of d = (let s : name_of c ∷ map name_of cs ≡ name_of d ∷ map name_of ds = e in cc) in
    let tail : map name_of cs ≡ map name_of ds = (let s : name_of c ∷ map name_of cs ≡ name_of d ∷ map name_of ds = e in cc) in
    ap (λ (x : Departure). x ∷ cs) (same_departure way es k l c d (first 0 c refl) (second 0 d refl) head)
    ∙ ap (λ (xs : List Departure). d ∷ xs) (same_departures way es k l cs ds (λ i x there. first (suc i) x there) (λ i x there. second (suc i) x there) tail)

same_choice : (plan : PlanValue) (bound : ℕ) (tears : Bool) (n m : ℕ) (a b : ChoiceValue) → slice_get (ranked_choices plan bound tears) n ≡ Some a
    → slice_get (ranked_choices plan bound tears) m ≡ Some b → a.cut ≡ b.cut → map name_of a.departures ≡ map name_of b.departures → a ≡ b
same_choice plan bound tears n m a b first second cut names =
    let model = ranked_is_model plan bound tears in
    let departures : a.departures ≡ b.departures =
    same_departures plan.by plan.log.entries a.cut b.cut a.departures b.departures ((model.sound n a first).volatile) ((model.sound m b second).volatile) names in
    let number : n ≡ m = model.once n m a b first second cut departures in
    same_Some a b (sym first ∙ ap (slice_get (ranked_choices plan bound tears)) number ∙ second)

-- what is found by a text

-- in the arm where nothing was found, and where something was
at_none : {X : Type 0} (found : Option X) (A : Type 0) (B : X → Type 0) → found ≡ None → MatchOption found A B → A
at_none None A B e h = h
at_none (Some x) A B e h = absurd (let bad : Some x ≡ None = e in cc)

at_some : {X : Type 0} (found : Option X) (x : X) (A : Type 0) (B : X → Type 0) → found ≡ Some x → MatchOption found A B → B x
at_some None x A B e h = absurd (let bad : None ≡ Some x = e in cc)
at_some (Some y) x A B e h = subst B (same_Some y x e) h

pub none_read : {X : Type 0} (way : By) (plan : PlanValue) (bound : ℕ) (tears : Bool) (cut : ℕ) (text : List ℕ) (read : Option X) (B : X → Type 0)
    → plan.by ≡ way → IsLog plan.log → bound ≤ 3 → read ≡ None → MatchOption read (NoNames way text) B → NoneIs (IsPrinted plan bound tears cut text)
none_read way plan bound tears cut text read B same bounds small none found =
    let lacks : NoNames plan.by text = subst (λ (w : By). NoNames w text) (sym same) (at_none read (NoNames way text) B none found) in
    record { none = λ c is. lacks.none (map name_of c.departures) (text_is plan bound tears cut text c bounds small is) }

none_named : (plan : PlanValue) (bound : ℕ) (tears : Bool) (cut : ℕ) (text : List ℕ) (names : List Name) → IsLog plan.log → bound ≤ 3
    → ReadsAs plan.by text names → NoneIsNamed plan bound tears cut names → NoneIs (IsPrinted plan bound tears cut text)
none_named plan bound tears cut text names bounds small read lacks = record {
  none = λ c is.
      lacks.none c
      (record {
        number = is.number;
        there = is.there;
        at = is.at;
        named = sym (read (map name_of c.departures) (text_is plan bound tears cut text c bounds small is));
      });
}

found_named : (plan : PlanValue) (bound : ℕ) (tears : Bool) (cut : ℕ) (text : List ℕ) (names : List Name) (c : ChoiceValue) → IsLog plan.log → bound ≤ 3
    → text ≡ names_text plan.by names → ReadsAs plan.by text names → IsNamed plan bound tears cut names c → IsOnly (IsPrinted plan bound tears cut text) c
found_named plan bound tears cut text names c bounds small printed read named = record {
  is = record {
    number = named.number;
    there = named.there;
    at = named.at;
    printed = printed ∙ ap (names_text plan.by) (sym named.named) ∙ sym (prints_choices plan.by c.departures);
  };
  only = λ other is.
      same_choice plan bound tears is.number named.number other c is.there named.there (is.at ∙ sym named.at)
      (sym (read (map name_of other.departures) (text_is plan bound tears cut text other bounds small is)) ∙ sym named.named);
}

named_printed : (plan : PlanValue) (bound : ℕ) (tears : Bool) (cut : ℕ) (text : List ℕ) (names : List Name) (found : Option ChoiceValue) → IsLog plan.log → bound ≤ 3
    → text ≡ names_text plan.by names → ReadsAs plan.by text names → MatchOption found (NoneIsNamed plan bound tears cut names) (IsNamed plan bound tears cut names)
    → MatchOption found (NoneIs (IsPrinted plan bound tears cut text)) (IsOnly (IsPrinted plan bound tears cut text))
named_printed plan bound tears cut text names None bounds small printed read lacks = none_named plan bound tears cut text names bounds small read lacks
named_printed plan bound tears cut text names (Some c) bounds small printed read named = found_named plan bound tears cut text names c bounds small printed read named

-- the choice that names say is the one that their text says
pub names_read : {X : Type 0} (way : By) (plan : PlanValue) (bound : ℕ) (tears : Bool) (cut : ℕ) (text : List ℕ) (read : Option X) (x : X) (items : X → List Name) (names : List Name)
    (found : Option ChoiceValue) → plan.by ≡ way → IsLog plan.log → bound ≤ 3 → read ≡ Some x → names ≡ items x
    → MatchOption read (NoNames way text) (λ x. text ≡ names_text way (items x)) → MatchOption read (NoNames way text) (λ x. ReadsAs way text (items x))
    → MatchOption found (NoneIsNamed plan bound tears cut names) (IsNamed plan bound tears cut names)
    → MatchOption found (NoneIs (IsPrinted plan bound tears cut text)) (IsOnly (IsPrinted plan bound tears cut text))
names_read way plan bound tears cut text read x items names found same bounds small is these printed back named =
    let own : text ≡ names_text way (items x) = at_some read x (NoNames way text) (λ x. text ≡ names_text way (items x)) is printed in
    let only : ReadsAs way text (items x) = at_some read x (NoNames way text) (λ x. ReadsAs way text (items x)) is back in
    named_printed plan bound tears cut text names found bounds small (own ∙ ap (λ (w : By). names_text w (items x)) (sym same) ∙ ap (names_text plan.by) (sym these))
    (subst (λ (w : By). ReadsAs w text names) (sym same) (subst (λ (ns : List Name). ReadsAs way text ns) (sym these) only)) named

-- at the cut of each choice there is one where nothing departs
pub nothing_there : (plan : PlanValue) (bound : ℕ) (tears : Bool) (c : ChoiceValue) → IsMember plan c → NoneIsNamed plan bound tears c.cut [] → ⊥
nothing_there plan bound tears c is lacks =
    let found = (ranked_is_model plan bound tears).complete c.cut [] ((ranked_is_model plan is.bound is.tears).wanted is.number c is.there)
    (record {
      few = omega arith;
      volatile = λ i d there. absurd (let bad : None ≡ Some d = there in cc);
      fates = λ i d there. absurd (let bad : None ≡ Some d = there in cc);
      rising = λ i j d e less there other. absurd (let bad : None ≡ Some d = there in cc);
    }) in
    lacks.none found.1 (record { number = found.0; there = found.2; at = found.3; named = ap (map name_of) found.4 })

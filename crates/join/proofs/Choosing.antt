-- The choice of a line, read to the byte.
use Rattle.std.proofs.Common.{ℕ, zero, suc, ◌≡◌, ◌≢◌, ◌<◌, ◌≤◌, ◌↔◌, Bool, true, IsTrue, IfOk, Result, Ok, Err, List, [], ◌∷◌, ◌++◌, All, length, length-append, get_or, map, append_assoc, codes, refl, sym, ◌∙◌, ap, subst, arith}
use Rattle.std.specs.List.{flat_map}
use Rattle.epochs.specs.declared.part.By.{By}
use Rattle.epochs.specs.declared.part.By.TheVariants as by
use Rattle.choices.specs.declared.name.Name.{Name}
use Rattle.choices.specs.declared.choice.Departure.{Departure}
use Rattle.choices.specs.Named.{name_of}
use Rattle.report.specs.ChoiceText.{name_text, next_name_text, names_text, part_text, IsName, NoNames}
use Rattle.report.specs.Reading.{ReadsAs}
use Rattle.report.specs.MarkReading.{lacks}
use Rattle.report.specs.LineText.{ending_text, choice_text, departure_text, next_departure_text, part_text as printed_part}
use Rattle.report.proofs.Back.{lacks_both}
use Rattle.losses.proofs.Plain.{ending_lacks}
use Rattle.join.specs.Printable.{IsEnd}
use Rattle.join.specs.Reading.{IsCut, NoCut}
use Rattle.report.specs.Report.{HeadValue}
use Rattle.join.specs.Endings.{IsEnding, AreNamesOf, AreNamesAt, IsChoice, IsAtChoice, NoChoice}
use Rattle.join.proofs.Texts.{one_cut, has_it, cancel}
use Rattle.join.proofs.Endings.{like}

-- a line prints a choice by its names
one_printed : (way : By) (d : Departure) → departure_text way d ≡ name_text way (name_of d)
unfolding departure_text name_text printed_part part_text
one_printed by.Sector d = refl
one_printed by.Write d = refl

rest_printed : (way : By) (ds : List Departure) → flat_map (next_departure_text way) ds ≡ flat_map (next_name_text way) (map name_of ds)
rest_printed way [] = refl
rest_printed way (d ∷ ds) = rw (one_printed way d, rest_printed way ds) refl

pub prints_choices : (way : By) (ds : List Departure) → choice_text way ds ≡ names_text way (map name_of ds)
unfolding choice_text names_text
prints_choices way [] = refl
prints_choices way (d ∷ ds) = rw (one_printed way d, rest_printed way ds) refl

-- departures of these names
departure_for : Name → Departure
departure_for n = record { part = record { entry = n.entry; place = n.place; count = 0; sector = 0 }; fate = n.fate }

named_back : (ns : List Name) → map name_of (map departure_for ns) ≡ ns
unfolding departure_for
named_back [] = refl
named_back (n ∷ ns) = ap (λ (ms : List Name). n ∷ ms) (named_back ns)

all_names : (way : By) (names : List Name) → AreNamesOf way names → All (IsName way) names
all_names way [] are = λ k d small. absurd (omega (arith, small))
all_names way (n ∷ names) are = each (all_names way names are.1)
  where
    each : All (IsName way) names → (k : ℕ) (d : Name) → k < length (n ∷ names) → IsName way (get_or (n ∷ names) k d)
    each rest zero d small = are.0
    each rest (suc k) d small = rest k d (omega (arith, small))

names_of : (way : By) (names : List Name) → All (IsName way) names → AreNamesOf way names
names_of way [] all = tt
names_of way (n ∷ names) all = (all 0 n (omega arith), names_of way names (λ k d small. all (suc k) d (omega (arith, small))))

pub choice_found : (h : HeadValue) (cut : ℕ) (way : By) (text : List ℕ) (names : List Name) → way ≡ h.by → text ≡ names_text way names → length names ≤ 3 → AreNamesAt h cut names → IsChoice h cut text
choice_found h cut way text names same said few at =
    let is : text ≡ names_text h.by names = said ∙ ap (λ (w : By). names_text w names) same in
    let back = named_back names in
    record {
      by = record {
        departures = map departure_for names;
        names = rw back (record { few = few; names = all_names h.by names at.within });
        is = is ∙ ap (λ (ns : List Name). names_text h.by ns) (sym back) ∙ sym (prints_choices h.by (map departure_for names));
      };
      of_run = rw back at.of_run;
    }

-- the names that are read of the text of a choice are within their ranges
pub names_within : (h : HeadValue) (cut : ℕ) (way : By) (text : List ℕ) (names : List Name) → way ≡ h.by → ReadsAs way text names → IsChoice h cut text → AreNamesAt h cut names
names_within h cut way text names by_is read choice =
    let reads : ReadsAs h.by text names = subst (λ (w : By). ReadsAs w text names) by_is read in
    let c = choice.by in
    let same : names ≡ map name_of c.departures = reads (map name_of c.departures) (record { names = c.names; printed = c.is ∙ prints_choices h.by c.departures }) in
    subst (λ (ns : List Name). AreNamesAt h cut ns) (sym same) (record { within = names_of h.by (map name_of c.departures) c.names.names; of_run = choice.of_run })

pub no_choice : (h : HeadValue) (cut : ℕ) (way : By) (text : List ℕ) → way ≡ h.by → NoNames way text → IsChoice h cut text → ⊥
no_choice h cut way text by_is lack choice = let none = subst (λ (w : By). NoNames w text) by_is lack in let c = choice.by in none.none (map name_of c.departures) (record { names = c.names; printed = c.is ∙ prints_choices h.by c.departures })

-- a text that is cut at ` choice `
parted : (xs ys : List ℕ) → xs ++ codes " choice " ++ ys ≡ (xs ++ codes " c") ++ 104 ∷ (codes "oice " ++ ys)
parted xs ys = append_assoc xs (codes " choice ") ys ∙ sym (append_assoc xs (codes " c") (104 ∷ (codes "oice " ++ ys)))

front_lacks : (xs : List ℕ) → lacks 104 xs ≡ true → lacks 104 (xs ++ codes " c") ≡ true
front_lacks xs own = lacks_both 104 xs (codes " c") own refl

pub no_h_no_choice : (text : List ℕ) → NoCut 104 text → NoChoice text
no_h_no_choice text none = record {
  none = λ xs ys own e. has_it 104 (xs ++ codes " c") (codes "oice " ++ ys) (subst (λ (bs : List ℕ). lacks 104 bs ≡ true) (e ∙ parted xs ys) none.none);
}

both_parts : (text begun rest xs ys : List ℕ) → IsCut 104 text begun rest → lacks 104 xs ≡ true → text ≡ xs ++ codes " choice " ++ ys → (begun ≡ xs ++ codes " c") × (rest ≡ codes "oice " ++ ys)
both_parts text begun rest xs ys cut own e = one_cut 104 begun (xs ++ codes " c") rest (codes "oice " ++ ys) cut.first (front_lacks xs own) (sym cut.is ∙ e ∙ parted xs ys)

pub no_front_no_choice : (text begun rest : List ℕ) → IsCut 104 text begun rest → ((front : List ℕ) → begun ≢ front ++ codes " c") → NoChoice text
no_front_no_choice text begun rest cut none = record { none = λ xs ys own e. none xs (both_parts text begun rest xs ys cut own e).0 }

pub no_back_no_choice : (text begun rest : List ℕ) → IsCut 104 text begun rest → ((back : List ℕ) → rest ≢ codes "oice " ++ back) → NoChoice text
no_back_no_choice text begun rest cut none = record { none = λ xs ys own e. none ys (both_parts text begun rest xs ys cut own e).1 }

-- the same bytes at the end
cancel_end : (xs ys : List ℕ) → xs ++ codes " c" ≡ ys ++ codes " c" → xs ≡ ys
cancel_end [] [] e = refl
cancel_end [] (y ∷ ys) e = absurd (let long = ap length e in let all = length-append (y ∷ ys) (codes " c") in omega (arith, long, all))
cancel_end (x ∷ xs) [] e = absurd (let long = ap length e in let all = length-append (x ∷ xs) (codes " c") in omega (arith, long, all))
cancel_end (x ∷ xs) (y ∷ ys) e =
    let same : x ∷ (xs ++ codes " c") ≡ y ∷ (ys ++ codes " c") = e in
    let head : x ≡ y = cc in
    let tail : xs ++ codes " c" ≡ ys ++ codes " c" = cc in
    let rest = cancel_end xs ys tail in
    rw (head, rest) refl

pub choice_at : (text begun rest ending choice : List ℕ) → IsCut 104 text begun rest → begun ≡ ending ++ codes " c" → rest ≡ codes "oice " ++ choice → IsAtChoice text ending choice
choice_at text begun rest ending choice cut front back = record {
  is = cut.is ∙ rw (front, back) (sym (parted ending choice));
  only = only;
}
  where
    only : (xs ys : List ℕ) → lacks 104 xs ≡ true → text ≡ xs ++ codes " choice " ++ ys → (ending ≡ xs) × (choice ≡ ys)
    only xs ys own e =
        let parts = both_parts text begun rest xs ys cut own e in
        (cancel_end ending xs (sym front ∙ parts.0), cancel (codes "oice ") choice ys (sym back ∙ parts.1))

-- what a line has after its program, by its two halves
pub end_found : (h : HeadValue) (cut : ℕ) (text ending choice : List ℕ) → IsAtChoice text ending choice → IsEnding ending → IsChoice h cut choice → IsEnd h cut text
end_found h cut text ending choice at e c = record {
  ending = e.ending;
  departures = c.by.departures;
  within = e.within;
  failing = e.failing;
  names = c.by.names;
  of_run = c.of_run;
  is = at.is ∙ (let a = e.is in let b = c.by.is in rw (a, b) refl);
}

halves : (h : HeadValue) (cut : ℕ) (text ending choice : List ℕ) → IsAtChoice text ending choice → (e : IsEnd h cut text) → (ending ≡ ending_text e.ending) × (choice ≡ choice_text h.by e.departures)
halves h cut text ending choice at e = at.only (ending_text e.ending) (choice_text h.by e.departures) (ending_lacks e.ending) e.is

pub end_has_ending : (h : HeadValue) (cut : ℕ) (text ending choice : List ℕ) → IsAtChoice text ending choice → IsEnd h cut text → IsEnding ending
end_has_ending h cut text ending choice at e = record { ending = e.ending; within = e.within; failing = e.failing; is = (halves h cut text ending choice at e).0 }

pub end_has_choice : (h : HeadValue) (cut : ℕ) (text ending choice : List ℕ) → IsAtChoice text ending choice → IsEnd h cut text → IsChoice h cut choice
end_has_choice h cut text ending choice at e = record { by = record { departures = e.departures; names = e.names; is = (halves h cut text ending choice at e).1 }; of_run = e.of_run }

pub no_choice_no_end : (h : HeadValue) (cut : ℕ) (text : List ℕ) → NoChoice text → IsEnd h cut text → ⊥
no_choice_no_end h cut text none e = none.none (ending_text e.ending) (choice_text h.by e.departures) (ending_lacks e.ending) e.is

-- a text is an end where its two halves are an ending and a choice
pub end_decided : (E : Type 0) (h : HeadValue) (cut : ℕ) (text ending choice : List ℕ) (r : Result Bool E) → IsAtChoice text ending choice → IsEnding ending → IfOk r (λ is. IsTrue is ↔ IsChoice h cut choice)
    → IfOk r (λ is. IsTrue is ↔ IsEnd h cut text)
end_decided E h cut text ending choice (Ok is) at own test = like is test (end_found h cut text ending choice at own) (end_has_choice h cut text ending choice at)
end_decided E h cut text ending choice (Err e) at own test = tt

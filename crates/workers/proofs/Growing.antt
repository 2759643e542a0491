-- The entries of a cut, when parts and entries are added after those that there are.
use Rattle.std.proofs.Common.{ℕ, zero, suc, ◌≡◌, ◌-◌, ◌<◌, ◌≤◌, List, [], ◌∷◌, ◌++◌, length, map, take, drop, slice_get, Some, refl, sym, ap, ◌∙◌, subst, inl, inr, arith, length-append, length-drop}
use Rattle.std.specs.Option.{option_map}
use Rattle.std.proofs.lemmas.List.{map-append, take-append-le, take_all}
use Rattle.std.proofs.lemmas.Option.{slice_get-map}
use Rattle.base.proofs.Lists.{slice_get_of_push, slice_get-push}
use Rattle.interp.specs.Ending.{ending_of}
use Rattle.choices.specs.declared.pick.Pick.{Pick}
use Rattle.checker.specs.Checker.{CheckerValue}
use Rattle.workers.specs.declared.entries.FootprintEntry.{FootprintEntry}
use Rattle.workers.specs.Entries.{AreKept, Stands, between, entry_value}
use Rattle.workers.specs.Failing.{Subject}
use Rattle.workers.specs.Reuse.{AreKnown, EntryValue, IsEntryOf, IsKnown, Rises, told_or}

-- Numbers after those of a list don't change what stands between two of its places.

dropped : (parts more : List ℕ) (n : ℕ) → n ≤ length parts → drop n (parts ++ more) ≡ drop n parts ++ more
dropped parts more zero le = refl
dropped [] more (suc n) le = absurd (omega (arith, le))
dropped (x ∷ parts) more (suc n) le = dropped parts more n (omega (arith, le))

between_more : (parts more : List ℕ) (first end : ℕ) → first ≤ end → end ≤ length parts → between (parts ++ more) first end ≡ between parts first end
between_more parts more first end low high =
    let few : end - first ≤ length (drop first parts) = omega (arith, length-drop first parts) in
    ap (take (end - first)) (dropped parts more first (omega arith)) ∙ take-append-le (end - first) (drop first parts) more few

dropped_all : (parts more : List ℕ) → drop (length parts) (parts ++ more) ≡ more
dropped_all [] more = refl
dropped_all (x ∷ parts) more = dropped_all parts more

between_new : (parts more : List ℕ) (first end : ℕ) → first ≡ length parts → end ≡ length (parts ++ more) → between (parts ++ more) first end ≡ more
between_new parts more first end is whole =
    let enough : length more ≤ end - first = omega (arith, length-append parts more) in
    ap (take (end - first)) (ap (λ (n : ℕ). drop n (parts ++ more)) is ∙ dropped_all parts more) ∙ take_all (end - first) more enough

-- Entries, whose parts stand before those.

stands_more : (parts more : List ℕ) (e : FootprintEntry) → Stands parts e → Stands (parts ++ more) e
stands_more parts more e is =
    let low = is.low in
    let high = is.high in
    record {
      low = low;
      high = omega (arith, high, length-append parts more);
      rising = subst Rises (sym (between_more parts more e.first e.end low high)) is.rising;
    }

values_more : (entries : List FootprintEntry) (parts more : List ℕ) → ((i : ℕ) (e : FootprintEntry) → slice_get entries i ≡ Some e → Stands parts e)
    → map (entry_value (parts ++ more)) entries ≡ map (entry_value parts) entries
values_more [] parts more stand = refl
values_more (e ∷ entries) parts more stand =
    let is = stand 0 e refl in
    let low = is.low in
    let high = is.high in
    let same : entry_value (parts ++ more) e ≡ entry_value parts e =
    ap (λ (ns : List ℕ). record { picks = e.choice.picks; ending = ending_of e.outcome; told = told_or e.all ns }) (between_more parts more e.first e.end low high) in
    ap (λ (v : EntryValue). v ∷ map (entry_value (parts ++ more)) entries) same
    ∙ ap (λ (vs : List EntryValue). entry_value parts e ∷ vs) (values_more entries parts more (λ i x there. stand (suc i) x there))

-- more parts, and the entries as they were
pub kept_more : (entries new : List FootprintEntry) (parts more grown index : List ℕ) → AreKept entries parts index → new ≡ entries → grown ≡ parts ++ more → AreKept new grown index
kept_more entries new parts more grown index kept same grows =
    subst (λ (es : List FootprintEntry). AreKept es grown index) (sym same) (subst (λ (ns : List ℕ). AreKept entries ns index) (sym grows) (record {
      few = kept.few;
      stand = λ i e there. stands_more parts more e (kept.stand i e there);
      places = kept.places;
    }))

pub same_values : (entries new : List FootprintEntry) (parts more grown index : List ℕ) (values : List EntryValue) → AreKept entries parts index → new ≡ entries → grown ≡ parts ++ more
    → map (entry_value parts) entries ≡ values → values ≡ map (entry_value grown) new
same_values entries new parts more grown index values kept same grows is =
    sym is ∙ sym (values_more entries parts more kept.stand)
    ∙ ap (λ (ns : List ℕ). map (entry_value ns) entries) (sym grows) ∙ ap (map (entry_value grown)) (sym same)

-- one entry more, whose parts are the new ones
pub record IsAdded (entries new : List FootprintEntry) (parts more grown : List ℕ) (e : FootprintEntry) : Type 0 where
  pub pushed : new ≡ entries ++ e ∷ []
  pub grows : grown ≡ parts ++ more
  pub rising : Rises more
  pub first : e.first ≡ length parts
  pub end : e.end ≡ length grown

stands_new : (entries new : List FootprintEntry) (parts more grown : List ℕ) (e : FootprintEntry) → IsAdded entries new parts more grown e → Stands (parts ++ more) e
stands_new entries new parts more grown e is =
    let first = is.first in
    let end : e.end ≡ length (parts ++ more) = is.end ∙ ap length is.grows in
    record {
      low = omega (arith, first, end, length-append parts more);
      high = omega (arith, end);
      rising = subst Rises (sym (between_new parts more e.first e.end first end)) is.rising;
    }

pub kept_added : (entries new : List FootprintEntry) (parts more grown index places : List ℕ) (e : FootprintEntry) → AreKept entries parts index → IsAdded entries new parts more grown e
    → length entries < 1024 → length places ≡ length index → AreKept new grown places
kept_added entries new parts more grown index places e kept is room long =
    let size = kept.places in
    subst (λ (es : List FootprintEntry). AreKept es grown places) (sym is.pushed) (subst (λ (ns : List ℕ). AreKept (entries ++ e ∷ []) ns places) (sym is.grows) (record {
      few = omega (arith, room, length-append entries (e ∷ []));
      stand = λ i x there. elim (slice_get_of_push entries e i x there) [
        | inl was ↦ stands_more parts more x (kept.stand i x was)
        | inr last ↦ subst (Stands (parts ++ more)) (sym last.1) (stands_new entries new parts more grown e is)
      ];
      places = long ∙ size;
    }))

-- the value of the new entry
abbrev pub value_added : FootprintEntry → List ℕ → EntryValue
value_added e more = record { picks = e.choice.picks; ending = ending_of e.outcome; told = told_or e.all more }

pub values_added : (entries new : List FootprintEntry) (parts more grown index : List ℕ) (e : FootprintEntry) (values : List EntryValue) → AreKept entries parts index
    → IsAdded entries new parts more grown e → map (entry_value parts) entries ≡ values → map (entry_value grown) new ≡ values ++ value_added e more ∷ []
values_added entries new parts more grown index e values kept is same =
    let first = is.first in
    let end : e.end ≡ length (parts ++ more) = is.end ∙ ap length is.grows in
    let own : entry_value (parts ++ more) e ≡ value_added e more =
    ap (λ (ns : List ℕ). record { picks = e.choice.picks; ending = ending_of e.outcome; told = told_or e.all ns }) (between_new parts more e.first e.end first end) in
    ap (map (entry_value grown)) is.pushed ∙ ap (λ (ns : List ℕ). map (entry_value ns) (entries ++ e ∷ [])) is.grows
    ∙ map-append (entry_value (parts ++ more)) entries (e ∷ [])
    ∙ ap (λ (vs : List EntryValue). vs ++ entry_value (parts ++ more) e ∷ []) (values_more entries parts more kept.stand ∙ same)
    ∙ ap (λ (v : EntryValue). values ++ v ∷ []) own

-- it is true where the others are
pub known_added : (s : Subject) (place : ℕ) (checker : CheckerValue) (values new : List EntryValue) (value : EntryValue) → new ≡ values ++ value ∷ []
    → AreKnown s place checker values → IsKnown s place checker value → AreKnown s place checker new
known_added s place checker values new value is known own i entry there = elim (slice_get_of_push values value i entry (ap (λ (vs : List EntryValue). slice_get vs i) (sym is) ∙ there)) [
  | inl was ↦ known i entry was
  | inr last ↦ subst (IsKnown s place checker) (sym last.1) own
]

pub entry_added : (values new : List EntryValue) (value : EntryValue) (picks : List Pick) (i : ℕ) → new ≡ values ++ value ∷ [] → i ≡ length values → picks ≡ value.picks
    → IsEntryOf new i picks
entry_added values new value picks i is at own = record {
  entry = value;
  there = ap (λ (vs : List EntryValue). slice_get vs i) is ∙ ap (slice_get (values ++ value ∷ [])) at ∙ slice_get-push values value;
  own = own;
}

-- an entry as contracts see it
pub entry_there : (entries : List FootprintEntry) (parts : List ℕ) (values : List EntryValue) (i : ℕ) (e : FootprintEntry) (picks : List Pick) → map (entry_value parts) entries ≡ values
    → slice_get entries i ≡ Some e → picks ≡ e.choice.picks → IsEntryOf values i picks
entry_there entries parts values i e picks is there own = record {
  entry = entry_value parts e;
  there = ap (λ (vs : List EntryValue). slice_get vs i) (sym is) ∙ slice_get-map (entry_value parts) entries i ∙ ap (option_map (entry_value parts)) there;
  own = own;
}

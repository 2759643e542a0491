-- What a failing line of a run says is within what its head says (docs/COMMANDS.md, Joining parts).
use Rattle.std.proofs.Common.{ℕ, suc, ◌≡◌, ◌==◌, ◌<◌, ◌≤◌, ◌&&◌, ◌||◌, nat_le, nat_lt, inl, inr, Bool, true, false, List, [], ◌∷◌, length, map, slice_get, Option, Some, None, IfSome, refl, arith}
use Rattle.std.proofs.lemmas.Bool.Decides.{nat_tests}
use Rattle.logfmt.specs.declared.entry.Entry.{Entry}
use Rattle.epochs.specs.declared.part.By.{By}
use Rattle.epochs.specs.Cuts.{is_after_first, is_before_last}
use Rattle.epochs.specs.Laws.{Precedes as PartPrecedes}
use Rattle.choices.specs.declared.choice.Departure.{Departure}
use Rattle.choices.specs.declared.fate.Fate.{Fate}
use Rattle.choices.specs.declared.fate.Fate.TheVariants as fate
use Rattle.choices.specs.CrashModel.{IsAdmissible, IsFate}
use Rattle.choices.specs.Named.{name_of}
use Rattle.join.specs.Printable.{comes_before, names_rise, all_rise, is_drop, is_name_of_run, each_of_run}

pub both : (a b : Bool) → a ≡ true → b ≡ true → (a && b) ≡ true
both a b one two = rw (one, two) refl

-- the departures of a choice rise
comes : (c d : Departure) → PartPrecedes c.part d.part → comes_before (name_of c) (name_of d) ≡ true
comes c d (inl less) = let one : nat_lt c.part.entry d.part.entry ≡ true = grind (arith, nat_tests, less) in rw one refl
comes c d (inr (same, less)) =
    let none : nat_lt c.part.entry d.part.entry ≡ false = grind (arith, nat_tests, same) in
    let entry : (c.part.entry == d.part.entry) ≡ true = grind (arith, nat_tests, same) in
    let place : nat_lt c.part.place d.part.place ≡ true = grind (arith, nat_tests, less) in
    rw (none, entry, place) refl

abbrev ArePreceding : List Departure → Type 0
ArePreceding ds = (i j : ℕ) (c d : Departure) → i < j → slice_get ds i ≡ Some c → slice_get ds j ≡ Some d → PartPrecedes c.part d.part

rises_from : (d : Departure) (ds : List Departure) → ArePreceding (d ∷ ds) → names_rise (name_of d) (map name_of ds) ≡ true
rises_from d [] precede = refl
rises_from d (e ∷ ds) precede =
    both (comes_before (name_of d) (name_of e)) (names_rise (name_of e) (map name_of ds)) (comes d e (precede 0 1 d e (omega arith) refl refl))
    (rises_from e ds (λ i j a b less at also. precede (suc i) (suc j) a b (omega (arith, less)) at also))

rises : (ds : List Departure) → ArePreceding ds → all_rise (map name_of ds) ≡ true
rises [] precede = refl
rises (d ∷ ds) precede = rises_from d ds precede

-- each is of an entry before the cut, and torn only where there are tears
fate_of_run : (tears : Bool) (f : Fate) → IsFate tears f → (tears || is_drop f) ≡ true
fate_of_run true f is = refl
fate_of_run false fate.Drop is = refl
fate_of_run false (fate.Head t) is = absurd (let bad : false ≡ true = is.0 in cc)
fate_of_run false (fate.Tail t) is = absurd (let bad : false ≡ true = is.0 in cc)

each : (tears : Bool) (cut : ℕ) (ds : List Departure) → ((i : ℕ) (d : Departure) → slice_get ds i ≡ Some d → d.part.entry < cut) → ((i : ℕ) (d : Departure) → slice_get ds i ≡ Some d → IsFate tears d.fate)
    → each_of_run tears cut (map name_of ds) ≡ true
each tears cut [] before fates = refl
each tears cut (d ∷ ds) before fates =
    let less = before 0 d refl in
    let entry : nat_lt d.part.entry cut ≡ true = grind (arith, nat_tests, less) in
    both (is_name_of_run tears cut (name_of d)) (each_of_run tears cut (map name_of ds)) (both (nat_lt d.part.entry cut) (tears || is_drop d.fate) entry (fate_of_run tears d.fate (fates 0 d refl)))
    (each tears cut ds (λ i e there. before (suc i) e there) (λ i e there. fates (suc i) e there))

map_long : (ds : List Departure) → length (map name_of ds) ≡ length ds
map_long [] = refl
map_long (d ∷ ds) = let rest = map_long ds in omega (arith, rest)

pub names_of_run : (way : By) (es : List Entry) (cut bound : ℕ) (tears : Bool) (ds : List Departure) → IsAdmissible way es cut bound tears ds
    → (nat_le (length (map name_of ds)) bound && each_of_run tears cut (map name_of ds) && all_rise (map name_of ds)) ≡ true
names_of_run way es cut bound tears ds is =
    let few = is.few in
    let long = map_long ds in
    let count : nat_le (length (map name_of ds)) bound ≡ true = grind (arith, nat_tests, few, long) in
    let of_run = each tears cut ds (λ i d there. (is.volatile i d there).before) is.fates in
    let order = rises ds is.rising in
    rw (count, of_run, order) refl

-- the cut is in the range that is asked for
pub from_first : (first : Option ℕ) (cut : ℕ) → IfSome first (λ n. n ≤ cut) → is_after_first first cut ≡ true
from_first None cut is = refl
from_first (Some n) cut is = let test : nat_le n cut ≡ true = grind (arith, nat_tests, is) in test

pub to_last : (last : Option ℕ) (cut : ℕ) → IfSome last (λ n. cut ≤ n) → is_before_last last cut ≡ true
to_last None cut is = refl
to_last (Some n) cut is = let test : nat_le cut n ≡ true = grind (arith, nat_tests, is) in test

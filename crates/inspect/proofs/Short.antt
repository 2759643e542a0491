-- How long the text of a choice is.
use Rattle.std.proofs.Common.{ℕ, suc, ◌≡◌, ◌+◌, ◌*◌, ◌<◌, ◌≤◌, ◌^◌, Bool, true, List, [], ◌∷◌, ◌++◌, All, length, length-append, map, codes, slice_get, Some, refl, ap, arith}
use Rattle.std.specs.Fmt.{decimal}
use Rattle.std.specs.List.{flat_map}
use Rattle.std.proofs.lemmas.Fmt.{length-decimal-le}
use Rattle.logfmt.specs.Bounds.{IsLog}
use Rattle.epochs.specs.declared.part.By.{By}
use Rattle.epochs.specs.declared.part.By.TheVariants as by
use Rattle.epochs.specs.Plan.{PlanValue}
use Rattle.choices.specs.declared.fate.Fate.{Fate}
use Rattle.choices.specs.declared.fate.Fate.TheVariants as fate
use Rattle.choices.specs.declared.name.Name.{Name}
use Rattle.choices.specs.Choices.{ChoiceValue, ranked_choices}
use Rattle.choices.specs.CrashModel.{IsFate}
use Rattle.choices.specs.Named.{name_of}
use Rattle.report.specs.LineText.{choice_text}
use Rattle.report.specs.ChoiceText.{fate_text, name_text, next_name_text, names_text, part_text, IsPlace, IsName, AreNames}
use Rattle.inspect.proofs.Printed.{prints_choices, names_are}

number_short : (n : ℕ) → n < 2 ^ 32 → length (decimal n) ≤ 10
number_short n low = length-decimal-le 10 n (omega arith) (omega (arith, low)) (omega (arith, low))

eighths_short : (t : ℕ) → t < 8 → length (decimal t) ≤ 1
eighths_short t low = length-decimal-le 1 t (omega arith) (omega (arith, low)) (omega (arith, low))

fate_short : (f : Fate) → IsFate true f → length (fate_text f) ≤ 5
fate_short fate.Drop is = omega arith
fate_short (fate.Head t) is = omega (arith, length-append (codes "head") (decimal t), eighths_short t is.2)
fate_short (fate.Tail t) is = omega (arith, length-append (codes "tail") (decimal t), eighths_short t is.2)

part_short : (way : By) (entry place : ℕ) → entry < 2 ^ 32 → IsPlace way place → length (part_text way entry place) ≤ 21
unfolding part_text
part_short by.Sector entry place low within =
    let whole : length (part_text by.Sector entry place) ≡ length (decimal entry ++ codes ".") + length (decimal place) = length-append (decimal entry ++ codes ".") (decimal place) in
    omega (arith, whole, length-append (decimal entry) (codes "."), number_short entry low, number_short place within)
part_short by.Write entry place low within = let whole : length (part_text by.Write entry place) ≡ length (decimal entry) = refl in omega (arith, whole, number_short entry low)

name_short : (way : By) (n : Name) → IsName way n → length (name_text way n) ≤ 27
unfolding name_text
name_short way n is =
    let whole : length (name_text way n) ≡ length (part_text way n.entry n.place ++ codes ":") + length (fate_text n.fate) = length-append (part_text way n.entry n.place ++ codes ":") (fate_text n.fate) in
    omega (arith, whole, length-append (part_text way n.entry n.place) (codes ":"), part_short way n.entry n.place is.entry is.place, fate_short n.fate is.fate)

rest_short : (way : By) (ns : List Name) → All (IsName way) ns → length (flat_map (next_name_text way) ns) ≤ 28 * length ns
rest_short way [] is = omega arith
rest_short way (n ∷ ns) is =
    let whole : length (flat_map (next_name_text way) (n ∷ ns)) ≡ length (next_name_text way n) + length (flat_map (next_name_text way) ns) = length-append (next_name_text way n) (flat_map (next_name_text way) ns) in
    omega (arith, whole, length-append (codes ",") (name_text way n), name_short way n (is 0 n (omega arith)), rest_short way ns (λ k d l. is (suc k) d (omega (arith, l))))

pub names_short : (way : By) (ns : List Name) → AreNames way ns → length (names_text way ns) ≤ 96
unfolding names_text
names_short way [] are = let whole : length (names_text way []) ≡ 1 = refl in omega (arith, whole)
names_short way (n ∷ ns) are =
    let few : length (n ∷ ns) ≤ 3 = are.few in
    let whole : length (names_text way (n ∷ ns)) ≡ length (name_text way n) + length (flat_map (next_name_text way) ns) = length-append (name_text way n) (flat_map (next_name_text way) ns) in
    omega (arith, few, whole, name_short way n (are.names 0 n (omega arith)), rest_short way ns (λ k d l. are.names (suc k) d (omega (arith, l))))

-- a choice's text has at most 96 bytes
pub choices_are_short : (plan : PlanValue) (bound : ℕ) (tears : Bool) (n : ℕ) (c : ChoiceValue) → IsLog plan.log → bound ≤ 3
    → slice_get (ranked_choices plan bound tears) n ≡ Some c → length (choice_text plan.by c.departures) ≤ 96
choices_are_short plan bound tears n c bounds small there =
    let same : length (choice_text plan.by c.departures) ≡ length (names_text plan.by (map name_of c.departures)) = ap length (prints_choices plan.by c.departures) in
    omega (arith, same, names_short plan.by (map name_of c.departures) (names_are plan bound tears n c bounds small there))

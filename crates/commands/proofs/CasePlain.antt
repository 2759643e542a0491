-- The text of cases is a text: each of its bytes is one of ASCII.
use Rattle.std.proofs.Common.{ℕ, ◌≡◌, ◌==◌, ◌&&◌, Bool, true, false, if◌then◌else◌, List, [], ◌∷◌, ◌++◌, codes, Option, None, Some, refl}
use Rattle.std.specs.Fmt.{decimal}
use Rattle.std.specs.List.{flat_map, list_all}
use Rattle.std.specs.Str.{IsUtf8}
use Rattle.std.proofs.lemmas.Str.{IsUtf8-from_ascii}
use Rattle.base.specs.Causes.{fault_number}
use Rattle.machine.specs.Outcome.{Ending, Verdict, Stopped, OutOfSteps, Stray}
use Rattle.epochs.specs.declared.part.By.{By}
use Rattle.epochs.specs.declared.part.By.TheVariants as by
use Rattle.choices.specs.declared.fate.Fate.{Fate}
use Rattle.choices.specs.declared.fate.Fate.TheVariants as fate
use Rattle.choices.specs.declared.name.Name.{Name}
use Rattle.report.specs.ChoiceText.{fate_text, part_text, name_text, next_name_text, names_text}
use Rattle.report.specs.LineText.{codes_text, ending_text}
use Rattle.report.specs.Text.{yes_or_no}
use Rattle.report.specs.Report.{HeadValue, device_text, given_text, program_lines}
use Rattle.losses.specs.declared.flushes.window.Window.{Window}
use Rattle.losses.proofs.Plain.{both, number, is_plain, digit_plain, ascii}
use Rattle.losses.specs.declared.found.Losses.{Losses}
use Rattle.case_text.specs.Text.{torn_words, at_most_words, losses_text, opening_text, options_text, cases_head, fate_word, next_fate, fates_text, place_text, number_text, window_text, counts_text, beyond_text, are_all_cuts, extent_words, complete_word}
use Rattle.join.specs.declared.case_parts.names.PartName.{PartName}
use Rattle.join.specs.declared.case_parts.front.CaseFront.{CaseFront}
use Rattle.join.specs.declared.case_parts.totals.CaseTotals.{CaseTotals}
use Rattle.join.specs.CaseTexts.{MixedPart, ToldCase, CasesValue, front_text, next_part, parts_text, mixed_text, next_mixed, among_text, said_text, told_body, told_line, totals_line, told_text}
use Rattle.commands.proofs.HeadLines.{plain_device, plain_given, plain_programs}

abbrev IsPlain : List ℕ → Type 0
IsPlain bs = list_all is_plain bs ≡ true

plain_number : (n : ℕ) → IsPlain (decimal n)
plain_number n = number is_plain n digit_plain

more : (xs ys : List ℕ) → IsPlain xs → IsPlain ys → IsPlain (xs ++ ys)
more xs ys one two = both is_plain xs ys one two

all_of : {A : Type 0} (f : A → List ℕ) → ((x : A) → IsPlain (f x)) → (xs : List A) → IsPlain (flat_map f xs)
all_of f own [] = refl
all_of f own (x ∷ xs) = more (f x) (flat_map f xs) (own x) (all_of f own xs)

-- THE HEAD

plain_yes : (is : Bool) → IsPlain (yes_or_no is)
plain_yes true = refl
plain_yes false = refl

plain_torn : (asked : Losses) → IsPlain (torn_words asked)
plain_torn asked = by_test asked.tears
  where
    by_test : (b : Bool) → IsPlain (if b then codes " torn " ++ decimal asked.torn else [])
    by_test true = more (codes " torn ") (decimal asked.torn) refl (plain_number asked.torn)
    by_test false = refl

plain_most : (o : Option ℕ) → IsPlain (at_most_words o)
plain_most None = refl
plain_most (Some n) = more (codes " at-most ") (decimal n) refl (plain_number n)

plain_losses : (asked : Losses) → IsPlain (losses_text asked)
unfolding losses_text
plain_losses asked =
    let a : List ℕ = codes " bound any tears " ++ yes_or_no asked.tears in
    more (a ++ torn_words asked) (at_most_words asked.lost) (more a (torn_words asked) (more (codes " bound any tears ") (yes_or_no asked.tears) refl (plain_yes asked.tears)) (plain_torn asked)) (plain_most asked.lost)

plain_opening : (o : Option ℕ) → IsPlain (opening_text o)
plain_opening None = refl
plain_opening (Some n) =
    more (codes "crash cases 1\n") (codes "inputs " ++ decimal n ++ codes "\n") refl
    (more (codes "inputs " ++ decimal n) (codes "\n") (more (codes "inputs ") (decimal n) refl (plain_number n)) refl)

plain_head : (inputs : Option ℕ) (h : HeadValue) (asked : Losses) → IsPlain (cases_head inputs h asked)
unfolding options_text
plain_head inputs h asked =
    let a : List ℕ = device_text h ++ losses_text asked in
    let pa : IsPlain a = more (device_text h) (losses_text asked) (plain_device h) (plain_losses asked) in
    let b : List ℕ = a ++ given_text h in
    let pb : IsPlain b = more a (given_text h) pa (plain_given h) in
    more (opening_text inputs) (b ++ program_lines 0 h.programs) (plain_opening inputs) (more b (program_lines 0 h.programs) pb (plain_programs 0 h.programs))

-- AN ENDING

plain_codes : (ns : List ℕ) → IsPlain (codes_text ns)
unfolding codes_text
plain_codes [] = refl
plain_codes (n ∷ ns) =
    more (decimal n) (flat_map (λ (m : ℕ). codes "," ++ decimal m) ns) (plain_number n)
    (all_of (λ (m : ℕ). codes "," ++ decimal m) (λ m. more (codes ",") (decimal m) refl (plain_number m)) ns)

pub plain_ending : (e : Ending) → IsPlain (ending_text e)
plain_ending (Verdict answer numbers) =
    more (codes "answer " ++ decimal answer ++ codes " codes ") (codes_text numbers)
    (more (codes "answer " ++ decimal answer) (codes " codes ") (more (codes "answer ") (decimal answer) refl (plain_number answer)) refl) (plain_codes numbers)
plain_ending (Stopped cause slot) =
    more (codes "fault " ++ decimal (fault_number cause) ++ codes " slot ") (decimal slot)
    (more (codes "fault " ++ decimal (fault_number cause)) (codes " slot ") (more (codes "fault ") (decimal (fault_number cause)) refl (plain_number (fault_number cause))) refl)
    (plain_number slot)
plain_ending OutOfSteps = refl
plain_ending (Stray slot) = more (codes "stray at slot ") (decimal slot) refl (plain_number slot)

-- PARTS AND FATES

plain_fate : (f : Fate) → IsPlain (fate_text f)
plain_fate fate.Drop = refl
plain_fate (fate.Head t) = more (codes "head") (decimal t) refl (plain_number t)
plain_fate (fate.Tail t) = more (codes "tail") (decimal t) refl (plain_number t)

plain_word : (f : Option Fate) → IsPlain (fate_word f)
plain_word None = refl
plain_word (Some f) = plain_fate f

plain_fates : (fs : List (Option Fate)) → IsPlain (fates_text fs)
unfolding fates_text
plain_fates [] = refl
plain_fates (f ∷ fs) = more (fate_word f) (flat_map next_fate fs) (plain_word f) (all_of next_fate (λ g. more (codes "+") (fate_word g) refl (plain_word g)) fs)

plain_part : (way : By) (entry place : ℕ) → IsPlain (part_text way entry place)
unfolding part_text
plain_part by.Sector entry place = more (decimal entry ++ codes ".") (decimal place) (more (decimal entry) (codes ".") (plain_number entry) refl) (plain_number place)
plain_part by.Write entry place = plain_number entry

plain_name : (way : By) (n : Name) → IsPlain (name_text way n)
unfolding name_text
plain_name way n =
    more (part_text way n.entry n.place ++ codes ":") (fate_text n.fate) (more (part_text way n.entry n.place) (codes ":") (plain_part way n.entry n.place) refl) (plain_fate n.fate)

plain_names : (way : By) (ns : List Name) → IsPlain (names_text way ns)
unfolding names_text
plain_names way [] = refl
plain_names way (n ∷ ns) = more (name_text way n) (flat_map (next_name_text way) ns) (plain_name way n) (all_of (next_name_text way) (λ m. more (codes ",") (name_text way m) refl (plain_name way m)) ns)

plain_parts : (way : By) (ps : List PartName) → IsPlain (parts_text way ps)
unfolding parts_text
plain_parts way [] = refl
plain_parts way (p ∷ ps) =
    more (part_text way p.entry p.place) (flat_map (next_part way) ps) (plain_part way p.entry p.place)
    (all_of (next_part way) (λ q. more (codes ",") (part_text way q.entry q.place) refl (plain_part way q.entry q.place)) ps)

plain_mixed : (way : By) (m : MixedPart) → IsPlain (mixed_text way m)
unfolding mixed_text
plain_mixed way m =
    more (part_text way m.part.entry m.part.place ++ codes ":") (fates_text m.fates) (more (part_text way m.part.entry m.part.place) (codes ":") (plain_part way m.part.entry m.part.place) refl) (plain_fates m.fates)

plain_among : (way : By) (ms : List MixedPart) → IsPlain (among_text way ms)
unfolding among_text
plain_among way [] = refl
plain_among way (m ∷ ms) =
    more (codes " among " ++ mixed_text way m) (flat_map (next_mixed way) ms) (more (codes " among ") (mixed_text way m) refl (plain_mixed way m))
    (all_of (next_mixed way) (λ n. more (codes ",") (mixed_text way n) refl (plain_mixed way n)) ms)

plain_said : (way : By) (t : ToldCase) → IsPlain (said_text way t)
unfolding said_text
plain_said way t =
    let a : List ℕ = codes " choice " ++ names_text way t.lost in
    let pa : IsPlain a = more (codes " choice ") (names_text way t.lost) refl (plain_names way t.lost) in
    let b : List ℕ = a ++ codes " kept " ++ parts_text way t.kept in
    let pb : IsPlain b = more (a ++ codes " kept ") (parts_text way t.kept) (more a (codes " kept ") pa refl) (plain_parts way t.kept) in
    let d : List ℕ = b ++ among_text way t.mixed in
    let pd : IsPlain d = more b (among_text way t.mixed) pb (plain_among way t.mixed) in
    more (d ++ codes " free ") (decimal t.free) (more d (codes " free ") pd refl) (plain_number t.free)

plain_window : (o : Option Window) → IsPlain (window_text o)
plain_window None = refl
plain_window (Some w) =
    more (codes " flush " ++ decimal w.start ++ codes "..") (decimal w.end)
    (more (codes " flush " ++ decimal w.start) (codes "..") (more (codes " flush ") (decimal w.start) refl (plain_number w.start)) refl) (plain_number w.end)

plain_front : (f : CaseFront) → IsPlain (front_text f)
unfolding front_text place_text number_text
plain_front f =
    let a : List ℕ = codes "cut " ++ decimal f.cut in
    let pa : IsPlain a = more (codes "cut ") (decimal f.cut) refl (plain_number f.cut) in
    let b : List ℕ = a ++ codes " epoch " ++ decimal f.epoch in
    let pb : IsPlain b = more (a ++ codes " epoch ") (decimal f.epoch) (more a (codes " epoch ") pa refl) (plain_number f.epoch) in
    let d : List ℕ = b ++ codes " marks " ++ decimal f.marks in
    let pd : IsPlain d = more (b ++ codes " marks ") (decimal f.marks) (more b (codes " marks ") pb refl) (plain_number f.marks) in
    let e : List ℕ = codes " program " ++ decimal f.program in
    let pe : IsPlain e = more (codes " program ") (decimal f.program) refl (plain_number f.program) in
    let g : List ℕ = e ++ codes " case " ++ decimal f.number in
    let pg : IsPlain g = more (e ++ codes " case ") (decimal f.number) (more e (codes " case ") pe refl) (plain_number f.number) in
    more d (g ++ codes " ") pd (more g (codes " ") pg refl)

plain_line : (way : By) (t : ToldCase) → IsPlain t.outcome → IsPlain (told_line way t)
unfolding told_body
plain_line way t own =
    let a : List ℕ = front_text t.front ++ t.outcome in
    let pa : IsPlain a = more (front_text t.front) t.outcome (plain_front t.front) own in
    let b : List ℕ = a ++ said_text way t in
    let pb : IsPlain b = more a (said_text way t) pa (plain_said way t) in
    more (b ++ window_text t.window) (codes "\n") (more b (window_text t.window) pb (plain_window t.window)) refl

plain_complete : (all : Bool) (torn lost : ℕ) → IsPlain (complete_word all torn lost)
plain_complete all torn lost = by_test ((torn == 0) && (lost == 0)) all
  where
    by_test : (b a : Bool) → IsPlain (if b then extent_words a else [])
    by_test true true = refl
    by_test true false = refl
    by_test false a = refl

plain_totals : (all : Bool) (t : CaseTotals) → IsPlain (totals_line all t)
unfolding totals_line counts_text beyond_text
plain_totals all t =
    let a : List ℕ = codes "cuts " ++ decimal t.cuts in
    let pa : IsPlain a = more (codes "cuts ") (decimal t.cuts) refl (plain_number t.cuts) in
    let b : List ℕ = a ++ codes " cases " ++ decimal t.cases in
    let pb : IsPlain b = more (a ++ codes " cases ") (decimal t.cases) (more a (codes " cases ") pa refl) (plain_number t.cases) in
    let d : List ℕ = b ++ codes " failing " ++ decimal t.failing in
    let pd : IsPlain d = more (b ++ codes " failing ") (decimal t.failing) (more b (codes " failing ") pb refl) (plain_number t.failing) in
    let e : List ℕ = codes " torn beyond " ++ decimal t.torn in
    let pe : IsPlain e = more (codes " torn beyond ") (decimal t.torn) refl (plain_number t.torn) in
    let g : List ℕ = e ++ codes " lost beyond " ++ decimal t.lost in
    let pg : IsPlain g = more (e ++ codes " lost beyond ") (decimal t.lost) (more e (codes " lost beyond ") pe refl) (plain_number t.lost) in
    more (d ++ g ++ complete_word all t.torn t.lost) (codes "\n") (more (d ++ g) (complete_word all t.torn t.lost) (more d g pd pg) (plain_complete all t.torn t.lost)) refl

-- THE WHOLE TEXT

-- what each line says of its outcome is of ASCII
abbrev pub HavePlain : List ToldCase → Type 0
HavePlain [] = Unit {0}
HavePlain (t ∷ ts) = (list_all is_plain t.outcome ≡ true) × HavePlain ts

plain_lines : (way : By) (ts : List ToldCase) → HavePlain ts → IsPlain (flat_map (told_line way) ts)
plain_lines way [] each = refl
plain_lines way (t ∷ ts) each = more (told_line way t) (flat_map (told_line way) ts) (plain_line way t each.0) (plain_lines way ts each.1)

pub cases_are_text : (c : CasesValue) → HavePlain c.told → IsUtf8 (told_text c)
unfolding told_text
cases_are_text c each =
    let lines : List ℕ = flat_map (told_line c.head.by) c.told in
    let rest : IsPlain (lines ++ totals_line (are_all_cuts c.head.cuts) c.totals) = more lines (totals_line (are_all_cuts c.head.cuts) c.totals) (plain_lines c.head.by c.told each) (plain_totals (are_all_cuts c.head.cuts) c.totals) in
    let all : IsPlain (cases_head c.inputs c.head c.asked ++ (lines ++ totals_line (are_all_cuts c.head.cuts) c.totals)) = more (cases_head c.inputs c.head c.asked) (lines ++ totals_line (are_all_cuts c.head.cuts) c.totals) (plain_head c.inputs c.head c.asked) rest in
    IsUtf8-from_ascii (cases_head c.inputs c.head c.asked ++ (lines ++ totals_line (are_all_cuts c.head.cuts) c.totals)) (ascii (cases_head c.inputs c.head c.asked ++ (lines ++ totals_line (are_all_cuts c.head.cuts) c.totals)) all)

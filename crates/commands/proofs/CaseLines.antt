-- A line of a run is a line that a text of cases may have.
use Rattle.std.proofs.Common.{ℕ, zero, suc, ◌≡◌, ◌<◌, ◌≤◌, ◌&&◌, nat_le, nat_lt, Bool, true, List, [], ◌∷◌, ◌++◌, length, map, filter, take, Option, None, Some, MatchOption, refl, ap, arith}
use Rattle.std.specs.List.{flat_map}
use Rattle.std.proofs.lemmas.Bool.Decides.{nat_tests}
use Rattle.std.proofs.lemmas.List.Sums.{count_by-le-length}
use Rattle.logfmt.specs.declared.entry.Entry.{Entry}
use Rattle.logfmt.specs.Bounds.{IsLog}
use Rattle.epochs.specs.declared.part.Part.{Part}
use Rattle.epochs.specs.declared.part.By.{By}
use Rattle.epochs.specs.Units.{epoch_at, marks_at}
use Rattle.report.specs.LineText.{ending_text}
use Rattle.report.specs.Report.{HeadValue}
use Rattle.report.specs.ChoiceText.{part_text}
use Rattle.losses.specs.declared.flushes.window.Window.{Window}
use Rattle.cases.specs.Cases.{Case}
use Rattle.cases.specs.AtCut.{CutValue, parts_of, case_of}
use Rattle.losses.specs.FoundCases.{most_cases, FailingValue}
use Rattle.case_text.specs.Known.{PartFates, is_kept, mixed_parts}
use Rattle.case_text.specs.Laws.{HasNoWindow, IsWindow}
use Rattle.case_text.specs.Window.{case_window}
use Rattle.case_text.specs.Text.{case_line, known_text}
use Rattle.case_text.specs.Text.{parts_text as parts_in_text}
use Rattle.case_text.specs.Text.{mixed_text as mixed_in_text}
use Rattle.case_text.specs.Text.{among_text as among_in_text}
use Rattle.case_text.specs.Text.{next_part as next_in_text}
use Rattle.case_text.specs.Text.{next_mixed as next_mixed_in_text}
use Rattle.case_text.proofs.Windowed.{window_is_told}
use Rattle.join.specs.declared.case_parts.front.CaseFront.{CaseFront}
use Rattle.join.specs.Endings.{IsEnding}
use Rattle.join.specs.Printable.{has_program_and_cut}
use Rattle.join.specs.CaseTexts.{ToldCase, parts_text, mixed_text, among_text, next_part, next_mixed, front_text, said_text, told_body, told_line, is_front_of_run, is_window_of_run, IsToldCase, all_of_run, all_rise, go_together}
use Rattle.commands.proofs.CaseFates.{IsFair}
use Rattle.commands.proofs.CasePlaces.{named, risky_rise, risky_of_run, risky_few}
use Rattle.commands.proofs.CaseKnown.{told_mixed, told_by, AreTold, parts_told, free_few}

-- A FAILING CASE AS IT IS TOLD

abbrev pub front_at : CutValue → ℕ → ℕ → CaseFront
front_at at program number = record { cut = at.cut; epoch = epoch_at at.log.entries at.cut; marks = marks_at at.log.entries at.cut; program = program; number = number }

abbrev pub case_at : CutValue → Bool → FailingValue → Case
case_at at tears f = case_of tears (parts_of at) f.sets

abbrev pub told_case : CutValue → Bool → ℕ → FailingValue → ToldCase
told_case at tears program f = told_by (front_at at program f.number) (ending_text f.ending) tears (case_at at tears f) (parts_of at) (case_window at (case_at at tears f))

next_parts : (way : By) (ps : List Part) → flat_map (next_part way) (map named ps) ≡ flat_map (next_in_text way) ps
next_parts way [] = refl
next_parts way (p ∷ ps) = ap (λ (bs : List ℕ). next_in_text way p ++ bs) (next_parts way ps)

parts_are : (way : By) (ps : List Part) → parts_text way (map named ps) ≡ parts_in_text way ps
unfolding parts_text parts_in_text
parts_are way [] = refl
parts_are way (p ∷ ps) = ap (λ (bs : List ℕ). part_text_of p ++ bs) (next_parts way ps)
  where
    part_text_of : Part → List ℕ
    part_text_of q = part_text way q.entry q.place

mixed_is : (way : By) (m : PartFates) → mixed_text way (told_mixed m) ≡ mixed_in_text way m
unfolding mixed_text mixed_in_text
mixed_is way m = refl

next_mixed_are : (way : By) (ms : List PartFates) → flat_map (next_mixed way) (map told_mixed ms) ≡ flat_map (next_mixed_in_text way) ms
next_mixed_are way [] = refl
next_mixed_are way (m ∷ ms) =
    let one = mixed_is way m in
    let rest = next_mixed_are way ms in
    rw (one, rest) refl

among_are : (way : By) (ms : List PartFates) → among_text way (map told_mixed ms) ≡ among_in_text way ms
unfolding among_text among_in_text
among_are way [] = refl
among_are way (m ∷ ms) =
    let one = mixed_is way m in
    let rest = next_mixed_are way ms in
    rw (one, rest) refl

pub line_is : (at : CutValue) (tears : Bool) (program : ℕ) (f : FailingValue) → told_line at.way (told_case at tears program f) ≡ case_line at tears program f
unfolding told_body front_text said_text case_line known_text
line_is at tears program f =
    let kept = parts_are at.way (filter (λ (p : Part). is_kept (case_at at tears f p)) (parts_of at)) in
    let among = among_are at.way (mixed_parts tears (case_at at tears f) (parts_of at)) in
    rw (kept, among) refl

-- IT IS ONE OF A RUN

-- a failing case of a program at a cut: its number is one of a run, each part has some fates, and the ending is one on which the program fails
pub record IsPrintedCase (h : HeadValue) (at : CutValue) (tears : Bool) (f : FailingValue) : Type 0 where
  pub number : f.number < most_cases
  pub fair : IsFair tears (case_at at tears f)
  pub ending : IsEnding (ending_text f.ending)

taken : {A : Type 0} (k : ℕ) (xs : List A) → length (take k xs) ≤ k
taken zero xs = omega arith
taken (suc k) [] = omega arith
taken (suc k) (x ∷ xs) = let rest = taken k xs in omega (arith, rest)

epoch_low : (es : List Entry) (k : ℕ) → epoch_at es k ≤ k
epoch_low es k =
    let few = count_by-le-length (λ (entry : Entry). entry.flags.flush) (take k es) in
    let long = taken k es in
    omega (arith, few, long)

marks_low : (es : List Entry) (k : ℕ) → marks_at es k ≤ k
marks_low es k =
    let few = count_by-le-length (λ (entry : Entry). entry.flags.mark) (take k es) in
    let long = taken k es in
    omega (arith, few, long)

window_told : (at : CutValue) (c : Case) (o : Option Window) → MatchOption o (HasNoWindow at c) (IsWindow at c) → is_window_of_run at.cut o ≡ true
window_told at c None told = refl
window_told at c (Some w) told =
    let up = told.order in
    let before = told.before in
    let one : nat_le w.start w.end ≡ true = grind (arith, nat_tests, up) in
    let two : nat_lt w.end at.cut ≡ true = grind (arith, nat_tests, before) in
    rw (one, two) refl

pub case_is_told : (h : HeadValue) (at : CutValue) (tears : Bool) (program : ℕ) (f : FailingValue) → IsLog at.log → at.cut ≤ length at.log.entries → at.way ≡ h.by → tears ≡ h.tears
    → has_program_and_cut h at.cut program ≡ true → IsPrintedCase h at tears f → IsToldCase h (told_case at tears program f)
case_is_told h at tears program f bounds within way torn there is =
    let parts = risky_few at.log at.way at.cut bounds in
    let free = free_few tears (case_at at tears f) (parts_of at) in
    let told : AreTold at.way tears at.cut (case_at at tears f) (parts_of at) = record {
      rise = risky_rise at.way at.log.entries at.cut;
      each = λ p among. risky_of_run at.log at.way at.cut p bounds within among;
      fair = is.fair;
    } in
    let t : ToldCase = told_case at tears program f in
    let of_parts = parts_told at.way tears at.cut (case_at at tears f) (parts_of at) (front_at at program f.number) (ending_text f.ending) (case_window at (case_at at tears f)) told in
    let of_head : (all_of_run h.by h.tears at.cut t && (all_rise t && go_together t)) ≡ true = rw (← way, ← torn) of_parts in
    let epoch = epoch_low at.log.entries at.cut in
    let marks = marks_low at.log.entries at.cut in
    let number = is.number in
    let one : nat_le (epoch_at at.log.entries at.cut) at.cut ≡ true = grind (arith, nat_tests, epoch) in
    let two : nat_le (marks_at at.log.entries at.cut) at.cut ≡ true = grind (arith, nat_tests, marks) in
    let three : nat_lt f.number most_cases ≡ true = grind (arith, nat_tests, number) in
    let front : is_front_of_run h t.front ≡ true = rw (there, one, two, three) refl in
    let window : is_window_of_run at.cut t.window ≡ true = window_told at (case_at at tears f) (case_window at (case_at at tears f)) (window_is_told at (case_at at tears f) within) in
    record {
      outcome = is.ending;
      free = omega (arith, parts, free);
      of_run = rw (front, window, of_head) refl;
    }

-- The text that a run of cases prints is a text of cases.
use Rattle.std.proofs.Common.{ℕ, ◌≡◌, ◌+◌, ◌-◌, ◌<◌, ◌≤◌, ◌^◌, ◌==◌, nat_le, nat_lt, Bool, true, false, not, if◌then◌else◌, List, [], ◌∷◌, ◌++◌, length, length-append, map, append_assoc, Option, None, Some, unwrap_or, refl, sym, subst, ◌∙◌, ap, arith}
use Rattle.std.specs.List.{flat_map, sum_by}
use Rattle.std.specs.Str.{IsUtf8}
use Rattle.std.proofs.lemmas.Bool.Decides.{nat_tests}
use Rattle.std.proofs.lemmas.Grind.{flat_map-append}
use Rattle.std.proofs.lemmas.Int.{clamps}
use Rattle.std.proofs.lemmas.List.Sums.{sum_by-cons, sum_by-append}
use Rattle.logfmt.specs.Bounds.{LogValue, IsLog}
use Rattle.epochs.specs.declared.part.By.{By}
use Rattle.epochs.specs.Cuts.{is_after_first, is_before_last}
use Rattle.report.specs.Report.{HeadValue}
use Rattle.cases.specs.AtCut.{CutValue}
use Rattle.losses.specs.declared.found.FailingCase.{FailingCase}
use Rattle.losses.specs.declared.found.Losses.{Losses}
use Rattle.losses.specs.declared.found.CaseFindings.{CaseFindings}
use Rattle.losses.specs.declared.found.CutFound.{CutFound}
use Rattle.losses.specs.FoundCases.{most_cases, cases_at, cases_in, failing_value}
use Rattle.case_text.specs.Text.{in_word, has_range, are_all_cuts, inputs_told, cases_head, case_line, program_cases, programs_cases, cut_cases, all_found, count_cases, count_failing, count_torn_beyond, count_lost_beyond, totals_text, cases_bytes}
use Rattle.join.specs.declared.case_parts.totals.CaseTotals.{CaseTotals}
use Rattle.join.specs.Heads.{IsPrintedHead}
use Rattle.join.specs.Printable.{has_program_and_cut}
use Rattle.join.specs.CaseTexts.{ToldCase, CasesValue, told_line, told_text, totals_line, AreInputs, AreLosses, AreToldCases, fronts_of, count_cuts, first_of, last_of, AreTotals, IsCasesText}
use Rattle.join.specs.CaseReading.{Each}
use Rattle.commands.proofs.CaseFates.{NumbersRise}
use Rattle.commands.proofs.CaseLines.{IsPrintedCase, line_is, case_is_told}
use Rattle.commands.proofs.CaseOrder.{program_told, programs_told, at_cut, cut_told, told_of_all, CutsRise, NumbersOf, told_rise, told_at_few, rise_few, rise_later}
use Rattle.commands.proofs.CasePlain.{HavePlain, plain_ending, cases_are_text}

-- WHAT IS FOUND, AS IT CAN BE PRINTED

-- with a program at a cut
pub record IsPrintedFound (h : HeadValue) (asked : Losses) (at : CutValue) (f : CaseFindings) : Type 0 where
  pub each : Each (IsPrintedCase h at asked.tears) (map failing_value f.failing.items)
  pub rise : NumbersRise 0 (map failing_value f.failing.items)
  pub few : length f.failing.items ≤ f.cases

-- at a cut
pub record IsPrintedCut (h : HeadValue) (asked : Losses) (log : LogValue) (c : CutFound) : Type 0 where
  pub within : c.cut ≤ length log.entries
  pub after : is_after_first h.cuts.from c.cut ≡ true
  pub before : is_before_last h.cuts.to c.cut ≡ true
  pub programs : length c.programs.items ≤ length h.programs
  pub each : Each (IsPrintedFound h asked (at_cut log h.by c.cut)) c.programs.items

-- at the cuts of a run
pub record ArePrinted (h : HeadValue) (asked : Losses) (log : LogValue) (found : List CutFound) : Type 0 where
  pub bounds : IsLog log
  pub entries : h.entries ≡ length log.entries
  pub head : IsPrintedHead h
  pub losses : AreLosses h asked
  pub each : Each (IsPrintedCut h asked log) found
  pub rise : CutsRise 0 found
  pub few : cases_in found ≤ most_cases

-- the cases of the text
abbrev pub totals_of : List CutFound → CaseTotals
totals_of found = record {
  cuts = length found;
  cases = count_cases found;
  failing = count_failing found;
  torn = count_torn_beyond found;
  lost = count_lost_beyond found;
}

abbrev pub printed_cases : ℕ → HeadValue → Losses → LogValue → List CutFound → CasesValue
printed_cases inputs h asked log found = record { inputs = inputs_told h.cuts inputs; head = h; asked = asked; told = told_of_all log h.by asked.tears found; totals = totals_of found }

-- THE TEXT

program_lines_are : (at : CutValue) (tears : Bool) (program : ℕ) (fs : List FailingCase) → flat_map (told_line at.way) (program_told at tears program fs) ≡ program_cases at tears program fs
program_lines_are at tears program [] = refl
program_lines_are at tears program (f ∷ fs) =
    let one = line_is at tears program (failing_value f) in
    let rest = program_lines_are at tears program fs in
    ap (λ (bs : List ℕ). bs ++ flat_map (told_line at.way) (program_told at tears program fs)) one
    ∙ ap (λ (bs : List ℕ). case_line at tears program (failing_value f) ++ bs) rest

programs_lines_are : (at : CutValue) (tears : Bool) (program : ℕ) (found : List CaseFindings) → flat_map (told_line at.way) (programs_told at tears program found) ≡ programs_cases at tears program found
programs_lines_are at tears program [] = refl
programs_lines_are at tears program (f ∷ found) =
    let one = program_lines_are at tears program f.failing.items in
    let rest = programs_lines_are at tears (program + 1) found in
    flat_map-append (told_line at.way) (program_told at tears program f.failing.items) (programs_told at tears (program + 1) found)
    ∙ ap (λ (bs : List ℕ). bs ++ flat_map (told_line at.way) (programs_told at tears (program + 1) found)) one
    ∙ ap (λ (bs : List ℕ). program_cases at tears program f.failing.items ++ bs) rest

pub lines_are : (log : LogValue) (way : By) (tears : Bool) (found : List CutFound) → flat_map (told_line way) (told_of_all log way tears found) ≡ flat_map (cut_cases log way tears) found
lines_are log way tears [] = refl
lines_are log way tears (c ∷ found) =
    let one = programs_lines_are (at_cut log way c.cut) tears 0 c.programs.items in
    let rest = lines_are log way tears found in
    flat_map-append (told_line way) (cut_told log way tears c) (told_of_all log way tears found)
    ∙ ap (λ (bs : List ℕ). bs ++ flat_map (told_line way) (told_of_all log way tears found)) one
    ∙ ap (λ (bs : List ℕ). cut_cases log way tears c ++ bs) rest

totals_are : (all : Bool) (found : List CutFound) → totals_line all (totals_of found) ≡ totals_text all found
unfolding totals_line totals_text
totals_are all found = refl

pub text_is : (inputs : ℕ) (h : HeadValue) (asked : Losses) (log : LogValue) (found : List CutFound) → cases_bytes inputs h asked log found ≡ told_text (printed_cases inputs h asked log found)
unfolding cases_bytes told_text
text_is inputs h asked log found =
    let lines = lines_are log h.by asked.tears found in
    let totals = totals_are (are_all_cuts h.cuts) found in
    append_assoc (cases_head (inputs_told h.cuts inputs) h asked) (flat_map (cut_cases log h.by asked.tears) found) (totals_text (are_all_cuts h.cuts) found)
    ∙ ap (λ (bs : List ℕ). cases_head (inputs_told h.cuts inputs) h asked ++ (bs ++ totals_text (are_all_cuts h.cuts) found)) (sym lines)
    ∙ ap (λ (bs : List ℕ). cases_head (inputs_told h.cuts inputs) h asked ++ (flat_map (told_line h.by) (told_of_all log h.by asked.tears found) ++ bs)) (sym totals)

-- EACH LINE IS ONE OF A RUN

told_both : (h : HeadValue) (ts us : List ToldCase) → AreToldCases h ts → AreToldCases h us → AreToldCases h (ts ++ us)
told_both h [] us one two = two
told_both h (t ∷ ts) us one two = (one.0, told_both h ts us one.1 two)

program_is_told : (h : HeadValue) (at : CutValue) (tears : Bool) (program : ℕ) (fs : List FailingCase) → IsLog at.log → at.cut ≤ length at.log.entries → at.way ≡ h.by → tears ≡ h.tears
    → has_program_and_cut h at.cut program ≡ true → Each (IsPrintedCase h at tears) (map failing_value fs) → AreToldCases h (program_told at tears program fs)
program_is_told h at tears program [] bounds within way torn there each = tt
program_is_told h at tears program (f ∷ fs) bounds within way torn there each =
    (case_is_told h at tears program (failing_value f) bounds within way torn there each.0, program_is_told h at tears program fs bounds within way torn there each.1)

programs_are_told : (h : HeadValue) (asked : Losses) (at : CutValue) (program : ℕ) (found : List CaseFindings) → IsLog at.log → at.cut ≤ length at.log.entries → at.way ≡ h.by → asked.tears ≡ h.tears
    → h.entries ≡ length at.log.entries → is_after_first h.cuts.from at.cut ≡ true → is_before_last h.cuts.to at.cut ≡ true → program + length found ≤ length h.programs
    → Each (IsPrintedFound h asked at) found → AreToldCases h (programs_told at asked.tears program found)
programs_are_told h asked at program [] bounds within way torn entries after before few each = tt
programs_are_told h asked at program (f ∷ found) bounds within way torn entries after before few each =
    let less : program < length h.programs = omega (arith, few) in
    let one : nat_lt program (length h.programs) ≡ true = grind (arith, nat_tests, less) in
    let low : at.cut ≤ h.entries = omega (arith, within, entries) in
    let two : nat_le at.cut h.entries ≡ true = grind (arith, nat_tests, low) in
    let there : has_program_and_cut h at.cut program ≡ true = rw (one, two, after, before) refl in
    told_both h (program_told at asked.tears program f.failing.items) (programs_told at asked.tears (program + 1) found)
    (program_is_told h at asked.tears program f.failing.items bounds within way torn there each.0.each)
    (programs_are_told h asked at (program + 1) found bounds within way torn entries after before (omega (arith, few)) each.1)

all_are_told : (h : HeadValue) (asked : Losses) (log : LogValue) (found : List CutFound) → IsLog log → h.entries ≡ length log.entries → asked.tears ≡ h.tears → Each (IsPrintedCut h asked log) found
    → AreToldCases h (told_of_all log h.by asked.tears found)
all_are_told h asked log [] bounds entries torn each = tt
all_are_told h asked log (c ∷ found) bounds entries torn each =
    let own = each.0 in
    let few = own.programs in
    told_both h (cut_told log h.by asked.tears c) (told_of_all log h.by asked.tears found)
    (programs_are_told h asked (at_cut log h.by c.cut) 0 c.programs.items bounds own.within refl torn entries own.after own.before (omega (arith, few)) own.each)
    (all_are_told h asked log found bounds entries torn each.1)

-- THEY RISE

numbers_of_cut : (h : HeadValue) (asked : Losses) (at : CutValue) (found : List CaseFindings) → Each (IsPrintedFound h asked at) found → Each (λ (f : CaseFindings). NumbersRise 0 (map failing_value f.failing.items)) found
numbers_of_cut h asked at [] each = tt
numbers_of_cut h asked at (f ∷ found) each = (each.0.rise, numbers_of_cut h asked at found each.1)

numbers_of_all : (h : HeadValue) (asked : Losses) (log : LogValue) (found : List CutFound) → Each (IsPrintedCut h asked log) found → Each NumbersOf found
numbers_of_all h asked log [] each = tt
numbers_of_all h asked log (c ∷ found) each = (numbers_of_cut h asked (at_cut log h.by c.cut) c.programs.items each.0.each, numbers_of_all h asked log found each.1)

-- THE TOTALS

abbrev pub failing_in : CaseFindings → ℕ
failing_in f = length f.failing.items

program_long : (at : CutValue) (tears : Bool) (program : ℕ) (fs : List FailingCase) → length (program_told at tears program fs) ≡ length fs
program_long at tears program [] = refl
program_long at tears program (f ∷ fs) = let rest = program_long at tears program fs in omega (arith, rest)

pub programs_long : (at : CutValue) (tears : Bool) (program : ℕ) (found : List CaseFindings) → length (programs_told at tears program found) ≡ sum_by failing_in found
programs_long at tears program [] = refl
programs_long at tears program (f ∷ found) =
    let one = program_long at tears program f.failing.items in
    let rest = programs_long at tears (program + 1) found in
    let both = length-append (program_told at tears program f.failing.items) (programs_told at tears (program + 1) found) in
    let sum = sum_by-cons failing_in f found in
    omega (arith, one, rest, both, sum)

all_long : (log : LogValue) (way : By) (tears : Bool) (found : List CutFound) → length (told_of_all log way tears found) ≡ sum_by failing_in (all_found found)
all_long log way tears [] = refl
all_long log way tears (c ∷ found) =
    let one = programs_long (at_cut log way c.cut) tears 0 c.programs.items in
    let rest = all_long log way tears found in
    let both = length-append (cut_told log way tears c) (told_of_all log way tears found) in
    let sum = sum_by-append failing_in c.programs.items (all_found found) in
    omega (arith, one, rest, both, sum)

few_failing : (h : HeadValue) (asked : Losses) (at : CutValue) (found : List CaseFindings) → Each (IsPrintedFound h asked at) found → sum_by failing_in found ≤ cases_at found
few_failing h asked at [] each = omega arith
few_failing h asked at (f ∷ found) each =
    let own = each.0.few in
    let rest = few_failing h asked at found each.1 in
    let one = sum_by-cons failing_in f found in
    let two = sum_by-cons (λ (g : CaseFindings). g.cases) f found in
    omega (arith, own, rest, one, two)

pub all_few_failing : (h : HeadValue) (asked : Losses) (log : LogValue) (found : List CutFound) → Each (IsPrintedCut h asked log) found → sum_by failing_in (all_found found) ≤ cases_in found
all_few_failing h asked log [] each = omega arith
all_few_failing h asked log (c ∷ found) each =
    let own = few_failing h asked (at_cut log h.by c.cut) c.programs.items each.0.each in
    let rest = all_few_failing h asked log found each.1 in
    let one = sum_by-append failing_in c.programs.items (all_found found) in
    let two = sum_by-cons (λ (d : CutFound). cases_at d.programs.items) c found in
    omega (arith, own, rest, one, two)

pub cases_counted : (found : List CutFound) → sum_by (λ (f : CaseFindings). f.cases) (all_found found) ≡ cases_in found
cases_counted [] = refl
cases_counted (c ∷ found) =
    let rest = cases_counted found in
    let one = sum_by-append (λ (f : CaseFindings). f.cases) c.programs.items (all_found found) in
    let two = sum_by-cons (λ (d : CutFound). cases_at d.programs.items) c found in
    omega (arith, rest, one, two)

after_low : (first : Option ℕ) (k : ℕ) → is_after_first first k ≡ true → unwrap_or first 0 ≤ k
after_low None k is = omega arith
after_low (Some n) k is = let test : nat_le n k ≡ true = is in let low : n ≤ k = grind (arith, nat_tests, test) in low

before_high : (last : Option ℕ) (n k : ℕ) → k ≤ n → is_before_last last k ≡ true → k ≤ unwrap_or last n
before_high None n k few is = few
before_high (Some m) n k few is = let test : nat_le k m ≡ true = is in let high : k ≤ m = grind (arith, nat_tests, test) in high

all_after : (h : HeadValue) (asked : Losses) (log : LogValue) (found : List CutFound) → Each (IsPrintedCut h asked log) found → Each (λ (c : CutFound). first_of h ≤ c.cut) found
all_after h asked log [] each = tt
all_after h asked log (c ∷ found) each = (after_low h.cuts.from c.cut each.0.after, all_after h asked log found each.1)

all_before : (h : HeadValue) (asked : Losses) (log : LogValue) (found : List CutFound) → h.entries ≡ length log.entries → Each (IsPrintedCut h asked log) found → Each (λ (c : CutFound). c.cut ≤ last_of h) found
all_before h asked log [] entries each = tt
all_before h asked log (c ∷ found) entries each =
    let within = each.0.within in
    (before_high h.cuts.to h.entries c.cut (omega (arith, within, entries)) each.0.before, all_before h asked log found entries each.1)

small : (n : ℕ) → in_word n < 2 ^ 64
small n = omega (arith, clamps)

as_it_is : (n : ℕ) → n ≤ most_cases → in_word n ≡ n
as_it_is n few = omega (arith, clamps, few)

are_totals : (inputs : ℕ) (h : HeadValue) (asked : Losses) (log : LogValue) (found : List CutFound) → ArePrinted h asked log found → AreTotals (printed_cases inputs h asked log found)
are_totals inputs h asked log found are =
    let lines : ℕ = length (told_of_all log h.by asked.tears found) in
    let long : lines ≡ sum_by failing_in (all_found found) = all_long log h.by asked.tears found in
    let failing = all_few_failing h asked log found are.each in
    let few = are.few in
    let counted = cases_counted found in
    let cases : count_cases found ≡ cases_in found = ap in_word counted ∙ as_it_is (cases_in found) few in
    let told : count_failing found ≡ sum_by failing_in (all_found found) = as_it_is (sum_by failing_in (all_found found)) (omega (arith, failing, few)) in
    let cuts = told_at_few log h.by asked.tears found in
    let range = rise_few (first_of h) (last_of h) found (rise_later (first_of h) found are.rise (all_after h asked log found are.each)) (all_before h asked log found are.entries are.each) in
    let same : count_failing found ≡ lines = told ∙ sym long in
    let one : (count_failing found == lines) ≡ true = grind (arith, nat_tests, same) in
    let under : lines ≤ count_cases found = omega (arith, long, failing, cases) in
    let two : nat_le lines (count_cases found) ≡ true = grind (arith, nat_tests, under) in
    let most : count_cases found ≤ most_cases = omega (arith, cases, few) in
    let three : nat_le (count_cases found) most_cases ≡ true = grind (arith, nat_tests, most) in
    let four : nat_le (count_cuts None (fronts_of (told_of_all log h.by asked.tears found))) (length found) ≡ true = grind (arith, nat_tests, cuts) in
    let five : nat_le (length found) (last_of h + 1 - first_of h) ≡ true = grind (arith, nat_tests, range) in
    record {
      of_run = rw (one, two, three, four, five) refl;
      torn = small (sum_by (λ (f : CaseFindings). f.torn_beyond) (all_found found));
      lost = small (sum_by (λ (f : CaseFindings). f.lost_beyond) (all_found found));
    }

-- IT IS A TEXT

plain_both : (ts us : List ToldCase) → HavePlain ts → HavePlain us → HavePlain (ts ++ us)
plain_both [] us one two = two
plain_both (t ∷ ts) us one two = (one.0, plain_both ts us one.1 two)

plain_program : (at : CutValue) (tears : Bool) (program : ℕ) (fs : List FailingCase) → HavePlain (program_told at tears program fs)
plain_program at tears program [] = tt
plain_program at tears program (f ∷ fs) = (plain_ending (failing_value f).ending, plain_program at tears program fs)

plain_programs : (at : CutValue) (tears : Bool) (program : ℕ) (found : List CaseFindings) → HavePlain (programs_told at tears program found)
plain_programs at tears program [] = tt
plain_programs at tears program (f ∷ found) =
    plain_both (program_told at tears program f.failing.items) (programs_told at tears (program + 1) found) (plain_program at tears program f.failing.items) (plain_programs at tears (program + 1) found)

plain_all : (log : LogValue) (way : By) (tears : Bool) (found : List CutFound) → HavePlain (told_of_all log way tears found)
plain_all log way tears [] = tt
plain_all log way tears (c ∷ found) =
    plain_both (cut_told log way tears c) (told_of_all log way tears found) (plain_programs (at_cut log way c.cut) tears 0 c.programs.items) (plain_all log way tears found)

-- the number of its inputs is told where it is of a range
told_inputs : (h : HeadValue) (inputs : ℕ) → inputs < 2 ^ 64 → AreInputs h (inputs_told h.cuts inputs)
told_inputs h inputs small = by_range (has_range h.cuts) refl
  where
    by_range : (b : Bool) → has_range h.cuts ≡ b → AreInputs h (if b then Some inputs else None)
    by_range true e = record { told = e; small = small }
    by_range false e = record { told = ap not e; small = tt }

pub printed_is_text : (inputs : ℕ) (h : HeadValue) (asked : Losses) (log : LogValue) (found : List CutFound) → inputs < 2 ^ 64 → ArePrinted h asked log found
    → IsCasesText (cases_bytes inputs h asked log found) (printed_cases inputs h asked log found)
printed_is_text inputs h asked log found small are =
    let utf8 = cases_are_text (printed_cases inputs h asked log found) (plain_all log h.by asked.tears found) in
    record {
      utf8 = subst (λ (bs : List ℕ). IsUtf8 bs) (sym (text_is inputs h asked log found)) utf8;
      inputs = told_inputs h inputs small;
      head = are.head;
      asked = are.losses;
      told = all_are_told h asked log found are.bounds are.entries are.losses.tears are.each;
      rising = told_rise log h.by asked.tears found are.rise (numbers_of_all h asked log found are.each);
      totals = are_totals inputs h asked log found are;
      is = text_is inputs h asked log found;
    }

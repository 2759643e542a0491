-- The text of cases is one, and where it is told there aren't too many.
use Rattle.std.proofs.Common.{ℕ, zero, suc, ◌≡◌, ◌+◌, ◌<◌, ◌≤◌, ◌==◌, ◌||◌, Bool, not, List, [], ◌∷◌, ◌++◌, length, map, flat_map, sum_by, slice_get, None, Some, refl, sym, ◌∙◌, ap, subst, arith}
use Rattle.std.specs.Prelude.{codes}
use Rattle.std.proofs.lemmas.List.Sums.{sum_by-cons, sum_by-append}
use Rattle.std.proofs.lemmas.Option.{same_Some}
use Rattle.logfmt.specs.Bounds.{LogValue}
use Rattle.epochs.specs.declared.part.By.{By}
use Rattle.checker.specs.Checker.{CheckerValue}
use Rattle.report.specs.LineText.{ending_text}
use Rattle.cases.specs.AtCut.{CutValue, parts_of}
use Rattle.losses.specs.declared.found.Losses.{Losses}
use Rattle.losses.specs.declared.found.CaseFindings.{CaseFindings}
use Rattle.losses.specs.declared.found.CutFound.{CutFound}
use Rattle.losses.specs.declared.found.FailingCase.{FailingCase}
use Rattle.losses.specs.FoundCases.{failing_value, cases_at, cases_in, most_cases}
use Rattle.case_runs.specs.Found.{AreFoundAt, AreFoundIn, AreFirstAt, AreFirstIn, IsPastAt, AreTooMany, KnownCase, known_case, SameFound, FindingIsOne}
use Rattle.epochs.specs.Units.{epoch_at, marks_at}
use Rattle.case_text.specs.Known.{known_of}
use Rattle.case_text.specs.Window.{case_window}
use Rattle.case_text.specs.Text.{known_text, window_text, place_text, number_text, case_line, program_cases, programs_cases, cut_cases, all_found, count_cases, count_failing, count_torn_beyond, count_lost_beyond, are_all_cuts, complete_word, totals_text, counts_text, beyond_text, in_word, inputs_told, cases_head, options_text, cases_bytes, fails_at, is_any_failing}
use Rattle.case_text.specs.Causes.{cause_text}
use Rattle.case_text.specs.Cured as cured
use Rattle.case_text.specs.Cured.{line_without, uncured_line, program_uncured, found_uncured, all_uncured, cure_begin}
use Rattle.losses.specs.CureText.{missing_text}
use Rattle.case_text.specs.Why.{ToldValue, tail_text, told_of, all_told, told_text, by_program, found_causes, cut_causes, failure_of, found_failures, all_failures, begin_text, parts_bytes, why_bytes, TellsWhy}
use Rattle.losses.specs.declared.cure.failure.Failure.{Failure}
use Rattle.losses.specs.Counted.{AreMissing}
use Rattle.losses.specs.FailureWindows.{windows_in}
use Rattle.report.specs.Report.{HeadValue}
use Rattle.request.specs.declared.any_losses.AnyLosses.{AnyLosses}
use Rattle.request.specs.declared.settings.Settings.{Settings}
use Rattle.case_runs.specs.Cuts.{case_cuts}
use Rattle.runs.specs.CaseCuts.{losses_of}
use Rattle.runs.specs.Cases.{TellsCases}
use Rattle.commands.proofs.OneMissing.{same_missing}

-- the same was found with each checker, and at each cut
abbrev pub EachSame : CutValue → Bool → List CaseFindings → List CaseFindings → Type 0
EachSame at tears [] [] = Unit {0}
EachSame at tears [] (g ∷ gs) = ⊥
EachSame at tears (f ∷ fs) [] = ⊥
EachSame at tears (f ∷ fs) (g ∷ gs) = SameFound at tears f g × EachSame at tears fs gs

abbrev pub cut_value : LogValue → By → ℕ → CutValue
cut_value log way cut = record { log = log; way = way; cut = cut }

abbrev pub CutsSame : LogValue → By → Bool → List CutFound → List CutFound → Type 0
CutsSame log way tears [] [] = Unit {0}
CutsSame log way tears [] (d ∷ ds) = ⊥
CutsSame log way tears (c ∷ cs) [] = ⊥
CutsSame log way tears (c ∷ cs) (d ∷ ds) = (c.cut ≡ d.cut) × EachSame (cut_value log way c.cut) tears c.programs.items d.programs.items × CutsSame log way tears cs ds

pub each_same : FindingIsOne → (asked : Losses) (at : CutValue) (checkers : List CheckerValue) (fs gs : List CaseFindings) → AreFoundAt asked at checkers fs → AreFoundAt asked at checkers gs
    → EachSame at asked.tears fs gs
each_same one asked at checkers [] [] a b = tt
each_same one asked at checkers [] (g ∷ gs) a b = let here = a.count in let there = b.count in absurd (omega (arith, here, there))
each_same one asked at checkers (f ∷ fs) [] a b = let here = a.count in let there = b.count in absurd (omega (arith, here, there))
each_same one asked at [] (f ∷ fs) (g ∷ gs) a b = let here = a.count in absurd (omega (arith, here))
each_same one asked at (c ∷ cs) (f ∷ fs) (g ∷ gs) a b =
    let here = a.count in
    let there = b.count in (
      one.same asked at c f g (a.each 0 c f refl refl) (b.each 0 c g refl refl),
      each_same one asked at cs fs gs (record { count = omega (arith, here); each = λ i d h own its. a.each (suc i) d h own its })
          (record { count = omega (arith, there); each = λ i d h own its. b.each (suc i) d h own its }),
    )

pub cuts_same : FindingIsOne → (asked : Losses) (log : LogValue) (way : By) (cuts : List ℕ) (checkers : List CheckerValue) (ls ms : List CutFound) → AreFoundIn asked log way cuts checkers ls
    → AreFoundIn asked log way cuts checkers ms → CutsSame log way asked.tears ls ms
cuts_same one asked log way cuts checkers [] [] a b = tt
cuts_same one asked log way cuts checkers [] (d ∷ ds) a b = let here = a.count in let there = b.count in absurd (omega (arith, here, there))
cuts_same one asked log way cuts checkers (c ∷ cs) [] a b = let here = a.count in let there = b.count in absurd (omega (arith, here, there))
cuts_same one asked log way [] checkers (c ∷ cs) (d ∷ ds) a b = let here = a.count in absurd (omega (arith, here))
cuts_same one asked log way (k ∷ ks) checkers (c ∷ cs) (d ∷ ds) a b =
    let here = a.count in
    let there = b.count in
    let at = a.cut 0 k c refl refl in (
      at ∙ sym (b.cut 0 k d refl refl),
      subst (λ n. EachSame (cut_value log way n) asked.tears c.programs.items d.programs.items) (sym at)
          (each_same one asked (cut_value log way k) checkers c.programs.items d.programs.items (a.each 0 k c refl refl) (b.each 0 k d refl refl)),
      cuts_same one asked log way ks checkers cs ds
          (record { count = omega (arith, here); cut = λ i j f own its. a.cut (suc i) j f own its; each = λ i j f own its. a.each (suc i) j f own its })
          (record { count = omega (arith, there); cut = λ i j f own its. b.cut (suc i) j f own its; each = λ i j f own its. b.each (suc i) j f own its }),
    )

-- the lines of the same cases are the same
unfoldable pub known_line : CutValue → Bool → ℕ → KnownCase → List ℕ
known_line at tears program k =
    place_text at.cut (epoch_at at.log.entries at.cut) (marks_at at.log.entries at.cut) ++ number_text program k.number ++ ending_text k.ending
    ++ known_text at.way (known_of tears k.is (parts_of at)) ++ window_text (case_window at k.is) ++ codes "\n"

lines_known : (at : CutValue) (tears : Bool) (program : ℕ) (items : List FailingCase) → program_cases at tears program items ≡ flat_map (known_line at tears program) (map (known_case at tears) items)
unfolding case_line known_line
lines_known at tears program [] = refl
lines_known at tears program (f ∷ items) =
    ap (λ (xs : List ℕ). case_line at tears program (failing_value f) ++ xs) (lines_known at tears program items)

each_lines : (at : CutValue) (tears : Bool) (program : ℕ) (fs gs : List CaseFindings) → EachSame at tears fs gs → programs_cases at tears program fs ≡ programs_cases at tears program gs
each_lines at tears program [] [] same = refl
each_lines at tears program [] (g ∷ gs) same = absurd same
each_lines at tears program (f ∷ fs) [] same = absurd same
each_lines at tears program (f ∷ fs) (g ∷ gs) same =
    let own : program_cases at tears program f.failing.items ≡ program_cases at tears program g.failing.items =
    lines_known at tears program f.failing.items ∙ ap (flat_map (known_line at tears program)) same.0.failing ∙ sym (lines_known at tears program g.failing.items) in
    let rest = each_lines at tears (program + 1) fs gs same.1 in
    λ i. own i ++ rest i

cut_lines : (log : LogValue) (way : By) (tears : Bool) (ls ms : List CutFound) → CutsSame log way tears ls ms → flat_map (cut_cases log way tears) ls ≡ flat_map (cut_cases log way tears) ms
cut_lines log way tears [] [] same = refl
cut_lines log way tears [] (d ∷ ds) same = absurd same
cut_lines log way tears (c ∷ cs) [] same = absurd same
cut_lines log way tears (c ∷ cs) (d ∷ ds) same =
    let own : cut_cases log way tears c ≡ cut_cases log way tears d =
    each_lines (cut_value log way c.cut) tears 0 c.programs.items d.programs.items same.1
    ∙ ap (λ n. programs_cases (cut_value log way n) tears 0 d.programs.items) same.0 in
    let rest = cut_lines log way tears cs ds same.2 in
    λ i. own i ++ rest i

-- and so are their numbers
length_failing : (at : CutValue) (tears : Bool) (f g : CaseFindings) → SameFound at tears f g → length f.failing.items ≡ length g.failing.items
length_failing at tears f g same = sym (long f.failing.items) ∙ ap (λ (ks : List KnownCase). length ks) same.failing ∙ long g.failing.items
  where
    long : (items : List FailingCase) → length (map (known_case at tears) items) ≡ length items
    long [] = refl
    long (x ∷ items) = ap suc (long items)

abbrev pub Tells : (CaseFindings → ℕ) → Type 0
Tells number = (at : CutValue) (tears : Bool) (f g : CaseFindings) → SameFound at tears f g → number f ≡ number g

pub sum_each : (number : CaseFindings → ℕ) → Tells number → (at : CutValue) (tears : Bool) (fs gs : List CaseFindings) → EachSame at tears fs gs → sum_by number fs ≡ sum_by number gs
sum_each number tells at tears [] [] same = refl
sum_each number tells at tears [] (g ∷ gs) same = absurd same
sum_each number tells at tears (f ∷ fs) [] same = absurd same
sum_each number tells at tears (f ∷ fs) (g ∷ gs) same =
    let own = tells at tears f g same.0 in
    let rest = sum_each number tells at tears fs gs same.1 in
    sum_by-cons number f fs ∙ (λ i. own i + rest i) ∙ sym (sum_by-cons number g gs)

sum_all : (number : CaseFindings → ℕ) → Tells number → (log : LogValue) (way : By) (tears : Bool) (ls ms : List CutFound) → CutsSame log way tears ls ms
    → sum_by number (all_found ls) ≡ sum_by number (all_found ms)
sum_all number tells log way tears [] [] same = refl
sum_all number tells log way tears [] (d ∷ ds) same = absurd same
sum_all number tells log way tears (c ∷ cs) [] same = absurd same
sum_all number tells log way tears (c ∷ cs) (d ∷ ds) same =
    let own = sum_each number tells (cut_value log way c.cut) tears c.programs.items d.programs.items same.1 in
    let rest = sum_all number tells log way tears cs ds same.2 in
    sum_by-append number c.programs.items (all_found cs) ∙ (λ i. own i + rest i) ∙ sym (sum_by-append number d.programs.items (all_found ds))

length_same : (log : LogValue) (way : By) (tears : Bool) (ls ms : List CutFound) → CutsSame log way tears ls ms → length ls ≡ length ms
length_same log way tears [] [] same = refl
length_same log way tears [] (d ∷ ds) same = absurd same
length_same log way tears (c ∷ cs) [] same = absurd same
length_same log way tears (c ∷ cs) (d ∷ ds) same = ap suc (length_same log way tears cs ds same.2)

pub torn_same : (log : LogValue) (way : By) (tears : Bool) (ls ms : List CutFound) → CutsSame log way tears ls ms → count_torn_beyond ls ≡ count_torn_beyond ms
torn_same log way tears ls ms same = ap in_word (sum_all (λ f. f.torn_beyond) (λ at t f g s. s.torn) log way tears ls ms same)

pub lost_same : (log : LogValue) (way : By) (tears : Bool) (ls ms : List CutFound) → CutsSame log way tears ls ms → count_lost_beyond ls ≡ count_lost_beyond ms
lost_same log way tears ls ms same = ap in_word (sum_all (λ f. f.lost_beyond) (λ at t f g s. s.lost) log way tears ls ms same)

pub totals_same : (all : Bool) (log : LogValue) (way : By) (tears : Bool) (ls ms : List CutFound) → CutsSame log way tears ls ms → totals_text all ls ≡ totals_text all ms
unfolding totals_text
totals_same all log way tears ls ms same =
    let long = length_same log way tears ls ms same in
    let cases : count_cases ls ≡ count_cases ms = ap in_word (sum_all (λ f. f.cases) (λ at t f g s. s.cases) log way tears ls ms same) in
    let failing : count_failing ls ≡ count_failing ms = ap in_word (sum_all (λ f. length f.failing.items) (λ at t f g s. length_failing at t f g s) log way tears ls ms same) in
    let torn = torn_same log way tears ls ms same in
    let lost = lost_same log way tears ls ms same in
    λ i. counts_text (long i) (cases i) (failing i) ++ beyond_text (torn i) (lost i) ++ complete_word all (torn i) (lost i) ++ codes "\n"

any_each : (at : CutValue) (tears : Bool) (fs gs : List CaseFindings) → EachSame at tears fs gs → fails_at fs ≡ fails_at gs
any_each at tears [] [] same = refl
any_each at tears [] (g ∷ gs) same = absurd same
any_each at tears (f ∷ fs) [] same = absurd same
any_each at tears (f ∷ fs) (g ∷ gs) same =
    let own = length_failing at tears f g same.0 in
    let more = any_each at tears fs gs same.1 in
    λ i. not (own i == 0) || more i

pub any_same : (log : LogValue) (way : By) (tears : Bool) (ls ms : List CutFound) → CutsSame log way tears ls ms → is_any_failing ls ≡ is_any_failing ms
any_same log way tears [] [] same = refl
any_same log way tears [] (d ∷ ds) same = absurd same
any_same log way tears (c ∷ cs) [] same = absurd same
any_same log way tears (c ∷ cs) (d ∷ ds) same =
    let own = any_each (cut_value log way c.cut) tears c.programs.items d.programs.items same.1 in
    let rest = any_same log way tears cs ds same.2 in
    λ i. own i || rest i

pub bytes_same : (inputs : ℕ) (h : HeadValue) (asked : Losses) (log : LogValue) (ls ms : List CutFound) → CutsSame log h.by asked.tears ls ms → cases_bytes inputs h asked log ls ≡ cases_bytes inputs h asked log ms
unfolding cases_bytes
bytes_same inputs h asked log ls ms same =
    let lines = cut_lines log h.by asked.tears ls ms same in
    let totals = totals_same (are_all_cuts h.cuts) log h.by asked.tears ls ms same in
    λ i. cases_head (inputs_told h.cuts inputs) h asked ++ lines i ++ totals i

-- why they fail is the same
unfoldable pub told_known : CutValue → Bool → KnownCase → ToldValue
told_known at tears k =
    record {
      number = k.number;
      window = case_window at k.is;
      cause = cause_text at.way at.cut (known_of tears k.is (parts_of at)) (case_window at k.is);
      tail = tail_text (ending_text k.ending) (case_window at k.is);
    }

told_all : (at : CutValue) (tears : Bool) (items : List FailingCase) → all_told at tears items ≡ map (told_known at tears) (map (known_case at tears) items)
unfolding told_known
told_all at tears [] = refl
told_all at tears (f ∷ items) = ap (λ (xs : List ToldValue). told_of at tears (failing_value f) ∷ xs) (told_all at tears items)

pub told_same : (at : CutValue) (tears : Bool) (f g : CaseFindings) → SameFound at tears f g → all_told at tears f.failing.items ≡ all_told at tears g.failing.items
told_same at tears f g same =
    told_all at tears f.failing.items ∙ ap (λ (ks : List KnownCase). map (told_known at tears) ks) same.failing ∙ sym (told_all at tears g.failing.items)

each_cause : {A : Type 0} (own : ℕ → CaseFindings → List A) (at : CutValue) (tears : Bool) → ((n : ℕ) (f g : CaseFindings) → SameFound at tears f g → own n f ≡ own n g)
    → (program : ℕ) (fs gs : List CaseFindings) → EachSame at tears fs gs → by_program own program fs ≡ by_program own program gs
each_cause own at tears tells program [] [] same = refl
each_cause own at tears tells program [] (g ∷ gs) same = absurd same
each_cause own at tears tells program (f ∷ fs) [] same = absurd same
each_cause own at tears tells program (f ∷ fs) (g ∷ gs) same =
    let here = tells program f g same.0 in
    let rest = each_cause own at tears tells (program + 1) fs gs same.1 in
    λ i. here i ++ rest i

cut_each : {A : Type 0} (own : CutValue → ℕ → CaseFindings → List A) (log : LogValue) (way : By) (tears : Bool)
    → ((at : CutValue) (n : ℕ) (f g : CaseFindings) → SameFound at tears f g → own at n f ≡ own at n g) → (ls ms : List CutFound) → CutsSame log way tears ls ms
    → flat_map (λ (c : CutFound). by_program (own (cut_value log way c.cut)) 0 c.programs.items) ls ≡ flat_map (λ (c : CutFound). by_program (own (cut_value log way c.cut)) 0 c.programs.items) ms
cut_each own log way tears tells [] [] same = refl
cut_each own log way tears tells [] (d ∷ ds) same = absurd same
cut_each own log way tears tells (c ∷ cs) [] same = absurd same
cut_each own log way tears tells (c ∷ cs) (d ∷ ds) same =
    let here : by_program (own (cut_value log way c.cut)) 0 c.programs.items ≡ by_program (own (cut_value log way d.cut)) 0 d.programs.items =
    each_cause (own (cut_value log way c.cut)) (cut_value log way c.cut) tears (tells (cut_value log way c.cut)) 0 c.programs.items d.programs.items same.1
    ∙ ap (λ n. by_program (own (cut_value log way n)) 0 d.programs.items) same.0 in
    let rest = cut_each own log way tears tells cs ds same.2 in
    λ i. here i ++ rest i

pub failures_same : (log : LogValue) (way : By) (tears : Bool) (ls ms : List CutFound) → CutsSame log way tears ls ms → all_failures log way tears ls ≡ all_failures log way tears ms
failures_same log way tears ls ms same =
    cut_each (λ at. found_failures at tears) log way tears (λ at n f g own. ap (λ (ts : List ToldValue). map (failure_of n) ts) (told_same at tears f g own)) ls ms same

-- and so are those without a window, and how a cure begins with them
uncured_known : CutValue → Bool → ℕ → KnownCase → List (List ℕ)
uncured_known at tears program k = line_without (case_window at k.is) (known_line at tears program k)

uncured_all : (at : CutValue) (tears : Bool) (program : ℕ) (items : List FailingCase) → program_uncured at tears program items ≡ flat_map (uncured_known at tears program) (map (known_case at tears) items)
unfolding case_line known_line uncured_known
uncured_all at tears program [] = refl
uncured_all at tears program (f ∷ items) =
    ap (λ (xs : List (List ℕ)). uncured_line at tears program (failing_value f) ++ xs) (uncured_all at tears program items)

uncured_same : (log : LogValue) (way : By) (tears : Bool) (ls ms : List CutFound) → CutsSame log way tears ls ms → all_uncured log way tears ls ≡ all_uncured log way tears ms
uncured_same log way tears ls ms same =
    cut_each (λ at. found_uncured at tears) log way tears
    (λ at n f g own. uncured_all at tears n f.failing.items ∙ ap (flat_map (uncured_known at tears n)) own.failing ∙ sym (uncured_all at tears n g.failing.items)) ls ms same

pub cure_begins : (h : HeadValue) (asked : Losses) (log : LogValue) (ls ms : List CutFound) → CutsSame log h.by asked.tears ls ms → cure_begin h asked log ls ≡ cure_begin h asked log ms
cure_begins h asked log ls ms same =
    let failures = failures_same log h.by asked.tears ls ms same in
    let uncured = uncured_same log h.by asked.tears ls ms same in
    λ i. cured.begin_text h asked (failures i) (slice_get (uncured i) 0)

pub why_same : (h : HeadValue) (asked : Losses) (log : LogValue) (ls ms : List CutFound) (bytes others : List ℕ) → CutsSame log h.by asked.tears ls ms → TellsWhy h asked log ls bytes
    → TellsWhy h asked log ms others → bytes ≡ others
unfolding why_bytes parts_bytes begin_text
why_same h asked log ls ms bytes others same a b =
    let totals = totals_same (are_all_cuts h.cuts) log h.by asked.tears ls ms same in
    let failures = failures_same log h.by asked.tears ls ms same in
    let causes : flat_map (cut_causes log h.by asked.tears) ls ≡ flat_map (cut_causes log h.by asked.tears) ms =
    cut_each (λ at. found_causes at asked.tears) log h.by asked.tears
    (λ at n f g own. ap (λ (ts : List ToldValue). told_text at.cut n ts) (told_same at asked.tears f g own)) ls ms same in
    let missing : a.missing ≡ b.missing =
    same_missing (windows_in (all_failures log h.by asked.tears ls)) a.missing b.missing a.are
    (subst (λ (fs : List Failure). AreMissing (windows_in fs) b.missing) (sym failures) b.are) in
    let text : why_bytes h asked log ls a.missing ≡ why_bytes h asked log ms b.missing =
    λ i. codes "crash why cases 1\n" ++ options_text h asked ++ totals i ++ missing_text (length h.programs) (failures i) (missing i) ++ causes i in
    a.text ∙ text ∙ sym b.text

-- the cases of the first checkers, and those of the next one, are among all
pub first_at : FindingIsOne → (asked : Losses) (at : CutValue) (checkers : List CheckerValue) (n : ℕ) (before found : List CaseFindings) (f : CaseFindings) → AreFirstAt asked at checkers n before
    → AreFoundAt asked at checkers found → slice_get found n ≡ Some f → cases_at before + f.cases ≤ cases_at found
first_at one asked at checkers n before [] f a b there = absurd (let bad : None ≡ Some f = there in cc)
first_at one asked at checkers zero [] (g ∷ gs) f a b there =
    let same : f.cases ≡ g.cases = ap (λ (x : CaseFindings). x.cases) (sym (same_Some g f there)) in
    let all = sum_by-cons (λ (x : CaseFindings). x.cases) g gs in
    omega (arith, same, all)
first_at one asked at checkers (suc n) [] (g ∷ gs) f a b there = let count = a.count in absurd (omega (arith, count))
first_at one asked at checkers zero (e ∷ es) (g ∷ gs) f a b there = let count = a.count in absurd (omega (arith, count))
first_at one asked at [] (suc n) (e ∷ es) (g ∷ gs) f a b there = let count = b.count in absurd (omega (arith, count))
first_at one asked at (c ∷ cs) (suc n) (e ∷ es) (g ∷ gs) f a b there =
    let here = a.count in
    let count = b.count in
    let own = (one.same asked at c e g (a.each 0 c e refl refl) (b.each 0 c g refl refl)).cases in
    let rest = first_at one asked at cs n es gs f (record { count = omega (arith, here); each = λ i d h x y. a.each (suc i) d h x y })
    (record { count = omega (arith, count); each = λ i d h x y. b.each (suc i) d h x y }) there in
    let first = sum_by-cons (λ (x : CaseFindings). x.cases) e es in
    let all = sum_by-cons (λ (x : CaseFindings). x.cases) g gs in
    omega (arith, own, rest, first, all)

-- the same of cuts
pub first_in : FindingIsOne → (asked : Losses) (log : LogValue) (way : By) (cuts : List ℕ) (checkers : List CheckerValue) (n : ℕ) (before found : List CutFound) (f : CutFound)
    → AreFirstIn asked log way cuts checkers n before → AreFoundIn asked log way cuts checkers found → slice_get found n ≡ Some f
    → cases_in before + cases_at f.programs.items ≤ cases_in found
first_in one asked log way cuts checkers n before [] f a b there = absurd (let bad : None ≡ Some f = there in cc)
first_in one asked log way cuts checkers zero [] (g ∷ gs) f a b there =
    let same : cases_at f.programs.items ≡ cases_at g.programs.items = ap (λ (x : CutFound). cases_at x.programs.items) (sym (same_Some g f there)) in
    let all = sum_by-cons (λ (x : CutFound). cases_at x.programs.items) g gs in
    omega (arith, same, all)
first_in one asked log way cuts checkers (suc n) [] (g ∷ gs) f a b there = let count = a.count in absurd (omega (arith, count))
first_in one asked log way cuts checkers zero (e ∷ es) (g ∷ gs) f a b there = let count = a.count in absurd (omega (arith, count))
first_in one asked log way [] checkers (suc n) (e ∷ es) (g ∷ gs) f a b there = let count = b.count in absurd (omega (arith, count))
first_in one asked log way (k ∷ ks) checkers (suc n) (e ∷ es) (g ∷ gs) f a b there =
    let here = a.count in
    let count = b.count in
    let own = sum_each (λ (x : CaseFindings). x.cases) (λ at t x y s. s.cases) (cut_value log way k) asked.tears e.programs.items g.programs.items
    (each_same one asked (cut_value log way k) checkers e.programs.items g.programs.items (a.each 0 k e refl refl) (b.each 0 k g refl refl)) in
    let rest = first_in one asked log way ks checkers n es gs f
    (record { count = omega (arith, here); cut = λ i j h x y. a.cut (suc i) j h x y; each = λ i j h x y. a.each (suc i) j h x y })
    (record { count = omega (arith, count); cut = λ i j h x y. b.cut (suc i) j h x y; each = λ i j h x y. b.each (suc i) j h x y }) there in
    let first = sum_by-cons (λ (x : CutFound). cases_at x.programs.items) e es in
    let all = sum_by-cons (λ (x : CutFound). cases_at x.programs.items) g gs in
    omega (arith, own, rest, first, all)

-- a list as long as another has an element at the same place
pub there_too : {A B : Type 0} (xs : List A) (ys : List B) (i : ℕ) (x : A) → length ys ≡ length xs → slice_get xs i ≡ Some x → (y : B) × (slice_get ys i ≡ Some y)
there_too [] ys i x long at = absurd (let bad : None ≡ Some x = at in cc)
there_too (a ∷ xs) [] i x long at = absurd (omega (arith, long))
there_too (a ∷ xs) (b ∷ ys) zero x long at = (b, refl)
there_too (a ∷ xs) (b ∷ ys) (suc i) x long at = there_too xs ys i x (omega (arith, long)) at

pub past_at : FindingIsOne → (asked : Losses) (at : CutValue) (checkers : List CheckerValue) (left : ℕ) (found : List CaseFindings) → AreFoundAt asked at checkers found → IsPastAt asked at checkers left
    → left < cases_at found
past_at one asked at checkers left found are past =
    let there = there_too checkers found past.number past.checker are.count past.own in
    let own = are.each past.number past.checker there.0 past.own there.1 in
    let among = first_at one asked at checkers past.number past.before found there.0 past.are are there.1 in
    let many = one.fewer asked at past.checker there.0 past.past.more own past.past.begun in
    let counted = past.counted in
    let more = past.past.past in
    omega (arith, among, many, counted, more)

-- where cases are found there aren't too many
pub not_many : FindingIsOne → (asked : Losses) (log : LogValue) (way : By) (cuts : List ℕ) (checkers : List CheckerValue) (found : List CutFound) (cut : ℕ)
    → AreFoundIn asked log way cuts checkers found → cases_in found ≤ most_cases → AreTooMany asked log way cuts checkers cut → ⊥
not_many one asked log way cuts checkers found cut are few many =
    let there = there_too cuts found many.place cut are.count many.own in
    let own = are.each many.place cut there.0 many.own there.1 in
    let among = first_in one asked log way cuts checkers many.place many.before found there.0 many.are are there.1 in
    let past = past_at one asked (cut_value log way cut) checkers many.rest there.0.programs.items own many.past in
    let counted = many.counted in
    omega (arith, among, past, counted, few)

pub not_too_many : FindingIsOne → (inputs : ℕ) (l : AnyLosses) (s : Settings) (value : LogValue) (checkers : List CheckerValue) (bytes : List ℕ) (failing : Bool) (cut : ℕ)
    → TellsCases inputs l s value checkers bytes failing → AreTooMany (losses_of l s) value s.by (case_cuts l.at_most s.cuts value.entries) checkers cut → ⊥
not_too_many one inputs l s value checkers bytes failing cut h many = not_many one (losses_of l s) value s.by (case_cuts l.at_most s.cuts value.entries) checkers h.found cut h.are h.few many

-- Texts of ranges of cuts of a run, joined, are what the run answers of the whole range.
use Rattle.std.proofs.Common.{ℕ, zero, suc, ◌≡◌, ◌↔◌, IsTrue, ◌+◌, ◌<◌, ◌≤◌, ◌==◌, ◌&&◌, nat_le, nat_lt, bytes_eq, Bool, true, false, if◌then◌else◌, List, [], ◌∷◌, ◌++◌, length, map, filter, slice_get, Option, None, Some, unwrap_or, refl, sym, subst, ◌∙◌, ap, arith}
use Rattle.std.specs.List.{flat_map, sum_by, range_with_len}
use Rattle.std.proofs.lemmas.Bool.Decides.{nat_tests}
use Rattle.std.proofs.lemmas.List.Sorted.{sum_by-IsPermutation}
use Rattle.logfmt.specs.declared.entry.Entry.{Entry}
use Rattle.logfmt.specs.Bounds.{LogValue}
use Rattle.logfmt.specs.Laws.{TextOfOneLog}
use Rattle.epochs.specs.declared.cuts.Cuts.{Cuts}
use Rattle.epochs.specs.declared.part.By.{By}
use Rattle.epochs.specs.Cuts.{is_of_kind, is_after_first, is_before_last, is_wanted}
use Rattle.epochs.specs.Flushes.{places_of}
use Rattle.checker.specs.Checker.{CheckerValue}
use Rattle.report.specs.Report.{HeadValue, device_text, given_text}
use Rattle.report.specs.Words.{cuts_words}
use Rattle.losses.specs.declared.found.Losses.{Losses}
use Rattle.losses.specs.declared.found.CutFound.{CutFound}
use Rattle.case_runs.specs.Cuts.{are_last_enough, case_cuts, explored_cuts, first_wanted, last_wanted}
use Rattle.losses.specs.FoundCases.{most_cases, cases_in}
use Rattle.case_runs.specs.Found.{AreFoundAt, AreFoundIn}
use Rattle.case_text.specs.Text.{options_text, cases_bytes, all_found, is_any_failing}
use Rattle.join.specs.Heads.{IsPrintedHead}
use Rattle.join.specs.CaseTexts.{CasesValue, IsCasesText, AreLosses, told_text}
use Rattle.join.specs.CaseReading.{CasesRead, Each}
use Rattle.join.specs.CaseJoining.{AreJoinedCases, HasFailing, all_cases, cuts_between, head_between, RefusesCases}
use Rattle.join.specs.CaseLaws.{CaseRun, AskedRange, FollowToEnd, ArePartsOfCases, as_told, cases_between, cuts_of_range, end_of, has_all, start_of}
use Rattle.join.proofs.CaseLasts.{within_log}
use Rattle.join.proofs.CaseLawful.{law}
use Rattle.inspect.proofs.CutPieces.{same_on}
use Rattle.request.specs.declared.any_losses.LossWords.{LossWords}
use Rattle.request.specs.declared.command.OptionWords.{OptionWords}
use Rattle.request.specs.declared.command.Request.TheVariants as request
use Rattle.request.specs.declared.settings.CaseTelling.TheVariants as telling
use Rattle.request.specs.declared.settings.Settings.{Settings}
use Rattle.request.specs.AnyLosses.{loss_checks, losses_asked, losses_refusal}
use Rattle.request.specs.OptionWords.{AskFor}
use Rattle.request.specs.Source.{Recording, cut_past, lacking, IsLogOf, HasImages}
use Rattle.request.proofs.Logs.{bounds_of}
use Rattle.runs.specs.declared.explore_command.WantedAnswer.TheVariants as wanted
use Rattle.request.specs.Inputs.{inputs_number}
use Rattle.runs.specs.CaseCuts.{losses_of}
use Rattle.runs.specs.Cases.{IsTextOf, IsCases, IsLosses}
use Rattle.runs.specs.Explore.{IsProgramCount, AreCheckersOf, head_of}
use Rattle.runs.specs.Judged.{takes}
use Rattle.runs.specs.Why.{with_first}
use Rattle.commands.specs.Acting.{Files, first_file, initial_of, recording, HoldsRecording, Answers, JoinsCases, JoinsEither, join_of_parts, join_of_cases, are_cases, cases_line}
use Rattle.join.specs.declared.case_parts.fault.CasesFault.{CasesFault}
use Rattle.commands.specs.CaseParts.{over, end_in, as_asked, FollowTo, cuts_over, ArePartsOfRange, PrintsRange, PrintRanges, JoinIsExploreOfCases, IsOfSize, RangesOfRunAreJoined}
use Rattle.commands.proofs.CaseRefused.{all_by_place, refused_so}
use Rattle.commands.proofs.CaseGiven.{cases_are_text, Up, cuts_are, losses_are, found_is_printed, made_programs, all_asked, IsPrintedRun, run_printed}
use Rattle.commands.proofs.CaseOrder.{CutsRise}
use Rattle.commands.proofs.CasePrinted.{ArePrinted, printed_cases, failing_in, text_is, printed_is_text, all_few_failing}
use Rattle.commands.proofs.CaseSegments.{cuts_found, run_over, between_is, joined_of, all_own, EachAmong, segments_among, HaveSegments, text_of, ArePrintedRanges, FewFail, reads_counted, any_counted}
use Rattle.commands.proofs.OneAnswer.{same_files, same_initial}
use Rattle.commands.proofs.OneCasesJoin.{one_failing, text_begins}
use Rattle.commands.proofs.OneReport.{same_asked, same_checkers}
use Rattle.commands.proofs.PartsJoined.{AreOne}
use Rattle.commands.proofs.Printed.{asked_of}
use Rattle.commands.proofs.RunOf.{IsGiven, is_run, heads_long, inputs_small}
use Rattle.cases.specs.Laws.{IsAmong}

-- THE SAME SETTINGS OVER A RANGE

abbrev ranged : AskedRange → Settings → Settings
ranged x s = record s { cuts = cuts_between s.cuts x.from x.to }

settings_ranged : (x y : AskedRange) (w : OptionWords) (s t : Settings) → (over x w).settings ≡ s → (over y w).settings ≡ t → t ≡ ranged y s
settings_ranged x y w s t one two = sym two ∙ ap (ranged y) one

abbrev no_range : AskedRange
no_range = record { from = None; to = None }

either_none : (xs ys : List ℕ) → xs ++ ys ≡ [] → xs ≡ []
either_none [] ys none = refl
either_none (x ∷ xs) ys none = absurd (let bad : x ∷ (xs ++ ys) ≡ [] = none in cc)

none_lacking : (cuts : Cuts) (n : ℕ) → lacking cuts n ≡ [] → lacking (cuts_between cuts None None) n ≡ []
unfolding lacking
none_lacking cuts n has =
    let first : filter (λ entry. nat_le n entry) (places_of cuts.flushes) ≡ [] = either_none (filter (λ entry. nat_le n entry) (places_of cuts.flushes)) (cut_past n cuts.from ++ cut_past n cuts.to) has in
    ap (λ (es : List ℕ). es ++ []) first

log_free : (text : Recording) (s : Settings) (value : LogValue) → IsLogOf text s value → IsLogOf text (ranged no_range s) value
log_free text s value h = record {
  read = h.read;
  recorded = record { device = h.recorded.device; size = h.recorded.size; units = h.recorded.units; of_log = h.recorded.of_log; initial = h.recorded.initial };
  has = none_lacking s.cuts (length h.read.entries) h.has;
  added = h.added;
}

one_log : TextOfOneLog → (text : Recording) (x : AskedRange) (s : Settings) (v u : LogValue) → IsLogOf text s v → IsLogOf text (ranged x s) u → u ≡ v
one_log one text x s v u a b = same_asked one text (ranged no_range s) u v (log_free text (ranged x s) u b) (log_free text s v a)

made_ranged : (x : AskedRange) (s : Settings) (files : List (List ℕ)) (checkers : List CheckerValue) → AreCheckersOf (ranged x s) files checkers → AreCheckersOf s files checkers
made_ranged x s [] [] made = tt
made_ranged x s [] (c ∷ checkers) made = absurd made
made_ranged x s (bytes ∷ files) [] made = absurd made
made_ranged x s (bytes ∷ files) (c ∷ checkers) made = (record { spelled = made.0.spelled; clean = made.0.clean; within = made.0.within }, made_ranged x s files checkers made.1)

-- WHAT IS PRINTED OF A RANGE

abbrev losses_in : LossWords → Settings → Losses
losses_in l s = losses_of (losses_asked l s) s

-- the text of a range of the run of a log and of checkers
pub record IsSegment (text : Recording) (files : List (List ℕ)) (s : Settings) (l : LossWords) (value : LogValue) (checkers : List CheckerValue) (x : AskedRange) (t : List ℕ) : Type 0 where
  found : List CutFound
  given : IsGiven text files (ranged x s) value checkers
  good : losses_refusal l (ranged x s) ≡ None
  are : AreFoundIn (losses_in l s) value s.by (cuts_over l.at_most s.cuts value.entries x) checkers found
  few : cases_in found ≤ most_cases
  is : t ≡ cases_bytes (inputs_number text.text files) (head_of (ranged x s) value checkers) (losses_in l s) value found

abbrev Segments : Recording → List (List ℕ) → Settings → LossWords → LogValue → List CheckerValue → List AskedRange → List (List ℕ) → Type 0
Segments text files s l value checkers [] [] = Unit {0}
Segments text files s l value checkers [] (t ∷ ts) = ⊥
Segments text files s l value checkers (x ∷ xs) [] = ⊥
Segments text files s l value checkers (x ∷ xs) (t ∷ ts) = IsSegment text files s l value checkers x t × Segments text files s l value checkers xs ts

abbrev pub HoldsRun : Files → Recording → List (List ℕ) → Type 0
HoldsRun files log programs = (files.named ≡ map Some (log.text ∷ programs)) × (initial_of files.base ≡ Some log.initial)

-- what is answered of a range
pub range_printed : (w : OptionWords) (l : LossWords) (files : Files) (s : Settings) (log : Recording) (programs : List (List ℕ)) (y x : AskedRange) (t : List ℕ) → w.settings.first ≡ false → l.telling ≡ telling.Cases
    → AskFor (over y w) s → HoldsRun files log programs → PrintsRange w l files x t → (good : losses_refusal l (ranged x s) ≡ None) × (failing : Bool) × IsPrintedRun log programs (ranged x s) l t failing
range_printed w l files s log programs y x t all cases asked held prints =
    let a = prints.1 in
    let settings : a.settings ≡ ranged x s = settings_ranged y x w s a.settings asked.asked a.asked.asked in
    let own = a.answers in
    let both : own.log ∷ own.programs ≡ log.text ∷ programs = same_files files.named (own.log ∷ own.programs) (log.text ∷ programs) own.read held.0 in
    let text : own.log ≡ log.text = cc in
    let others : own.programs ≡ programs = cc in
    let initial : own.initial ≡ log.initial = same_initial files own.initial log.initial own.based held.1 in
    let recorded : recording own.log own.initial ≡ log = λ i. record { text = text i; initial = initial i } in
    let first : a.settings.first ≡ false = ap (λ (u : Settings). u.first) (sym a.asked.asked) ∙ all in
    let run : IsPrintedRun (recording own.log own.initial) own.programs a.settings l t own.answers.failing =
    run_printed (recording own.log own.initial) own.programs a.settings l t own.answers.failing (asked_of a.settings a.asked.good) first cases own.answers.told in
    let by_log = subst (λ (r : Recording). IsPrintedRun r own.programs a.settings l t own.answers.failing) recorded run in
    let by_programs = subst (λ (ps : List (List ℕ)). IsPrintedRun log ps a.settings l t own.answers.failing) others by_log in
    (subst (λ (u : Settings). losses_refusal l u ≡ None) settings a.good, own.answers.failing, subst (λ (u : Settings). IsPrintedRun log programs u l t own.answers.failing) settings by_programs)

pub range_segment : AreOne → (s : Settings) (l : LossWords) (log : Recording) (programs : List (List ℕ)) (value : LogValue) (checkers : List CheckerValue) (x : AskedRange) (t : List ℕ) (failing : Bool) → IsLogOf log s value
    → AreCheckersOf s programs checkers → losses_refusal l (ranged x s) ≡ None → IsPrintedRun log programs (ranged x s) l t failing → IsSegment log programs s l value checkers x t
range_segment one s l log programs value checkers x t failing reads made good r =
    let own : IsSegment log programs s l r.value r.checkers x t = record { found = r.found; given = r.given; good = good; are = r.are; few = r.few; is = r.is } in
    let same : r.value ≡ value = one_log one.texts log x s value r.value reads r.given.source.reads in
    let alike : r.checkers ≡ checkers = same_checkers one.programs one.verdicts s programs r.checkers checkers (made_ranged x s programs r.checkers r.given.made) made in
    subst (λ (v : LogValue). IsSegment log programs s l v checkers x t) same (subst (λ (cs : List CheckerValue). IsSegment log programs s l r.value cs x t) alike own)

-- WHICH CUTS

pub cuts_numbered : (at_most : Option ℕ) (cuts : Cuts) (es : List Entry) (from to : Option ℕ)
    → case_cuts at_most (cuts_between cuts from to) es ≡ case_cuts at_most (cuts_between cuts (Some (unwrap_or from 0)) (Some (unwrap_or to (length es)))) es
unfolding case_cuts
cuts_numbered at_most cuts es from to = by_test (are_last_enough at_most cuts)
  where
    after : (first : Option ℕ) (k : ℕ) → is_after_first first k ≡ is_after_first (Some (unwrap_or first 0)) k
    after None k = let low : 0 ≤ k = omega arith in let test : nat_le 0 k ≡ true = grind (arith, nat_tests, low) in sym test
    after (Some n) k = refl

    before : (last : Option ℕ) (k : ℕ) → k ≤ length es → is_before_last last k ≡ is_before_last (Some (unwrap_or last (length es))) k
    before None k high = let test : nat_le k (length es) ≡ true = grind (arith, nat_tests, high) in sym test
    before (Some n) k high = refl

    by_test : (b : Bool) → (if b then explored_cuts es (first_wanted (cuts_between cuts from to) (length es)) (last_wanted (cuts_between cuts from to) (length es)) else filter (is_wanted (cuts_between cuts from to) es) (range_with_len 0 (length es + 1)))
        ≡ (if b then explored_cuts es (first_wanted (cuts_between cuts from to) (length es)) (last_wanted (cuts_between cuts from to) (length es))
        else filter (is_wanted (cuts_between cuts (Some (unwrap_or from 0)) (Some (unwrap_or to (length es)))) es) (range_with_len 0 (length es + 1)))
    by_test true = refl
    by_test false =
        same_on (is_wanted (cuts_between cuts from to) es) (is_wanted (cuts_between cuts (Some (unwrap_or from 0)) (Some (unwrap_or to (length es)))) es) 0 (length es + 1)
        (λ k low high. let one = after from k in let two = before to k (omega (arith, high)) in λ i. is_of_kind cuts.kind es k && one i && two i)

-- what is found at cuts, one after the other
abbrev FoundAll : Losses → LogValue → By → List CheckerValue → List ℕ → List CutFound → Type 0
FoundAll asked log way checkers [] [] = Unit {0}
FoundAll asked log way checkers [] (f ∷ fs) = ⊥
FoundAll asked log way checkers (k ∷ ks) [] = ⊥
FoundAll asked log way checkers (k ∷ ks) (f ∷ fs) = (f.cut ≡ k) × AreFoundAt asked (record { log = log; way = way; cut = k }) checkers f.programs.items × FoundAll asked log way checkers ks fs

pub all_in : (asked : Losses) (log : LogValue) (way : By) (checkers : List CheckerValue) (ks : List ℕ) (fs : List CutFound) → AreFoundIn asked log way ks checkers fs → FoundAll asked log way checkers ks fs
all_in asked log way checkers [] [] are = tt
all_in asked log way checkers [] (f ∷ fs) are = let count = are.count in absurd (omega (arith, count))
all_in asked log way checkers (k ∷ ks) [] are = let count = are.count in absurd (omega (arith, count))
all_in asked log way checkers (k ∷ ks) (f ∷ fs) are =
    let count = are.count in (
      are.cut 0 k f refl refl,
      are.each 0 k f refl refl,
      all_in asked log way checkers ks fs (record { count = omega (arith, count); cut = λ i j g one two. are.cut (suc i) j g one two; each = λ i j g one two. are.each (suc i) j g one two }),
    )

all_long : (asked : Losses) (log : LogValue) (way : By) (checkers : List CheckerValue) (ks : List ℕ) (fs : List CutFound) → FoundAll asked log way checkers ks fs → length fs ≡ length ks
all_long asked log way checkers [] [] all = refl
all_long asked log way checkers [] (f ∷ fs) all = absurd all
all_long asked log way checkers (k ∷ ks) [] all = absurd all
all_long asked log way checkers (k ∷ ks) (f ∷ fs) all = let rest = all_long asked log way checkers ks fs all.2 in omega (arith, rest)

all_cut : (asked : Losses) (log : LogValue) (way : By) (checkers : List CheckerValue) (ks : List ℕ) (fs : List CutFound) → FoundAll asked log way checkers ks fs → (i k : ℕ) (f : CutFound)
    → slice_get ks i ≡ Some k → slice_get fs i ≡ Some f → (f.cut ≡ k) × AreFoundAt asked (record { log = log; way = way; cut = k }) checkers f.programs.items
all_cut asked log way checkers [] fs all i k f one two = absurd (let bad : None ≡ Some k = one in cc)
all_cut asked log way checkers (j ∷ ks) [] all i k f one two = absurd all
all_cut asked log way checkers (j ∷ ks) (g ∷ fs) all zero k f one two =
    let first : Some j ≡ Some k = one in
    let second : Some g ≡ Some f = two in
    let number : j ≡ k = cc in
    let same : g ≡ f = cc in
    let P : ℕ → CutFound → Type 0 = λ n c. (c.cut ≡ n) × AreFoundAt asked (record { log = log; way = way; cut = n }) checkers c.programs.items in
    subst (λ (c : CutFound). P k c) same (subst (λ (n : ℕ). P n g) number (all.0, all.1))
all_cut asked log way checkers (j ∷ ks) (g ∷ fs) all (suc i) k f one two = all_cut asked log way checkers ks fs all.2 i k f one two

pub in_all : (asked : Losses) (log : LogValue) (way : By) (checkers : List CheckerValue) (ks : List ℕ) (fs : List CutFound) → FoundAll asked log way checkers ks fs → AreFoundIn asked log way ks checkers fs
in_all asked log way checkers ks fs all = record {
  count = all_long asked log way checkers ks fs all;
  cut = λ i k f one two. (all_cut asked log way checkers ks fs all i k f one two).0;
  each = λ i k f one two. (all_cut asked log way checkers ks fs all i k f one two).1;
}

pub all_joined : (asked : Losses) (log : LogValue) (way : By) (checkers : List CheckerValue) (ks js : List ℕ) (fs gs : List CutFound) → FoundAll asked log way checkers ks fs → FoundAll asked log way checkers js gs
    → FoundAll asked log way checkers (ks ++ js) (fs ++ gs)
all_joined asked log way checkers [] js [] gs one two = two
all_joined asked log way checkers [] js (f ∷ fs) gs one two = absurd one
all_joined asked log way checkers (k ∷ ks) js [] gs one two = absurd one
all_joined asked log way checkers (k ∷ ks) js (f ∷ fs) gs one two = (one.0, one.1, all_joined asked log way checkers ks js fs gs one.2 two)

pub all_cuts : (asked : Losses) (log : LogValue) (way : By) (checkers : List CheckerValue) (ks : List ℕ) (fs : List CutFound) → FoundAll asked log way checkers ks fs → cuts_found fs ≡ ks
all_cuts asked log way checkers [] [] all = refl
all_cuts asked log way checkers [] (f ∷ fs) all = absurd all
all_cuts asked log way checkers (k ∷ ks) [] all = absurd all
all_cuts asked log way checkers (k ∷ ks) (f ∷ fs) all = let rest = all_cuts asked log way checkers ks fs all.2 in λ i. all.0 i ∷ rest i

pub up_rise : (n : ℕ) (fs : List CutFound) → Up n (cuts_found fs) → CutsRise n fs
up_rise n [] up = tt
up_rise n (f ∷ fs) up = (up.0, up_rise (f.cut + 1) fs up.1)

-- THE RUN OF ALL RANGES

abbrev cuts_by : Option ℕ → Cuts → List Entry → ℕ → ℕ → List ℕ
cuts_by at_most cuts es a b = case_cuts at_most (cuts_between cuts (Some a) (Some b)) es

abbrev whole_run : ℕ → Settings → LossWords → LogValue → List CheckerValue → List CutFound → CaseRun
whole_run inputs s l value checkers all = run_over inputs (head_of s value checkers) (losses_in l s) (cuts_by l.at_most s.cuts value.entries) value all

range_cuts : (inputs : ℕ) (s : Settings) (l : LossWords) (value : LogValue) (checkers : List CheckerValue) (all : List CutFound) (x : AskedRange)
    → cuts_of_range (whole_run inputs s l value checkers all) x ≡ cuts_over l.at_most s.cuts value.entries x
unfolding head_of
range_cuts inputs s l value checkers all x = sym (cuts_numbered l.at_most s.cuts value.entries x.from x.to)

-- what is found in each range
abbrev founds : (text : Recording) (files : List (List ℕ)) (s : Settings) (l : LossWords) (value : LogValue) (checkers : List CheckerValue) (xs : List AskedRange) (ts : List (List ℕ))
    → Segments text files s l value checkers xs ts → List (List CutFound)
founds text files s l value checkers [] [] segs = []
founds text files s l value checkers [] (t ∷ ts) segs = absurd segs
founds text files s l value checkers (x ∷ xs) [] segs = absurd segs
founds text files s l value checkers (x ∷ xs) (t ∷ ts) segs = segs.0.found ∷ founds text files s l value checkers xs ts segs.1

found_in_all : (text : Recording) (files : List (List ℕ)) (s : Settings) (l : LossWords) (value : LogValue) (checkers : List CheckerValue) (xs : List AskedRange) (ts : List (List ℕ))
    → (segs : Segments text files s l value checkers xs ts)
    → FoundAll (losses_in l s) value s.by checkers (flat_map (cuts_over l.at_most s.cuts value.entries) xs) (joined_of (founds text files s l value checkers xs ts segs))
found_in_all text files s l value checkers [] [] segs = tt
found_in_all text files s l value checkers [] (t ∷ ts) segs = absurd segs
found_in_all text files s l value checkers (x ∷ xs) [] segs = absurd segs
found_in_all text files s l value checkers (x ∷ xs) (t ∷ ts) segs =
    all_joined (losses_in l s) value s.by checkers (cuts_over l.at_most s.cuts value.entries x) (flat_map (cuts_over l.at_most s.cuts value.entries) xs) segs.0.found (joined_of (founds text files s l value checkers xs ts segs.1))
    (all_in (losses_in l s) value s.by checkers (cuts_over l.at_most s.cuts value.entries x) segs.0.found segs.0.are)
    (found_in_all text files s l value checkers xs ts segs.1)

-- A RANGE IS PRINTED

between_printed : (s : Settings) (value : LogValue) (checkers : List CheckerValue) (x : AskedRange) → IsPrintedHead (head_of (ranged x s) value checkers) → IsPrintedHead (head_between (head_of s value checkers) x.from x.to)
unfolding head_of
between_printed s value checkers x p = record {
  numbers = record {
    sectors = p.numbers.sectors;
    entries = p.numbers.entries;
    bound = p.numbers.bound;
    from = p.numbers.from;
    to = p.numbers.to;
    flushes = p.numbers.flushes;
    base = p.numbers.base;
    programs = p.numbers.programs;
  };
  some = p.some;
  few = p.few;
  options = p.options;
  programs = p.programs;
}

between_losses : (s : Settings) (l : LossWords) (value : LogValue) (checkers : List CheckerValue) (x : AskedRange) → losses_refusal l (ranged x s) ≡ None
    → AreLosses (head_between (head_of s value checkers) x.from x.to) (losses_in l s)
unfolding head_of
between_losses s l value checkers x good = let p = losses_are l (ranged x s) value checkers good in record { tears = p.tears; torn = p.torn; lost = p.lost }

segment_printed : (text : Recording) (files : List (List ℕ)) (s : Settings) (l : LossWords) (value : LogValue) (checkers : List CheckerValue) (x : AskedRange) (t : List ℕ)
    → (g : IsSegment text files s l value checkers x t) → ArePrinted (head_between (head_of s value checkers) x.from x.to) (losses_in l s) value g.found
unfolding head_of
segment_printed text files s l value checkers x t g =
    found_is_printed (head_between (head_of s value checkers) x.from x.to) (losses_in l s) value checkers l.at_most g.found (bounds_of text (ranged x s) value g.given.source.reads)
    (between_printed s value checkers x (is_run text files (ranged x s) value checkers g.given).printed) (between_losses s l value checkers x g.good) refl (sym (heads_long checkers))
    (made_programs (ranged x s) files checkers g.given.made) g.are g.few

bytes_between : (inputs : ℕ) (s : Settings) (value : LogValue) (checkers : List CheckerValue) (x : AskedRange) (asked : Losses) (found : List CutFound)
    → cases_bytes inputs (head_of (ranged x s) value checkers) asked value found ≡ cases_bytes inputs (head_between (head_of s value checkers) x.from x.to) asked value found
unfolding head_of cases_bytes options_text device_text given_text cuts_words
bytes_between inputs s value checkers x asked found = refl

-- what is known of a range of the run
record IsToldRange (r : CaseRun) (x : AskedRange) (seg : List CutFound) (t : List ℕ) : Type 0 where
  text : t ≡ text_of r x
  printed : IsCasesText (text_of r x) (cases_between r x)
  cuts : cuts_of_range r x ≡ cuts_found seg

told_range : (text : Recording) (files : List (List ℕ)) (s : Settings) (l : LossWords) (value : LogValue) (checkers : List CheckerValue) (x : AskedRange) (t : List ℕ) (all : List CutFound)
    → (g : IsSegment text files s l value checkers x t) → CutsRise 0 all → Each (λ (c : CutFound). IsAmong all c) g.found → IsToldRange (whole_run (inputs_number text.text files) s l value checkers all) x g.found t
told_range text files s l value checkers x t all g rise among =
    let asked : Losses = losses_in l s in
    let h : HeadValue = head_between (head_of s value checkers) x.from x.to in
    let found : FoundAll asked value s.by checkers (cuts_over l.at_most s.cuts value.entries x) g.found = all_in asked value s.by checkers (cuts_over l.at_most s.cuts value.entries x) g.found g.are in
    let cuts : cuts_of_range (whole_run (inputs_number text.text files) s l value checkers all) x ≡ cuts_found g.found = range_cuts (inputs_number text.text files) s l value checkers all x ∙ sym (all_cuts asked value s.by checkers (cuts_over l.at_most s.cuts value.entries x) g.found found) in
    let same : cases_between (whole_run (inputs_number text.text files) s l value checkers all) x ≡ printed_cases (inputs_number text.text files) h asked value g.found =
    between_is (inputs_number text.text files) (head_of s value checkers) asked (cuts_by l.at_most s.cuts value.entries) value all x g.found rise among cuts in
    let is : IsCasesText (told_text (printed_cases (inputs_number text.text files) h asked value g.found)) (printed_cases (inputs_number text.text files) h asked value g.found) =
    subst (λ (bs : List ℕ). IsCasesText bs (printed_cases (inputs_number text.text files) h asked value g.found)) (text_is (inputs_number text.text files) h asked value g.found) (printed_is_text (inputs_number text.text files) h asked value g.found (inputs_small text.text files) (segment_printed text files s l value checkers x t g)) in
    record {
      text = g.is ∙ bytes_between (inputs_number text.text files) s value checkers x asked g.found ∙ text_is (inputs_number text.text files) h asked value g.found ∙ ap (λ (c : CasesValue). told_text c) (sym same);
      printed = subst (λ (c : CasesValue). IsCasesText (told_text c) c) (sym same) is;
      cuts = cuts;
    }

texts_told : (text : Recording) (files : List (List ℕ)) (s : Settings) (l : LossWords) (value : LogValue) (checkers : List CheckerValue) (xs : List AskedRange) (ts : List (List ℕ)) (all : List CutFound)
    → (segs : Segments text files s l value checkers xs ts) → CutsRise 0 all → EachAmong all (founds text files s l value checkers xs ts segs) → ts ≡ map (text_of (whole_run (inputs_number text.text files) s l value checkers all)) xs
texts_told text files s l value checkers [] [] all segs rise among = refl
texts_told text files s l value checkers [] (t ∷ ts) all segs rise among = absurd segs
texts_told text files s l value checkers (x ∷ xs) [] all segs rise among = absurd segs
texts_told text files s l value checkers (x ∷ xs) (t ∷ ts) all segs rise among =
    let first = (told_range text files s l value checkers x t all segs.0 rise among.0).text in
    let rest = texts_told text files s l value checkers xs ts all segs.1 rise among.1 in
    λ i. first i ∷ rest i

ranges_printed : (text : Recording) (files : List (List ℕ)) (s : Settings) (l : LossWords) (value : LogValue) (checkers : List CheckerValue) (xs : List AskedRange) (ts : List (List ℕ)) (all : List CutFound)
    → (segs : Segments text files s l value checkers xs ts) → CutsRise 0 all → EachAmong all (founds text files s l value checkers xs ts segs) → ArePrintedRanges (whole_run (inputs_number text.text files) s l value checkers all) xs
ranges_printed text files s l value checkers [] [] all segs rise among = tt
ranges_printed text files s l value checkers [] (t ∷ ts) all segs rise among = absurd segs
ranges_printed text files s l value checkers (x ∷ xs) [] all segs rise among = absurd segs
ranges_printed text files s l value checkers (x ∷ xs) (t ∷ ts) all segs rise among =
    ((told_range text files s l value checkers x t all segs.0 rise among.0).printed, ranges_printed text files s l value checkers xs ts all segs.1 rise among.1)

have_segments : (text : Recording) (files : List (List ℕ)) (s : Settings) (l : LossWords) (value : LogValue) (checkers : List CheckerValue) (xs : List AskedRange) (ts : List (List ℕ)) (all : List CutFound)
    → (segs : Segments text files s l value checkers xs ts) → CutsRise 0 all → EachAmong all (founds text files s l value checkers xs ts segs)
    → HaveSegments (whole_run (inputs_number text.text files) s l value checkers all) xs (founds text files s l value checkers xs ts segs)
have_segments text files s l value checkers [] [] all segs rise among = tt
have_segments text files s l value checkers [] (t ∷ ts) all segs rise among = absurd segs
have_segments text files s l value checkers (x ∷ xs) [] all segs rise among = absurd segs
have_segments text files s l value checkers (x ∷ xs) (t ∷ ts) all segs rise among =
    ((told_range text files s l value checkers x t all segs.0 rise among.0).cuts, segs.0.few, have_segments text files s l value checkers xs ts all segs.1 rise among.1)

few_fail : (text : Recording) (files : List (List ℕ)) (s : Settings) (l : LossWords) (value : LogValue) (checkers : List CheckerValue) (xs : List AskedRange) (ts : List (List ℕ))
    → (segs : Segments text files s l value checkers xs ts) → FewFail (founds text files s l value checkers xs ts segs)
few_fail text files s l value checkers [] [] segs = tt
few_fail text files s l value checkers [] (t ∷ ts) segs = absurd segs
few_fail text files s l value checkers (x ∷ xs) [] segs = absurd segs
few_fail text files s l value checkers (x ∷ xs) (t ∷ ts) segs = (
  all_few_failing (head_between (head_of s value checkers) x.from x.to) (losses_in l s) value segs.0.found (segment_printed text files s l value checkers x t segs.0).each,
  few_fail text files s l value checkers xs ts segs.1,
)

-- THE WHOLE RANGE

first_within : (text : Recording) (files : List (List ℕ)) (s : Settings) (l : LossWords) (value : LogValue) (checkers : List CheckerValue) (xs : List AskedRange) (ts : List (List ℕ)) (first : AskedRange)
    (others : List AskedRange) → Segments text files s l value checkers xs ts → xs ≡ first ∷ others → unwrap_or first.from 0 ≤ length value.entries
unfolding head_of
first_within text files s l value checkers [] ts first others segs are = absurd (let bad : [] ≡ first ∷ others = are in cc)
first_within text files s l value checkers (x ∷ xs) [] first others segs are = absurd segs
first_within text files s l value checkers (x ∷ xs) (t ∷ ts) first others segs are =
    let same : x ≡ first = cc in
    let range = within_log (head_of (ranged x s) value checkers) (is_run text files (ranged x s) value checkers segs.0.given).printed in
    let low = range.first in
    let high = range.last in
    let own : unwrap_or x.from 0 ≤ length value.entries = omega (arith, low, high) in
    subst (λ (y : AskedRange). unwrap_or y.from 0 ≤ length value.entries) same own

follow_to : (r : CaseRun) (n from : ℕ) (whole : AskedRange) (xs : List AskedRange) → n ≡ r.head.entries → FollowTo n from whole.to xs → FollowToEnd r from whole xs
follow_to r n from whole [] same follow = absurd follow
follow_to r n from whole (x ∷ []) same follow = follow
follow_to r n from whole (x ∷ y ∷ xs) same follow =
    (follow.0, subst (λ (m : ℕ). FollowToEnd r (unwrap_or x.to m + 1) whole (y ∷ xs)) same (follow_to r n (end_in n x + 1) whole (y ∷ xs) same follow.1))

told_cuts : (r : CaseRun) (whole : AskedRange) → cuts_of_range r (as_told r whole) ≡ cuts_of_range r whole
told_cuts r whole = by_test (has_all r whole) refl
  where
    both : (a b : Bool) → (a && b) ≡ true → (a ≡ true) × (b ≡ true)
    both true b e = (refl, e)
    both false b e = absurd (let bad : false ≡ true = e in cc)

    by_test : (b : Bool) → has_all r whole ≡ b → cuts_of_range r (if b then no_range else whole) ≡ cuts_of_range r whole
    by_test false e = refl
    by_test true e =
        let p = both (start_of whole == 0) (end_of r whole == r.head.entries) e in
        let one = p.0 in
        let two = p.1 in
        let begins : 0 ≡ start_of whole = grind (arith, nat_tests, one) in
        let ends : r.head.entries ≡ end_of r whole = grind (arith, nat_tests, two) in
        ap (λ (n : ℕ). r.cuts n r.head.entries) begins ∙ ap (λ (n : ℕ). r.cuts (start_of whole) n) ends

told_as : (r : CaseRun) (n : ℕ) (whole : AskedRange) → n ≡ r.head.entries → as_told r whole ≡ as_asked n whole
told_as r n whole same = ap (λ (m : ℕ). if (start_of whole == 0) && (unwrap_or whole.to m == m) then no_range else whole) (sym same)

same_cuts : (f g : AskedRange → List ℕ) (xs : List AskedRange) → ((x : AskedRange) → f x ≡ g x) → flat_map f xs ≡ flat_map g xs
same_cuts f g [] each = refl
same_cuts f g (x ∷ xs) each = let one = each x in let rest = same_cuts f g xs each in λ i. one i ++ rest i

-- all that is found in them stands by its cuts
rise_of : (text : Recording) (files : List (List ℕ)) (s : Settings) (l : LossWords) (value : LogValue) (checkers : List CheckerValue) (xs : List AskedRange) (ts : List (List ℕ)) (whole : AskedRange)
    → ArePartsOfRange l.at_most s.cuts value.entries xs whole → (segs : Segments text files s l value checkers xs ts) → CutsRise 0 (joined_of (founds text files s l value checkers xs ts segs))
rise_of text files s l value checkers xs ts whole of_range segs =
    let all : List CutFound = joined_of (founds text files s l value checkers xs ts segs) in
    let found = found_in_all text files s l value checkers xs ts segs in
    let cuts : cuts_found all ≡ cuts_over l.at_most s.cuts value.entries whole =
    all_cuts (losses_in l s) value s.by checkers (flat_map (cuts_over l.at_most s.cuts value.entries) xs) all found ∙ of_range.together in
    let within : unwrap_or of_range.first.from 0 ≤ length value.entries = first_within text files s l value checkers xs ts of_range.first of_range.others segs of_range.are in
    let begins : unwrap_or whole.from 0 ≤ length value.entries = subst (λ (o : Option ℕ). unwrap_or o 0 ≤ length value.entries) of_range.begins within in
    let up : Up 0 (cuts_over l.at_most s.cuts value.entries whole) = (cuts_are l.at_most (cuts_between s.cuts whole.from whole.to) value.entries begins).rise in
    up_rise 0 all (subst (λ (ks : List ℕ). Up 0 ks) (sym cuts) up)

-- the texts are refused for their size alone
ranges_refused : (part : Bool) (text : Recording) (files : List (List ℕ)) (s : Settings) (l : LossWords) (value : LogValue) (checkers : List CheckerValue) (xs : List AskedRange) (ts : List (List ℕ))
    (whole : AskedRange) (fault : CasesFault) → ArePartsOfRange l.at_most s.cuts value.entries xs whole → (segs : Segments text files s l value checkers xs ts)
    → (part ≡ false → (start_of whole ≡ 0) × (end_in (length value.entries) whole ≡ length value.entries)) → RefusesCases part ts fault → IsOfSize fault
unfolding head_of
ranges_refused part text files s l value checkers xs ts whole fault of_range segs wide refuses =
    let all_segs : List (List CutFound) = founds text files s l value checkers xs ts segs in
    let all : List CutFound = joined_of all_segs in
    let r : CaseRun = whole_run (inputs_number text.text files) s l value checkers all in
    let rise = rise_of text files s l value checkers xs ts whole of_range segs in
    let among : EachAmong all all_segs = segments_among all_segs in
    let texts : ts ≡ map (text_of r) xs = texts_told text files s l value checkers xs ts all segs rise among in
    refused_so part r whole xs fault (ranges_printed text files s l value checkers xs ts all segs rise among) (follow_to r (length value.entries) (start_of whole) whole xs refl of_range.follow) wide
    (subst (λ (us : List (List ℕ)). RefusesCases part us fault) texts refuses)

-- what the ranges come to together is a run of the whole range
pub record IsWhole (inputs : ℕ) (s : Settings) (l : LossWords) (value : LogValue) (checkers : List CheckerValue) (texts : List (List ℕ)) (bytes : List ℕ) : Type 0 where
  pub found : List CutFound
  pub are : AreFoundIn (losses_in l s) value s.by (case_cuts l.at_most s.cuts value.entries) checkers found
  pub few : cases_in found ≤ most_cases
  pub is : bytes ≡ cases_bytes inputs (head_of s value checkers) (losses_in l s) value found
  pub fails : IsTrue (is_any_failing found) ↔ HasFailing texts

pub whole_is : (part : Bool) (text : Recording) (files : List (List ℕ)) (s : Settings) (l : LossWords) (value : LogValue) (checkers : List CheckerValue) (xs : List AskedRange) (ts : List (List ℕ)) (whole : AskedRange)
    (bytes : List ℕ) → s ≡ ranged (as_asked (length value.entries) whole) s → ArePartsOfRange l.at_most s.cuts value.entries xs whole → Segments text files s l value checkers xs ts → AreJoinedCases part ts bytes
    → IsWhole (inputs_number text.text files) s l value checkers ts bytes
unfolding head_of
whole_is part text files s l value checkers xs ts whole bytes own of_range segs joined =
    let asked : Losses = losses_in l s in
    let n : ℕ = length value.entries in
    let all_segs : List (List CutFound) = founds text files s l value checkers xs ts segs in
    let all : List CutFound = joined_of all_segs in
    let r : CaseRun = whole_run (inputs_number text.text files) s l value checkers all in
    let found : FoundAll asked value s.by checkers (flat_map (cuts_over l.at_most s.cuts value.entries) xs) all = found_in_all text files s l value checkers xs ts segs in
    let cuts : cuts_found all ≡ cuts_over l.at_most s.cuts value.entries whole = all_cuts asked value s.by checkers (flat_map (cuts_over l.at_most s.cuts value.entries) xs) all found ∙ of_range.together in
    let rise : CutsRise 0 all = rise_of text files s l value checkers xs ts whole of_range segs in
    let among : EachAmong all all_segs = segments_among all_segs in
    let texts : ts ≡ map (text_of r) xs = texts_told text files s l value checkers xs ts all segs rise among in
    let printed : ArePrintedRanges r xs = ranges_printed text files s l value checkers xs ts all segs rise among in
    let have : HaveSegments r xs all_segs = have_segments text files s l value checkers xs ts all segs rise among in
    let less : FewFail all_segs = few_fail text files s l value checkers xs ts segs in
    let parts : ArePartsOfCases r xs whole = record {
      first = of_range.first;
      others = of_range.others;
      are = of_range.are;
      begins = of_range.begins;
      follow = follow_to r n (start_of whole) whole xs refl of_range.follow;
      cuts = same_cuts (cuts_of_range r) (cuts_over l.at_most s.cuts value.entries) xs (λ x. range_cuts (inputs_number text.text files) s l value checkers all x) ∙ of_range.together ∙ sym (range_cuts (inputs_number text.text files) s l value checkers all whole);
      printed = all_by_place (λ (x : AskedRange). IsCasesText (told_text (cases_between r x)) (cases_between r x)) xs printed;
    } in
    let joins : AreJoinedCases part (map (text_of r) xs) bytes = subst (λ (us : List (List ℕ)). AreJoinedCases part us bytes) texts joined in
    let is : bytes ≡ text_of r (as_told r whole) = law part r xs whole bytes parts joins in
    let y : AskedRange = as_asked n whole in
    let told : bytes ≡ text_of r y = is ∙ ap (λ (x : AskedRange). text_of r x) (told_as r n whole refl) in
    let own_cuts : cuts_of_range r y ≡ cuts_of_range r whole = sym (ap (λ (x : AskedRange). cuts_of_range r x) (told_as r n whole refl)) ∙ told_cuts r whole in
    let all_of : cuts_of_range r y ≡ cuts_found all = own_cuts ∙ range_cuts (inputs_number text.text files) s l value checkers all whole ∙ sym cuts in
    let h : HeadValue = head_between (head_of s value checkers) y.from y.to in
    let same : cases_between r y ≡ printed_cases (inputs_number text.text files) h asked value all = between_is (inputs_number text.text files) (head_of s value checkers) asked (cuts_by l.at_most s.cuts value.entries) value all y all rise (all_own all) all_of in
    let text_whole : text_of r y ≡ cases_bytes (inputs_number text.text files) (head_of s value checkers) asked value all =
    ap (λ (c : CasesValue). told_text c) same ∙ sym (text_is (inputs_number text.text files) h asked value all) ∙ sym (bytes_between (inputs_number text.text files) s value checkers y asked all)
    ∙ ap (λ (u : Settings). cases_bytes (inputs_number text.text files) (head_of u value checkers) asked value all) (sym own) in
    let meant : flat_map (cuts_over l.at_most s.cuts value.entries) xs ≡ case_cuts l.at_most s.cuts value.entries =
    of_range.together ∙ sym (range_cuts (inputs_number text.text files) s l value checkers all whole) ∙ sym own_cuts ∙ range_cuts (inputs_number text.text files) s l value checkers all y ∙ ap (λ (u : Settings). case_cuts l.at_most u.cuts value.entries) (sym own) in
    let reads = joins.reads in
    let counted = reads_counted (inputs_number text.text files) (head_of s value checkers) asked (cuts_by l.at_most s.cuts value.entries) value xs all_segs reads rise have less joins.each printed in
    let moved : all_cases joins.row ≡ all_cases reads = sum_by-IsPermutation (λ (c : CasesRead). c.totals.cases) reads joins.row joins.order in
    let cases = counted.cases in
    let few = joins.few in
    record {
      found = all;
      are = in_all asked value s.by checkers (case_cuts l.at_most s.cuts value.entries) all (subst (λ (ks : List ℕ). FoundAll asked value s.by checkers ks all) meant found);
      few = omega (arith, moved, cases, few);
      is = told ∙ text_whole;
      fails = (
        (λ e. subst (λ (us : List (List ℕ)). HasFailing us) (sym texts) (reads, joins.each, some_fail all (sum_by (λ (c : CasesRead). c.totals.failing) reads) counted.failing e)),
        (λ has. some_counted all xs (subst (λ (us : List (List ℕ)). HasFailing us) texts has) rise have less printed),
      );
    }
  where
    some_fail : (all : List CutFound) (n : ℕ) → n ≡ sum_by failing_in (all_found all) → IsTrue (is_any_failing all) → 0 < n
    some_fail all n is e =
        let test : nat_lt 0 (sum_by failing_in (all_found all)) ≡ true = sym (any_counted all) ∙ e in
        let more : 0 < sum_by failing_in (all_found all) = grind (arith, nat_tests, test) in
        omega (arith, is, more)

    some_counted : (all : List CutFound) (ys : List AskedRange) → HasFailing (map (text_of (whole_run (inputs_number text.text files) s l value checkers (joined_of (founds text files s l value checkers xs ts segs)))) xs)
        → CutsRise 0 (joined_of (founds text files s l value checkers xs ts segs))
        → HaveSegments (whole_run (inputs_number text.text files) s l value checkers (joined_of (founds text files s l value checkers xs ts segs))) xs (founds text files s l value checkers xs ts segs)
        → FewFail (founds text files s l value checkers xs ts segs) → ArePrintedRanges (whole_run (inputs_number text.text files) s l value checkers (joined_of (founds text files s l value checkers xs ts segs))) xs
        → IsTrue (is_any_failing (joined_of (founds text files s l value checkers xs ts segs)))
    some_counted all ys has rise have less printed =
        let counted = reads_counted (inputs_number text.text files) (head_of s value checkers) (losses_in l s) (cuts_by l.at_most s.cuts value.entries) value xs (founds text files s l value checkers xs ts segs) has.0 rise have less has.1 printed in
        let some = has.2 in
        let failing = counted.failing in
        let more : 0 < sum_by failing_in (all_found (joined_of (founds text files s l value checkers xs ts segs))) = omega (arith, some, failing) in
        let test : nat_lt 0 (sum_by failing_in (all_found (joined_of (founds text files s l value checkers xs ts segs)))) ≡ true = grind (arith, nat_tests, more) in
        any_counted (joined_of (founds text files s l value checkers xs ts segs)) ∙ test

-- ON THE COMMAND LINE

-- what the first range tells of the run
record IsRunThere (files : Files) (s : Settings) (l : LossWords) (log : Recording) : Type 0 where
  programs : List (List ℕ)
  holds : HoldsRun files log programs
  count : IsProgramCount (length programs)
  checkers : List CheckerValue
  made : AreCheckersOf s programs checkers
  good : losses_refusal l s ≡ None
  taken : takes (wanted.Cases (losses_asked l s)) s.extent ≡ true

good_ranged : (l : LossWords) (x : AskedRange) (s : Settings) → losses_refusal l (ranged x s) ≡ None → losses_refusal l s ≡ None
unfolding loss_checks
good_ranged l x s good = good

run_there : (w : OptionWords) (l : LossWords) (files : Files) (s : Settings) (log : Recording) (y x : AskedRange) (t : List ℕ) → w.settings.first ≡ false → l.telling ≡ telling.Cases → AskFor (over y w) s
    → HoldsRecording files log → PrintsRange w l files x t → IsRunThere files s l log
run_there w l files s log y x t all cases asked held prints =
    let a = prints.1 in
    let own = a.answers in
    let both : Some own.log ≡ Some log.text = sym (ap first_file own.read) ∙ held.read in
    let same : own.log ≡ log.text = cc in
    let holds : HoldsRun files log own.programs = (own.read ∙ ap (λ (t : List ℕ). map Some (t ∷ own.programs)) same, held.based) in
    let settings : a.settings ≡ ranged x s = settings_ranged y x w s a.settings asked.asked a.asked.asked in
    let run = range_printed w l files s log own.programs y x t all cases asked holds prints in
    record {
      programs = own.programs;
      holds = holds;
      count = run.2.given.count;
      checkers = run.2.checkers;
      made = made_ranged x s own.programs run.2.checkers run.2.given.made;
      good = good_ranged l x s run.0;
      taken = subst (λ (u : Settings). takes (wanted.Cases (losses_asked l u)) u.extent ≡ true) settings own.answers.taken;
    }

segments_of : AreOne → (w : OptionWords) (l : LossWords) (files : Files) (s : Settings) (log : Recording) (programs : List (List ℕ)) (value : LogValue) (checkers : List CheckerValue) (y : AskedRange)
    (xs : List AskedRange) (ts : List (List ℕ)) → w.settings.first ≡ false → l.telling ≡ telling.Cases → AskFor (over y w) s → HoldsRun files log programs → IsLogOf log s value → AreCheckersOf s programs checkers
    → PrintRanges w l files xs ts → Segments log programs s l value checkers xs ts
segments_of one w l files s log programs value checkers y [] [] all cases asked holds reads made prints = tt
segments_of one w l files s log programs value checkers y [] (t ∷ ts) all cases asked holds reads made prints = absurd prints
segments_of one w l files s log programs value checkers y (x ∷ xs) [] all cases asked holds reads made prints = absurd prints
segments_of one w l files s log programs value checkers y (x ∷ xs) (t ∷ ts) all cases asked holds reads made prints =
    let run = range_printed w l files s log programs y x t all cases asked holds prints.0 in
    (range_segment one s l log programs value checkers x t run.1 reads made run.0 run.2, segments_of one w l files s log programs value checkers y xs ts all cases asked holds reads made prints.1)

-- the first text begins as a text of cases
first_begins : (w : OptionWords) (l : LossWords) (files : Files) (x : AskedRange) (t : List ℕ) (ts : List (List ℕ)) → w.settings.first ≡ false → l.telling ≡ telling.Cases → PrintsRange w l files x t
    → are_cases (t ∷ ts) ≡ true
first_begins w l files x t ts all cases prints =
    let told = cases_are_text (over x w) l files t prints.0 all cases prints.1 in
    ap (λ (bs : List ℕ). bytes_eq bs cases_line) (text_begins t told.0 told.1)

whole_answers : (w : OptionWords) (l : LossWords) (files : Files) (s : Settings) (log : Recording) (value : LogValue) (y : AskedRange) (texts : List (List ℕ)) (part : Bool) (bytes : List ℕ) (status : ℕ)
    → l.telling ≡ telling.Cases → s.first ≡ false → AskFor (over y w) s → HasImages log s value → (run : IsRunThere files s l log) → (j : JoinsCases part texts bytes status)
    → IsWhole (inputs_number log.text run.programs) s l value run.checkers texts bytes → Answers (request.Cases (over y w) l) files bytes status
whole_answers w l files s log value y texts part bytes status cases first asked source run j is =
    let own : bytes ≡ cases_bytes (inputs_number log.text run.programs) (head_of (with_first false s) value run.checkers) (losses_in l s) value is.found =
    is.is ∙ ap (λ (u : Settings). cases_bytes (inputs_number log.text run.programs) (head_of u value run.checkers) (losses_in l s) value is.found) (sym (all_asked s first)) in
    let told : IsCases (losses_asked l s) log run.programs s bytes j.failing = record {
      count = run.count;
      value = value;
      source = source;
      checkers = run.checkers;
      made = run.made;
      tells = record {
        found = is.found;
        are = is.are;
        few = is.few;
        text = subst (λ (t : _). IsTextOf t (inputs_number log.text run.programs) (head_of (with_first false s) value run.checkers) (losses_in l s) value is.found bytes) (sym cases) own;
        fails = one_failing texts j.failing (is_any_failing is.found) j.fails is.fails;
      };
    } in
    record {
      settings = s;
      asked = asked;
      good = run.good;
      answers = record {
        log = log.text;
        programs = run.programs;
        initial = log.initial;
        read = run.holds.0;
        based = run.holds.1;
        answers = record {
          taken = run.taken;
          failing = j.failing;
          told = subst (λ (b : Bool). IsLosses b (losses_asked l s) log run.programs s bytes j.failing) (sym first) told;
          ends = j.ends;
        };
      };
    }

pub join_is_explore_of_cases : AreOne → JoinIsExploreOfCases
join_is_explore_of_cases one part w l files parts whole n bytes status all cases h joined =
    let texts : joined.texts ≡ h.texts = same_files parts.named joined.texts h.texts joined.read h.held in
    let joins : JoinsEither part h.texts bytes status = subst (λ (ts : List (List ℕ)). JoinsEither part ts bytes status) texts joined.joins in
    by_ranges h.ranges h.texts h.of_range h.prints joins
  where
    by_joins : (x : AskedRange) (xs : List AskedRange) (t : List ℕ) (ts : List (List ℕ)) → ArePartsOfRange l.at_most h.run.settings.cuts h.run.value.entries (x ∷ xs) whole → PrintRanges w l files (x ∷ xs) (t ∷ ts)
        → JoinsEither part (t ∷ ts) bytes status → Answers (request.Cases (over (as_asked n whole) w) l) files bytes status
    by_joins x xs t ts of_range prints (join_of_parts begun j) = absurd (let bad : false ≡ true = sym begun ∙ first_begins w l files x t ts all cases prints.0 in cc)
    by_joins x xs t ts of_range prints (join_of_cases begun j) =
        let y : AskedRange = as_asked n whole in
        let s : Settings = h.run.settings in
        let log : Recording = h.run.log in
        let value : LogValue = h.run.value in
        let run : IsRunThere files s l log = run_there w l files s log y x t all cases h.run.asked h.run.held prints.0 in
        let segs = segments_of one w l files s log run.programs value run.checkers y (x ∷ xs) (t ∷ ts) all cases h.run.asked run.holds h.run.source.reads run.made prints in
        let first : s.first ≡ false = ap (λ (u : Settings). u.first) (sym h.run.asked.asked) ∙ all in
        let own : s ≡ ranged y s = settings_ranged y y w s s h.run.asked.asked h.run.asked.asked in
        let also : s ≡ ranged (as_asked (length value.entries) whole) s = subst (λ (m : ℕ). s ≡ ranged (as_asked m whole) s) h.entries own in
        let is = whole_is part log run.programs s l value run.checkers (x ∷ xs) (t ∷ ts) whole bytes also of_range segs j.joined in
        whole_answers w l files s log value y (t ∷ ts) part bytes status cases first h.run.asked h.run.source run j is

    by_ranges : (xs : List AskedRange) (ts : List (List ℕ)) → ArePartsOfRange l.at_most h.run.settings.cuts h.run.value.entries xs whole → PrintRanges w l files xs ts → JoinsEither part ts bytes status
        → Answers (request.Cases (over (as_asked n whole) w) l) files bytes status
    by_ranges [] ts of_range prints joins = absurd (let bad : [] ≡ of_range.first ∷ of_range.others = of_range.are in cc)
    by_ranges (x ∷ xs) [] of_range prints joins = absurd prints
    by_ranges (x ∷ xs) (t ∷ ts) of_range prints joins = by_joins x xs t ts of_range prints joins

pub ranges_of_run_are_joined : AreOne → RangesOfRunAreJoined
ranges_of_run_are_joined one part w l files parts whole n fault all cases h wide refuses = by_ranges h.ranges h.texts h.of_range h.prints refuses
  where
    by_first : (x : AskedRange) (xs : List AskedRange) (t : List ℕ) (ts : List (List ℕ)) → ArePartsOfRange l.at_most h.run.settings.cuts h.run.value.entries (x ∷ xs) whole → PrintRanges w l files (x ∷ xs) (t ∷ ts)
        → RefusesCases part (t ∷ ts) fault → IsOfSize fault
    by_first x xs t ts of_range prints why =
        let y : AskedRange = as_asked n whole in
        let s : Settings = h.run.settings in
        let log : Recording = h.run.log in
        let value : LogValue = h.run.value in
        let run : IsRunThere files s l log = run_there w l files s log y x t all cases h.run.asked h.run.held prints.0 in
        let segs = segments_of one w l files s log run.programs value run.checkers y (x ∷ xs) (t ∷ ts) all cases h.run.asked run.holds h.run.source.reads run.made prints in
        ranges_refused part log run.programs s l value run.checkers (x ∷ xs) (t ∷ ts) whole fault of_range segs
        (λ e. subst (λ (m : ℕ). (start_of whole ≡ 0) × (end_in m whole ≡ m)) h.entries (wide e)) why

    by_ranges : (xs : List AskedRange) (ts : List (List ℕ)) → ArePartsOfRange l.at_most h.run.settings.cuts h.run.value.entries xs whole → PrintRanges w l files xs ts → RefusesCases part ts fault → IsOfSize fault
    by_ranges [] ts of_range prints why = absurd (let bad : [] ≡ of_range.first ∷ of_range.others = of_range.are in cc)
    by_ranges (x ∷ xs) [] of_range prints why = absurd prints
    by_ranges (x ∷ xs) (t ∷ ts) of_range prints why = by_first x xs t ts of_range prints why

-- What `join` prints of the parts of a run is what `explore` prints.
use Rattle.std.proofs.Common.{ℕ, ◌≡◌, ◌<◌, ◌≤◌, ◌&&◌, nat_le, Bool, true, false, List, [], ◌∷◌, bytes_eq, take, length, map, Option, None, Some, refl, sym, ◌∙◌, ap, subst, arith}
use Rattle.std.specs.Option.{option_map, option_map_or}
use Rattle.std.proofs.lemmas.Bool.Decides.{nat_tests}
use Rattle.base.specs.Check.{check, first_failing}
use Rattle.base.specs.declared.limits.Limits.{Limits}
use Rattle.base.specs.declared.limits.Limits.TheVariants as limits
use Rattle.base.specs.Sizes.{most_sectors, sector_limit}
use Rattle.logfmt.specs.Bounds.{LogValue}
use Rattle.checker.specs.Checker.{CheckerValue}
use Rattle.report.specs.Part.{span_text}
use Rattle.join.specs.Laws.{Range}
use Rattle.request.specs.declared.command.OptionWords.{OptionWords}
use Rattle.request.specs.declared.extent.Extent.{Extent}
use Rattle.request.specs.declared.extent.Extent.TheVariants as extent
use Rattle.request.specs.declared.settings.OptionPlace.{OptionPlace}
use Rattle.request.specs.declared.settings.OptionPlace.TheVariants as place
use Rattle.request.specs.declared.settings.Settings.{Settings}
use Rattle.request.specs.declared.settings.Telling.TheVariants as telling
use Rattle.request.specs.Extents.{is_extent}
use Rattle.request.specs.OptionWords.{AskFor}
use Rattle.request.specs.Settings.{is_one_kind, is_ordered, option_checks, settings_refusal, option_refusal, IsAsked}
use Rattle.request.specs.Source.{Recording}
use Rattle.runs.specs.declared.explore_command.WantedAnswer.TheVariants as wanted
use Rattle.request.specs.Inputs.{inputs_number}
use Rattle.runs.specs.Explore.{IsReportOfRun, report_of}
use Rattle.request.specs.declared.command.Request.TheVariants as request
use Rattle.runs.specs.Judged.{takes}
use Rattle.commands.specs.Acting.{Files, status_of, first_file, initial_of, recording, HoldsRecording, AnswersFiles, Answers, JoinsEither, join_of_parts, join_of_cases, are_cases, cases_line}
use Rattle.commands.specs.Parts.{meant, part_of, HasAnswer, AnswerParts, AreTextsOf, asking, PrintsPart, PrintParts, JoinIsExplore}
use Rattle.commands.proofs.OneAnswer.{same_files, same_initial}
use Rattle.commands.proofs.PartsJoined.{AreOne, whole_answer}

-- options that no check refuses are asked for

record AllPass (a b c d e f g h : Bool) : Type 0 where
  sectors : a ≡ true
  bound : b ≡ true
  workers : c ≡ true
  cache : d ≡ true
  images : g ≡ true
  one_kind : h ≡ true

all_pass : (a b c d e f g h : Bool)
    → first_failing (check place.Sectors a ∷ check place.Bound b ∷ check place.Workers c ∷ check place.Cache d ∷ check place.Checked e ∷ check place.Range f ∷ check place.Images g
    ∷ check place.Guards h ∷ []) ≡ None
    → AllPass a b c d e f g h
all_pass true true true true true true true true passed = record { sectors = refl; bound = refl; workers = refl; cache = refl; images = refl; one_kind = refl }
all_pass true true true true true true true false passed = absurd (let bad : Some place.Guards ≡ None = passed in cc)
all_pass true true true true true true false h passed = absurd (let bad : Some place.Images ≡ None = passed in cc)
all_pass true true true true true false g h passed = absurd (let bad : Some place.Range ≡ None = passed in cc)
all_pass true true true true false f g h passed = absurd (let bad : Some place.Checked ≡ None = passed in cc)
all_pass true true true false e f g h passed = absurd (let bad : Some place.Cache ≡ None = passed in cc)
all_pass true true false d e f g h passed = absurd (let bad : Some place.Workers ≡ None = passed in cc)
all_pass true false c d e f g h passed = absurd (let bad : Some place.Bound ≡ None = passed in cc)
all_pass false b c d e f g h passed = absurd (let bad : Some place.Sectors ≡ None = passed in cc)

checks_of : (s : Settings) → first_failing (option_checks s) ≡ None
    → AllPass (nat_le 1 s.sectors && nat_le s.sectors (sector_limit s.limits)) (nat_le s.bound 3) (nat_le 1 s.workers && nat_le s.workers 64) (nat_le s.cache 65536)
    (option_map_or (λ most. nat_le most 1000000000) s.checked true) (is_ordered s.cuts) (is_extent s.extent) (is_one_kind s.guards s.checked)
unfolding option_checks
checks_of s passed =
    all_pass (nat_le 1 s.sectors && nat_le s.sectors (sector_limit s.limits)) (nat_le s.bound 3) (nat_le 1 s.workers && nat_le s.workers 64) (nat_le s.cache 65536)
    (option_map_or (λ most. nat_le most 1000000000) s.checked true) (is_ordered s.cuts) (is_extent s.extent) (is_one_kind s.guards s.checked) passed

both_low : (a b m : ℕ) → (nat_le a b && nat_le b m) ≡ true → (a ≤ b) × (b ≤ m)
both_low a b m both = by_tests (nat_le a b) (nat_le b m) refl refl both
  where
    by_tests : (t u : Bool) → nat_le a b ≡ t → nat_le b m ≡ u → (t && u) ≡ true → (a ≤ b) × (b ≤ m)
    by_tests true true e f both = (grind (arith, nat_tests, e), grind (arith, nat_tests, f))
    by_tests true false e f both = absurd (let bad : false ≡ true = both in cc)
    by_tests false u e f both = absurd (let bad : false ≡ true = both in cc)

few_sectors : (l : Limits) (n : ℕ) → n ≤ sector_limit l → n ≤ most_sectors
few_sectors limits.Usual n few = let most : n ≤ 16384 = few in omega (arith, most)
few_sectors limits.Large n few = few

none_refused : (s : Settings) → settings_refusal s ≡ None → first_failing (option_checks s) ≡ None
none_refused s good = by_first (first_failing (option_checks s)) refl good
  where
    by_first : (o : Option OptionPlace) → first_failing (option_checks s) ≡ o → option_map option_refusal o ≡ None → o ≡ None
    by_first None e f = refl
    by_first (Some p) e f = absurd (let bad : Some (option_refusal p) ≡ None = f in cc)

pub asked_of : (s : Settings) → settings_refusal s ≡ None → IsAsked s
asked_of s good =
    let passed = none_refused s good in
    let h = checks_of s passed in
    let sectors = both_low 1 s.sectors (sector_limit s.limits) h.sectors in
    let workers = both_low 1 s.workers 64 h.workers in
    record {
      some = sectors.0;
      device = few_sectors s.limits s.sectors sectors.1;
      bound = (let test : nat_le s.bound 3 ≡ true = h.bound in grind (arith, nat_tests, test));
      some_worker = workers.0;
      few_workers = workers.1;
      cache = (let test : nat_le s.cache 65536 ≡ true = h.cache in grind (arith, nat_tests, test));
      extent = h.images;
      one_kind = h.one_kind;
      passed = passed;
    }

-- words that differ in the images alone ask for settings that differ in them alone

settings_meant : (e f : Extent) (w : OptionWords) (s t : Settings) → (asking e w).settings ≡ s → (asking f w).settings ≡ t → t ≡ meant f s
settings_meant e f w s t one two = sym two ∙ ap (meant f) one

-- what a part's text answers
abbrev HoldsRun : Files → Recording → List (List ℕ) → Type 0
HoldsRun files log programs = (files.named ≡ map Some (log.text ∷ programs)) × (initial_of files.base ≡ Some log.initial)

part_answers : (w : OptionWords) (files : Files) (s : Settings) (log : Recording) (programs : List (List ℕ)) (x : Range) (t : List ℕ) → AskFor (asking extent.Whole w) s
    → HoldsRun files log programs → PrintsPart w files x t → HasAnswer log programs (part_of s x) t
part_answers w files s log programs x t asked held prints =
    let a = prints.1 in
    let settings : a.settings ≡ part_of s x = settings_meant extent.Whole (extent.Part x.from x.to) w s a.settings asked.asked a.asked.asked in
    let own = a.answers in
    let all : own.log ∷ own.programs ≡ log.text ∷ programs = same_files files.named (own.log ∷ own.programs) (log.text ∷ programs) own.read held.0 in
    let text : own.log ≡ log.text = cc in
    let others : own.programs ≡ programs = cc in
    let initial : own.initial ≡ log.initial = same_initial files own.initial log.initial own.based held.1 in
    let recorded : recording own.log own.initial ≡ log = λ i. record { text = text i; initial = initial i } in
    let told : IsReportOfRun (recording own.log own.initial) own.programs a.settings t own.answers.failing = own.answers.told in
    let by_log = subst (λ (r : Recording). IsReportOfRun r own.programs a.settings t own.answers.failing) recorded told in
    let by_programs = subst (λ (ps : List (List ℕ)). IsReportOfRun log ps a.settings t own.answers.failing) others by_log in (
      own.answers.failing,
      record {
        asked = subst (λ (u : Settings). IsAsked u) settings (asked_of a.settings a.asked.good);
        report = subst (λ (u : Settings). IsReportOfRun log programs u t own.answers.failing) settings by_programs;
      },
    )

parts_answer : (w : OptionWords) (files : Files) (s : Settings) (log : Recording) (programs : List (List ℕ)) (ranges : List Range) (texts : List (List ℕ)) → AskFor (asking extent.Whole w) s
    → HoldsRun files log programs → PrintParts w files ranges texts → AnswerParts log programs s ranges texts
parts_answer w files s log programs [] [] asked held prints = tt
parts_answer w files s log programs [] (t ∷ texts) asked held prints = absurd prints
parts_answer w files s log programs (x ∷ ranges) [] asked held prints = absurd prints
parts_answer w files s log programs (x ∷ ranges) (t ∷ texts) asked held prints =
    (part_answers w files s log programs x t asked held prints.0, parts_answer w files s log programs ranges texts asked held prints.1)

-- the files of a run of which a part was printed
record IsRunOf (files : Files) (log : Recording) : Type 0 where
  programs : List (List ℕ)
  holds : HoldsRun files log programs

run_there : (w : OptionWords) (files : Files) (log : Recording) (ranges : List Range) (texts : List (List ℕ)) → HoldsRecording files log → 0 < length texts → PrintParts w files ranges texts → IsRunOf files log
run_there w files log [] [] held some prints = absurd (omega (arith, some))
run_there w files log [] (t ∷ texts) held some prints = absurd prints
run_there w files log (x ∷ ranges) [] held some prints = absurd prints
run_there w files log (x ∷ ranges) (t ∷ texts) held some prints =
    let own = prints.0.1.answers in
    let both : Some own.log ≡ Some log.text = sym (ap first_file own.read) ∙ held.read in
    let same : own.log ≡ log.text = cc in
    record { programs = own.programs; holds = (own.read ∙ ap (λ (l : List ℕ). map Some (l ∷ own.programs)) same, held.based) }

pub whole_asked : (w : OptionWords) (s : Settings) → AskFor (asking extent.Whole w) s → s ≡ meant extent.Whole s
whole_asked w s asked = settings_meant extent.Whole extent.Whole w s s asked.asked asked.asked

files_answer : (w : OptionWords) (files : Files) (s : Settings) (log : Recording) (programs : List (List ℕ)) (bytes : List ℕ) (failing : Bool) (status : ℕ) → AskFor (asking extent.Whole w) s
    → HoldsRun files log programs → status ≡ status_of failing → IsReportOfRun log programs (meant extent.Whole s) bytes failing → AnswersFiles (wanted.Told telling.Report) s files bytes status
files_answer w files s log programs bytes failing status asked held ends report =
    let same = whole_asked w s asked in
    let told : IsReportOfRun log programs s bytes failing = subst (λ (u : Settings). IsReportOfRun log programs u bytes failing) (sym same) report in
    let images : s.extent ≡ extent.Whole = ap (λ (u : Settings). u.extent) same in
    record {
      log = log.text;
      programs = programs;
      initial = log.initial;
      read = held.0;
      based = held.1;
      answers = record {
        taken = ap (λ (e : Extent). takes (wanted.Told telling.Report) e) images;
        failing = failing;
        told = told;
        ends = ends;
      };
    }

-- what is printed of a part doesn't begin as the text of cases
part_text_begins : (inputs : ℕ) (s : Settings) (x : Range) (value : LogValue) (checkers : List CheckerValue) → bytes_eq (take 14 (report_of inputs (part_of s x) value checkers)) cases_line ≡ false
unfolding span_text
part_text_begins inputs s x value checkers = refl

no_cases : (log : Recording) (programs : List (List ℕ)) (s : Settings) (ranges : List Range) (texts : List (List ℕ)) → AnswerParts log programs s ranges texts → are_cases texts ≡ false
no_cases log programs s [] [] answers = refl
no_cases log programs s [] (t ∷ texts) answers = absurd answers
no_cases log programs s (x ∷ ranges) [] answers = absurd answers
no_cases log programs s (x ∷ ranges) (t ∷ texts) answers =
    let report = answers.0.1.report in
    ap (λ (bs : List ℕ). bytes_eq (take 14 bs) cases_line) report.tells ∙ part_text_begins (inputs_number log.text programs) s x report.value report.checkers

pub join_is_explore : AreOne → JoinIsExplore
join_is_explore one part w files parts images bytes status h few joined =
    let count = h.count in
    let s : Settings = count.settings in
    let texts : joined.texts ≡ h.texts = same_files parts.named joined.texts h.texts joined.read h.held in
    let joins : JoinsEither part h.texts bytes status = subst (λ (ts : List (List ℕ)). JoinsEither part ts bytes status) texts joined.joins in
    let some : 0 < length h.texts = subst (λ (ts : List (List ℕ)). 0 < length ts) texts joined.some in
    let run = run_there w files count.log h.ranges h.texts count.held some h.prints in
    let all : images ≤ images = omega arith in
    let are : AreTextsOf count.log run.programs s h.texts (record { from = 0; to = images }) images = record {
      ranges = h.ranges;
      answers = parts_answer w files s count.log run.programs h.ranges h.texts count.asked run.holds h.prints;
      cover = h.cover;
      count = count.count;
      within = all;
    } in
    by_joins s run.programs count.log count.asked run.holds are joins
  where
    by_joins : (s : Settings) (programs : List (List ℕ)) (log : Recording) → AskFor (asking extent.Whole w) s → HoldsRun files log programs
        → AreTextsOf log programs s h.texts (record { from = 0; to = images }) images → JoinsEither part h.texts bytes status → Answers (request.Explore (asking extent.Whole w)) files bytes status
    by_joins s programs log asked holds are (join_of_cases begun j) = absurd (let bad : true ≡ false = sym begun ∙ no_cases log programs s are.ranges h.texts are.answers in cc)
    by_joins s programs log asked holds are (join_of_parts begun j) =
        let answer = whole_answer one log programs s h.texts images bytes j.failing are j.joined.joined few in
        record {
          settings = s;
          asked = asked;
          answers = files_answer w files s log programs bytes j.failing status asked holds j.ends answer.report;
        }

-- Of the report of checkers `why --report` says what `why` says of the checkers, and `page --report` shows what `page` shows of them.
use Rattle.std.proofs.Common.{ℕ, ◌≡◌, ◌≢◌, ◌≤◌, ◌^◌, ◌↔◌, ◌∷◌, [], codes, Bool, false, IsTrue, List, length, map, Option, None, Some, option_map, refl, sym, ◌∙◌, ap, subst, arith}
use Rattle.std.specs.Option.{option_map_or}
use Rattle.base.specs.Check.{first_failing}
use Rattle.base.specs.declared.causes.RequestCause.TheVariants as asked
use Rattle.base.specs.declared.refusal.Cause.TheVariants.{Request}
use Rattle.base.specs.declared.refusal.Refusal.{Refusal}
use Rattle.logfmt.specs.Bounds.{LogValue}
use Rattle.checker.specs.Checker.{CheckerValue}
use Rattle.report.specs.Line.{FailingLine}
use Rattle.join.specs.Given as reports
use Rattle.join.specs.Given.{GivenValue}
use Rattle.workers.specs.Failing.{failing_lines}
use Rattle.request.specs.declared.command.OptionWords.{OptionWords}
use Rattle.request.specs.declared.extent.Extent.TheVariants as extent
use Rattle.request.specs.declared.settings.OptionPlace.{OptionPlace}
use Rattle.request.specs.declared.settings.Retelling.{Retelling}
use Rattle.request.specs.declared.settings.Retelling.TheVariants as retelling
use Rattle.request.specs.declared.settings.Settings.{Settings}
use Rattle.request.specs.declared.settings.Telling.{Telling}
use Rattle.request.specs.declared.settings.Telling.TheVariants as telling
use Rattle.request.specs.OptionWords.{AskFor}
use Rattle.request.specs.Settings.{option_checks, option_refusal, settings_refusal}
use Rattle.request.specs.Source.{Recording, IsLogOf, HasImages, images_of}
use Rattle.request.specs.Source as source
use Rattle.runs.specs.declared.explore_command.WantedAnswer.TheVariants as wanted
use Rattle.runs.specs.Explore.{IsReportOfRun, subject_of}
use Rattle.request.specs.Inputs.{inputs_number}
use Rattle.runs.specs.Why.{Tells, IsTold}
use Rattle.retold.specs.declared.command.RetellFault.{RetellFault}
use Rattle.retold.specs.Retold as retold
use Rattle.request.specs.Inputs.{head_given, options_given}
use Rattle.retold.specs.Retold.{starts_given, NoneIsGiven, IsGiven, Retells, IsRetoldOf, IsRetold, RefusesSourceAs, RefusesReport, RefusesRetold}
use Rattle.commands.specs.Acting.{Files, first_held, first_file, second_held, initial_of, recording, status_of, AnswersExplore, AnswersRetold, RefusesWith, for_words, for_settings, RefusesReportOf, for_log_of_report, for_report_file, for_base_of_report, for_given, for_fault, retold_refusal}
use Rattle.commands.specs.OfReport.{of_images, IsOfRun, WhyOfReportIsWhy, PageOfReportIsPage}
use Rattle.commands.specs.Parts.{asking}
use Rattle.commands.proofs.OneAnswer.{one_told, same_files, same_initial, same_settings, same_held}
use Rattle.commands.proofs.OneRetold.{one_given}
use Rattle.commands.proofs.OneReport.{same_log, same_checkers, same_test}
use Rattle.commands.proofs.PartsJoined.{AreOne}
use Rattle.commands.proofs.Printed.{asked_of, whole_asked}
use Rattle.commands.proofs.GivenRun.{set_images, given_of, is_report, tells_causes, tells_page, some_are}

same_images : (v w : OptionWords) (r s : Settings) → of_images v ≡ of_images w → AskFor v r → AskFor w s → set_images r ≡ set_images s
same_images v w r s same h k = ap set_images (sym h.asked) ∙ ap (λ (u : OptionWords). u.settings) same ∙ ap set_images k.asked

log_images : {text : Recording} {s : Settings} {v : LogValue} → IsLogOf text s v → IsLogOf text (set_images s) v
log_images h =
    record { read = h.read; recorded = record { device = h.recorded.device; size = h.recorded.size; units = h.recorded.units; of_log = h.recorded.of_log; initial = h.recorded.initial }; has = h.has; added = h.added }

source_images : {text : Recording} {s : Settings} {v : LogValue} → HasImages text s v → HasImages text (set_images s) v
source_images h = record { reads = log_images h.reads; few = h.few; within = h.within }

retells_images : (u : Retelling) (s : Settings) (value : LogValue) (g : GivenValue) (bytes : List ℕ) → Retells u s value g bytes → Retells u (set_images s) value g bytes
unfolding head_given
retells_images retelling.Causes s value g bytes h = h
retells_images retelling.Page s value g bytes h = h
retells_images retelling.Places s value g bytes h = h

given_images : (file : List ℕ) (s : Settings) (value : LogValue) (report : List ℕ) (g : GivenValue) → IsGiven file s value report g → IsGiven file (set_images s) value report g
unfolding head_given
given_images file s value report g h = record { said = h.said; few = h.few; as_said = record { counted = h.as_said.counted; read = record { is = h.as_said.read.is; only = h.as_said.read.only } } }

retold_images : (u : Retelling) (text : Recording) (report : List ℕ) (s : Settings) (bytes : List ℕ) (failing : Bool) → IsRetold u text report s bytes failing
    → IsRetold u text report (set_images s) bytes failing
unfolding head_given
retold_images u text report s bytes failing h = record {
  whole = h.whole;
  short = h.short;
  value = h.value;
  source = source_images h.source;
  told = record { given = h.told.given; is = given_images text.text s h.value report h.told.given h.told.is; tells = retells_images u s h.value h.told.given bytes h.told.tells; fails = h.told.fails };
}

-- what is told of a report as it is told of a run
data AreToldAlike : Telling → Retelling → Type 0 where
  causes : AreToldAlike telling.Causes retelling.Causes
  pages : AreToldAlike telling.Page retelling.Page

told_of_run : (t : Telling) (u : Retelling) → AreToldAlike t u → (inputs : ℕ) (s : Settings) (value : LogValue) (checkers : List CheckerValue) (bytes : List ℕ)
    → Retells u (set_images s) value (given_of s value checkers) bytes → Tells t inputs s value checkers bytes
told_of_run _ _ causes inputs s value checkers bytes h = tells_causes s value checkers bytes h
told_of_run _ _ pages inputs s value checkers bytes h = tells_page s value checkers bytes h

-- the run that printed a report
record IsRunOf (w : OptionWords) (files : Files) (report : List ℕ) : Type 0 where
  log : List ℕ
  programs : List (List ℕ)
  initial : List ℕ
  settings : Settings
  failing : Bool
  read : files.named ≡ map Some (log ∷ programs)
  based : initial_of files.base ≡ Some initial
  ask : AskFor (asking extent.Whole w) settings
  whole : settings.extent ≡ extent.Whole
  all : settings.first ≡ false
  is : IsReportOfRun (recording log initial) programs settings report failing

run_of_report : (v w : OptionWords) (files given : Files) (report : List ℕ) → IsOfRun v w files given report → IsRunOf w files report
run_of_report v w files given report h =
    let a = h.printed in
    let own = a.answers in
    let same = whole_asked w a.settings a.asked in
    record {
      log = own.log;
      programs = own.programs;
      initial = own.initial;
      settings = a.settings;
      failing = own.answers.failing;
      read = own.read;
      based = own.based;
      ask = a.asked;
      whole = ap (λ (s : Settings). s.extent) same;
      all = ap (λ (s : Settings). s.first) (sym a.asked.asked) ∙ h.all;
      is = own.answers.told;
    }

-- its report is one of the log
abbrev IsReadAs : Settings → LogValue → List CheckerValue → List ℕ → Type 0
IsReadAs s value checkers report = reports.IsReport (codes "crash report 2\n") (options_given (set_images s) value) (starts_given (set_images s) value) (length (images_of (set_images s) value)) report (given_of s value checkers)

given_is : (w : OptionWords) (files : Files) (report : List ℕ) (r : IsRunOf w files report) → IsReadAs r.settings r.is.value r.is.checkers report
given_is w files report r =
    let e = r.is in
    is_report (recording r.log r.initial) r.programs r.settings e.value e.checkers report
    (record { asked = asked_of r.settings r.ask.good; count = e.count; source = e.source; made = e.made }) r.whole r.all e.tells

abbrev IsFails : Bool → GivenValue → Type 0
IsFails failing g = IsTrue failing ↔ (g.lines ≢ [])

-- what is told of it, of the same log
same_told : AreOne → (t : Telling) (u : Retelling) → AreToldAlike t u → (w : OptionWords) (files : Files) (report bytes others : List ℕ) (r : IsRunOf w files report) (fails told : Bool)
    → IsTold t (recording r.log r.initial) r.programs r.settings bytes fails → IsRetold u (recording r.log r.initial) report (set_images r.settings) others told
    → (others ≡ bytes) × (told ≡ fails)
same_told one t u pair w files report bytes others r fails told k h =
    let s : Settings = r.settings in
    let text : Recording = recording r.log r.initial in
    let inputs : ℕ = inputs_number text.text r.programs in
    let e = r.is in
    let why_value : k.value ≡ e.value = same_log one.texts text s k.value e.value k.source e.source in
    let checkers : k.checkers ≡ e.checkers = same_checkers one.programs one.verdicts s r.programs k.checkers e.checkers k.made e.made in
    let by_value = subst (λ (v : LogValue). Tells t inputs s v k.checkers bytes) why_value k.tells in
    let explained = subst (λ (cs : List CheckerValue). Tells t inputs s e.value cs bytes) checkers by_value in
    let value : h.value ≡ e.value = same_log one.texts text (set_images s) h.value e.value h.source (source_images e.source) in
    let own : IsRetoldOf u text.text (set_images s) e.value report others told = subst (λ (v : LogValue). IsRetoldOf u text.text (set_images s) v report others told) value h.told in
    let given : own.given ≡ given_of s e.value e.checkers = one_given text.text (set_images s) e.value report own.given (given_of s e.value e.checkers) own.is 0 (omega arith) (given_is w files report r) in
    let tells = subst (λ (g : GivenValue). Retells u (set_images s) e.value g others) given own.tells in
    let ls : List FailingLine = failing_lines (subject_of s e.value e.checkers) in
    let lines : failing_lines (subject_of s k.value k.checkers) ≡ ls = λ i. failing_lines (subject_of s (why_value i) (checkers i)) in
    let own_fails = subst (λ (g : GivenValue). IsFails told g) given own.fails in (
      one_told t inputs s e.value e.checkers others bytes (told_of_run t u pair inputs s e.value e.checkers others tells) explained,
      same_test told fails ls (failing_lines (subject_of s k.value k.checkers)) (some_are ls told own_fails) k.fails (sym lines),
    )

same_answer : AreOne → (t : Telling) (u : Retelling) → AreToldAlike t u → (v w : OptionWords) (files given : Files) (report bytes others : List ℕ) (status ended : ℕ) → IsOfRun v w files given report
    → AnswersExplore (wanted.Told t) (asking extent.Whole w) files bytes status → AnswersRetold u v given others ended → (others ≡ bytes) × (ended ≡ status)
same_answer one t u pair v w files given report bytes others status ended is k h =
    let r = run_of_report v w files given report is in
    let own = k.answers in
    let settings : k.settings ≡ r.settings = same_settings (asking extent.Whole w) k.settings r.settings k.asked r.ask in
    let all : own.log ∷ own.programs ≡ r.log ∷ r.programs = same_files files.named (own.log ∷ own.programs) (r.log ∷ r.programs) own.read r.read in
    let log : own.log ≡ r.log = cc in
    let programs : own.programs ≡ r.programs = cc in
    let recorded : recording own.log own.initial ≡ recording r.log r.initial = λ i. recording (log i) (same_initial files own.initial r.initial own.based r.based i) in
    let told : IsTold t (recording own.log own.initial) own.programs k.settings bytes own.answers.failing = own.answers.told in
    let by_log = subst (λ (x : Recording). IsTold t x own.programs k.settings bytes own.answers.failing) recorded told in
    let by_programs = subst (λ (ps : List (List ℕ)). IsTold t (recording r.log r.initial) ps k.settings bytes own.answers.failing) programs by_log in
    let explained = subst (λ (s : Settings). IsTold t (recording r.log r.initial) r.programs s bytes own.answers.failing) settings by_programs in
    let images : set_images h.settings ≡ set_images r.settings = same_images v (asking extent.Whole w) h.settings r.settings is.images h.asked r.ask in
    let given_log : h.log ≡ r.log = same_held (first_held files) h.log r.log (sym is.has.log ∙ h.read) (ap first_file r.read) in
    let given_report : h.report ≡ report = same_held (second_held given) h.report report h.second is.has.second in
    let given_initial : h.initial ≡ r.initial = same_held (initial_of files.base) h.initial r.initial (sym is.has.based ∙ h.based) r.based in
    let held : recording h.log h.initial ≡ recording r.log r.initial = λ i. recording (given_log i) (given_initial i) in
    let moved = retold_images u (recording h.log h.initial) h.report h.settings others h.failing h.told in
    let by_held = subst (λ (x : Recording). IsRetold u x h.report (set_images h.settings) others h.failing) held moved in
    let by_report = subst (λ (bs : List ℕ). IsRetold u (recording r.log r.initial) bs (set_images h.settings) others h.failing) given_report by_held in
    let retold_of = subst (λ (s : Settings). IsRetold u (recording r.log r.initial) report s others h.failing) images by_report in
    let both = same_told one t u pair w files report bytes others r own.answers.failing h.failing explained retold_of in
    (both.0, h.ends ∙ ap status_of both.1 ∙ sym own.answers.ends)

-- no other refusal says that a report is none

not_of_option : (p : OptionPlace) (r : Refusal) → option_refusal p ≡ r → r.code ≢ Request asked.NotReport
not_of_option p r is bad = let own : Request asked.Option ≡ Request asked.NotReport = ap (λ (x : Refusal). x.code) is ∙ bad in cc

not_of_settings : (o : Option OptionPlace) (r : Refusal) → option_map option_refusal o ≡ Some r → r.code ≢ Request asked.NotReport
not_of_settings None r is bad = let none : None ≡ Some r = is in cc
not_of_settings (Some p) r is bad = let both : Some (option_refusal p) ≡ Some r = is in let one : option_refusal p ≡ r = cc in not_of_option p r one bad

not_of_words : (w : OptionWords) (unnamed : Option OptionPlace) (r : Refusal) → option_map_or (λ at. Some (option_refusal at)) unnamed (settings_refusal w.settings) ≡ Some r
    → r.code ≢ Request asked.NotReport
not_of_words w None r is = not_of_settings (first_failing (option_checks w.settings)) r is
not_of_words w (Some p) r is = not_of_settings (Some p) r is

not_of_log : (text : Recording) (s : Settings) (r : Refusal) → source.RefusesLog text s r → r.code ≢ Request asked.NotReport
not_of_log text s _ (source.past_device long) bad = let own : Request asked.Option ≡ Request asked.NotReport = bad in cc
not_of_log text s _ (source.with_fault cause at fits first) bad = cc
not_of_log text s _ source.no_memory bad = cc
not_of_log text s _ (source.lacks read at recorded there) bad = let own : Request asked.NotInLog ≡ Request asked.NotReport = bad in cc

not_of_plan : (s : Settings) (value : LogValue) (r : Refusal) → source.RefusesPlan s value r → r.code ≢ Request asked.NotReport
not_of_plan s value _ (source.too_many cut past) bad = let own : Request asked.TooManyImages ≡ Request asked.NotReport = bad in cc
not_of_plan s value _ (source.lacks_images few lack) bad = let own : Request asked.Option ≡ Request asked.NotReport = bad in cc
not_of_plan s value _ source.no_plan_memory bad = cc

not_of_source : (text : Recording) (s : Settings) (f : RetellFault) → RefusesSourceAs text s f → (retold_refusal f).code ≢ Request asked.NotReport
not_of_source text s _ (retold.with_refusal _ (source.for_log r why)) = not_of_log text s r why
not_of_source text s _ (retold.with_refusal _ (source.for_plan r value reads why)) = not_of_plan s value r why

-- it is a report with these options, whatever else is asked for
none_images : (file : List ℕ) (s : Settings) (value : LogValue) (report : List ℕ) → NoneIsGiven file s value report → NoneIsGiven file (set_images s) value report
unfolding head_given
none_images file s value report h = record { none = λ said few. record { none = λ g counted is. (h.none said few).none g counted is } }

not_of_report : AreOne → (w : OptionWords) (files : Files) (report : List ℕ) (r : IsRunOf w files report) (s : Settings) (value : LogValue) (f : RetellFault) → set_images s ≡ set_images r.settings
    → HasImages (recording r.log r.initial) s value → RefusesReport r.log s value report f → (retold_refusal f).code ≢ Request asked.NotReport
not_of_report one w files report r s value _ same has (retold.no_report line none) bad =
    let text : Recording = recording r.log r.initial in
    let e = r.is in
    let images = subst (λ (x : Settings). HasImages text x value) same (source_images has) in
    let log : value ≡ e.value = same_log one.texts text (set_images r.settings) value e.value images (source_images e.source) in
    let by_settings = subst (λ (x : Settings). NoneIsGiven r.log x value report) same (none_images r.log s value report none) in
    let by_log = subst (λ (v : LogValue). NoneIsGiven r.log (set_images r.settings) v report) log by_settings in
    (by_log.none 0 (omega arith)).none (given_of r.settings e.value e.checkers) refl (given_is w files report r)
not_of_report one w files report r s value _ same has retold.no_memory bad = cc

not_refused : AreOne → (w : OptionWords) (files : Files) (report : List ℕ) (r : IsRunOf w files report) (s : Settings) (f : RetellFault) → set_images s ≡ set_images r.settings → length report ≤ 2 ^ 30
    → RefusesRetold (recording r.log r.initial) report s f → (retold_refusal f).code ≢ Request asked.NotReport
not_refused one w files report r s _ same short (retold.for_part part) bad = let own : Request asked.Option ≡ Request asked.NotReport = bad in cc
not_refused one w files report r s _ same short (retold.too_long whole long) bad = omega (arith, short, long)
not_refused one w files report r s _ same short (retold.for_source f whole few why) bad = not_of_source (recording r.log r.initial) s f why bad
not_refused one w files report r s _ same short (retold.for_report f value whole few has why) bad = not_of_report one w files report r s value f same has why bad
not_refused one w files report r s _ same short retold.want_of_memory bad = cc

not_none : AreOne → (t : Retelling) (v w : OptionWords) (files given : Files) (report : List ℕ) (refusal : Refusal) → IsOfRun v w files given report → length report ≤ 2 ^ 30
    → RefusesWith v (RefusesReportOf given) refusal → refusal.code ≢ Request asked.NotReport
not_none one t v w files given report _ is short (for_words r why) = not_of_words v v.unnamed r why
not_none one t v w files given report _ is short (for_settings s r ask why) = of_files r why
  where
    run : IsRunOf w files report
    run = run_of_report v w files given report is

    images : set_images s ≡ set_images run.settings
    images = same_images v (asking extent.Whole w) s run.settings is.images ask run.ask

    of_files : (q : Refusal) → RefusesReportOf given s q → q.code ≢ Request asked.NotReport
    of_files _ (for_log_of_report none) bad = let own : Request asked.File ≡ Request asked.NotReport = bad in cc
    of_files _ (for_report_file log read none) bad = let own : Request asked.File ≡ Request asked.NotReport = bad in cc
    of_files _ (for_base_of_report log other read second none) bad = let own : Request asked.File ≡ Request asked.NotReport = bad in cc
    of_files _ (for_given log other initial _ read second based (for_fault f refused)) bad =
        let given_log : log ≡ run.log = same_held (first_held files) log run.log (sym is.has.log ∙ read) (ap first_file run.read) in
        let given_report : other ≡ report = same_held (second_held given) other report second is.has.second in
        let given_initial : initial ≡ run.initial = same_held (initial_of files.base) initial run.initial (sym is.has.based ∙ based) run.based in
        let held : recording log initial ≡ recording run.log run.initial = λ i. recording (given_log i) (given_initial i) in
        let by_held = subst (λ (x : Recording). RefusesRetold x other s f) held refused in
        not_refused one w files report run s f images short (subst (λ (bs : List ℕ). RefusesRetold (recording run.log run.initial) bs s f) given_report by_held) bad

pub why_of_report_is_why : AreOne → WhyOfReportIsWhy
why_of_report_is_why one = record {
  same = same_answer one telling.Causes retelling.Causes causes;
  taken = λ t v w files given report refusal is short why. not_none one t v w files given report refusal is short why;
}

pub page_of_report_is_page : AreOne → PageOfReportIsPage
page_of_report_is_page one = same_answer one telling.Page retelling.Page pages

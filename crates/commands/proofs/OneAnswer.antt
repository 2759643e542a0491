-- Each command has one answer.
use Rattle.std.proofs.Common.{ℕ, ◌≡◌, ◌↔◌, IsTrue, Bool, true, false, List, [], ◌∷◌, ◌++◌, ◌-◌, length, map, flat_map, Option, None, Some, refl, sym, ◌∙◌, ap, subst}
use Rattle.std.specs.Prelude.{MatchOption}
use Rattle.logfmt.specs.Bounds.{LogValue}
use Rattle.logfmt.specs.Laws.{TextOfOneLog}
use Rattle.bpf_isa.specs.Laws.{OneProgram}
use Rattle.bpf_isa.specs.Program.{slot_bytes}
use Rattle.bpf_isa.specs.declared.instr.Instr.{Instr}
use Rattle.bpf_asm.specs.Laws as asm
use Rattle.verifier.specs.Laws.{OneVerdict}
use Rattle.machine.specs.Outcome.{fails}
use Rattle.choices.specs.Choices.{ChoiceValue}
use Rattle.checker.specs.Checker.{CheckerValue}
use Rattle.crash_text.specs.LogTable.{log_table}
use Rattle.request.specs.declared.settings.Settings.{Settings}
use Rattle.request.specs.declared.settings.Telling.{Telling}
use Rattle.request.specs.declared.settings.Telling.TheVariants as telling
use Rattle.request.specs.declared.settings.Retelling.{Retelling}
use Rattle.request.specs.AnyLosses.{losses_asked}
use Rattle.request.specs.declared.any_losses.AnyLosses.{AnyLosses}
use Rattle.request.specs.declared.any_losses.LossWords.{LossWords}
use Rattle.request.specs.declared.command.OptionWords.{OptionWords}
use Rattle.request.specs.declared.command.Which.{Which}
use Rattle.request.specs.declared.command.Request.{Request}
use Rattle.request.specs.declared.trials.Trial.{Trial}
use Rattle.request.specs.declared.trials.TrialWords.{TrialWords}
use Rattle.join.specs.CaseJoining.{HasFailing}
use Rattle.inspect.specs.TrialImage.{sectors_of as image_sectors}
use Rattle.inspect.specs.TrialText.{Bound, bound_of, IsBoundBy, trial_text, ending_of_trial, IsTried}
use Rattle.request.specs.declared.command.Request.TheVariants as request
use Rattle.request.specs.OptionWords.{AskFor}
use Rattle.request.specs.Source.{Recording, plan_of, images_of}
use Rattle.case_runs.specs.Found.{FindingIsOne}
use Rattle.case_runs.specs.First.{FirstIsOne}
use Rattle.known.specs.Once.{FoundIsOne}
use Rattle.known_runs.specs.Asked.{KnownAsked}
use Rattle.request.specs.Known.{known_asked}
use Rattle.request.specs.declared.known.KnownSearch.{KnownSearch}
use Rattle.request.specs.declared.known.KnownWords.{KnownWords}
use Rattle.request.specs.declared.settings.KnownTelling.{KnownTelling}
use Rattle.request.specs.declared.settings.KnownTelling.TheVariants as telling_known
use Rattle.runs.specs.Why.{Tells}
use Rattle.retold.specs.Retold.{IsRetold}
use Rattle.runs.specs.Cured.{TellsCure, Cures, IsAnswered}
use Rattle.request.specs.Inputs.{inputs_number}
use Rattle.base.specs.Sizes.{sector_limit}
use Rattle.base.specs.declared.limits.Limits.{Limits}
use Rattle.raw_log.specs.Imported.{IsImported}
use Rattle.raw_log.proofs.Profile.{one_import}
use Rattle.inspect.specs.Which.{IsMeant, IsOnly}
use Rattle.inspect.specs.Image.{text_in, IsImageIn, IsImage, IsShown}
use Rattle.inspect.specs.AnyImage.{any_text_in, IsAnyImage, IsMeantLoss}
use Rattle.case_runs.specs.Cuts.{first_wanted, last_wanted}
use Rattle.inspect.specs.CutSurvey.{IsCutSurvey, cut_survey_text, laid_text, risks_of}
use Rattle.inspect.specs.Survey.{survey_text, parts_text, IsSurvey}
use Rattle.inspect.specs.Export.{export_head, exported, IsExport}
use Rattle.export.specs.Export.{export_text}
use Rattle.inspect.specs.Table.{IsTable}
use Rattle.inspect.specs.Verifying.{verified_text, IsAcceptedText}
use Rattle.inspect.specs.Assembly.{listing_text, IsAssembled, IsListed}
use Rattle.runs.specs.declared.explore_command.WantedAnswer.{WantedAnswer}
use Rattle.runs.specs.declared.explore_command.WantedAnswer.TheVariants as wanted
use Rattle.commands.specs.Acting.{Files, initial_of, recording, status_of, AnswersRun, AnswersFiles, AnswersExplore, AnswersMarked, marked_report, AnswersCases, wanted_by, AnswersLosses, any_words, AnswersRetold, AnswersRecords, TellsRecords, search_asked, AnswersFile, AnswersLog, AnswersOf, AnswersWith, AnswersTrial, AnswersJoin, JoinsEither, join_of_parts, join_of_cases, Answers, form_of}
use Rattle.commands.proofs.OneReport.{same_log, same_asked, one_run}
use Rattle.commands.proofs.OneText.{one_explanation}
use Rattle.commands.proofs.OnePage.{one_page}
use Rattle.commands.proofs.OneCure.{one_cure, one_cures}
use Rattle.commands.proofs.OneFirst.{one_by_cases, one_losses}
use Rattle.commands.proofs.OneJoin.{one_join}
use Rattle.commands.proofs.OneCasesJoin.{one_cases_join}
use Rattle.commands.proofs.OneRetold.{one_retold}
use Rattle.commands.proofs.OneKnown.{known_once, wanted_once}

-- what the laws of the lower layers say
pub record Laws : Type 0 where
  pub texts : TextOfOneLog
  pub programs : OneProgram
  pub verdicts : OneVerdict
  pub sources : asm.OneProgram
  pub findings : FindingIsOne
  pub first : FirstIsOne
  pub known : FoundIsOne

-- the same bytes and the same number
abbrev pub Same : List ℕ → List ℕ → ℕ → ℕ → Type 0
Same bytes others status ended = (bytes ≡ others) × (status ≡ ended)

-- what is told of a log and of checkers is one
pub one_told : (t : Telling) (inputs : ℕ) (s : Settings) (value : LogValue) (checkers : List CheckerValue) (bytes others : List ℕ)
    → Tells t inputs s value checkers bytes → Tells t inputs s value checkers others → bytes ≡ others
one_told telling.Report inputs s value checkers bytes others a b = a ∙ sym b
one_told telling.Causes inputs s value checkers bytes others a b = one_explanation _ _ _ bytes others a b
one_told telling.Page inputs s value checkers bytes others a b = one_page _ _ _ _ bytes others a b

answered_once : Laws → (w : WantedAnswer) (text : Recording) (files : List (List ℕ)) (s : Settings) (bytes others : List ℕ) (failing fails : Bool)
    → IsAnswered w text files s bytes failing → IsAnswered w text files s others fails → (bytes ≡ others) × (failing ≡ fails)
answered_once laws (wanted.Told t) text files s bytes others failing fails a b =
    one_run laws.texts laws.programs laws.verdicts (λ s value checkers bytes. Tells t (inputs_number text.text files) s value checkers bytes) (one_told t (inputs_number text.text files)) text files
    s bytes others failing fails a b
answered_once laws wanted.Cured text files s bytes others failing fails a b =
    one_run laws.texts laws.programs laws.verdicts (TellsCure None) (λ s value checkers bytes others x y. one_cure laws.findings None s value checkers bytes others x y) text files s bytes others failing fails a b
answered_once laws (wanted.Cases l) text files s bytes others failing fails a b =
    one_losses laws.texts laws.programs laws.verdicts laws.findings laws.first s.first l text files s bytes others failing fails a b
answered_once laws (wanted.CuredCases l) text files s bytes others failing fails a b =
    one_by_cases laws.texts laws.programs laws.verdicts (Cures (Some l)) (λ s value checkers bytes others x y. one_cures laws.findings (Some l) s value checkers bytes others x y) text files s bytes others
    failing fails a b

run_once : Laws → (t : WantedAnswer) (s : Settings) (log : Recording) (programs : List (List ℕ)) (bytes others : List ℕ) (status ended : ℕ)
    → AnswersRun t s log programs bytes status → AnswersRun t s log programs others ended → Same bytes others status ended
run_once laws t s log programs bytes others status ended a b =
    let same = answered_once laws t log programs s bytes others a.failing b.failing a.told b.told in
    (same.0, a.ends ∙ ap status_of same.1 ∙ sym b.ends)

-- what files that can be read hold
abbrev contents : List (Option (List ℕ)) → List (List ℕ)
contents [] = []
contents (None ∷ files) = contents files
contents (Some held ∷ files) = held ∷ contents files

contents_are : (xs : List (List ℕ)) → contents (map Some xs) ≡ xs
contents_are [] = refl
contents_are (x ∷ xs) = ap (λ (ys : List (List ℕ)). x ∷ ys) (contents_are xs)

pub same_files : (files : List (Option (List ℕ))) (xs ys : List (List ℕ)) → files ≡ map Some xs → files ≡ map Some ys → xs ≡ ys
same_files files xs ys a b = sym (contents_are xs) ∙ ap contents (sym a ∙ b) ∙ contents_are ys

-- the initial content of a command's files is one
pub same_initial : (files : Files) (xs ys : List ℕ) → initial_of files.base ≡ Some xs → initial_of files.base ≡ Some ys → xs ≡ ys
same_initial files xs ys a b = let both : Some xs ≡ Some ys = sym a ∙ b in cc

files_once : Laws → (t : WantedAnswer) (s : Settings) (files : Files) (bytes others : List ℕ) (status ended : ℕ)
    → AnswersFiles t s files bytes status → AnswersFiles t s files others ended → Same bytes others status ended
files_once laws t s files bytes others status ended a b =
    let all : b.log ∷ b.programs ≡ a.log ∷ a.programs = same_files files.named (b.log ∷ b.programs) (a.log ∷ a.programs) b.read a.read in
    let log : b.log ≡ a.log = cc in
    let programs : b.programs ≡ a.programs = cc in
    let both : recording b.log b.initial ≡ recording a.log a.initial = λ i. recording (log i) (same_initial files b.initial a.initial b.based a.based i) in
    let by_log = subst (λ (text : Recording). AnswersRun t s text b.programs others ended) both b.answers in
    run_once laws t s (recording a.log a.initial) a.programs bytes others status ended a.answers
    (subst (λ (ps : List (List ℕ)). AnswersRun t s (recording a.log a.initial) ps others ended) programs by_log)

pub same_settings : (w : OptionWords) (s t : Settings) → AskFor w s → AskFor w t → s ≡ t
same_settings w s t a b = sym a.asked ∙ b.asked

explore_once : Laws → (t : WantedAnswer) (w : OptionWords) (files : Files) (bytes others : List ℕ) (status ended : ℕ)
    → AnswersExplore t w files bytes status → AnswersExplore t w files others ended → Same bytes others status ended
explore_once laws t w files bytes others status ended a b =
    let same = same_settings w b.settings a.settings b.asked a.asked in
    files_once laws t a.settings files bytes others status ended a.answers (subst (λ (s : Settings). AnswersFiles t s files others ended) same b.answers)

cases_once : Laws → (cured : Bool) (w : OptionWords) (l : LossWords) (files : Files) (bytes others : List ℕ) (status ended : ℕ)
    → AnswersCases cured w l files bytes status → AnswersCases cured w l files others ended → Same bytes others status ended
cases_once laws cured w l files bytes others status ended a b =
    let same = same_settings w b.settings a.settings b.asked a.asked in
    files_once laws (wanted_by cured (losses_asked l a.settings)) a.settings files bytes others status ended a.answers
    (subst (λ (s : Settings). AnswersFiles (wanted_by cured (losses_asked l s)) s files others ended) same b.answers)

-- what is said of a file is one
abbrev IsOne : (List ℕ → List ℕ → Type 0) → Type 0
IsOne Is = (held bytes others : List ℕ) → Is held bytes → Is held others → bytes ≡ others

file_once : (Is : List ℕ → List ℕ → Type 0) → IsOne Is → (files : Files) (bytes others : List ℕ) (status ended : ℕ)
    → AnswersFile Is files bytes status → AnswersFile Is files others ended → Same bytes others status ended
file_once Is one files bytes others status ended a b =
    let both : Some b.held ≡ Some a.held = sym b.read ∙ a.read in
    let held : b.held ≡ a.held = cc in
    (one a.held bytes others a.is (subst (λ (h : List ℕ). Is h others) held b.is), a.ends ∙ sym b.ends)

with_once : (w : OptionWords) (Is : Settings → List ℕ → List ℕ → Type 0) → ((s : Settings) → IsOne (Is s)) → (files : Files) (bytes others : List ℕ) (status ended : ℕ)
    → AnswersWith w Is files bytes status → AnswersWith w Is files others ended → Same bytes others status ended
with_once w Is one files bytes others status ended a b =
    let same = same_settings w b.settings a.settings b.asked a.asked in
    file_once (Is a.settings) (one a.settings) files bytes others status ended a.answers (subst (λ (s : Settings). AnswersFile (Is s) files others ended) same b.answers)

-- the same of a command on a log
abbrev IsOneOf : (Recording → List ℕ → Type 0) → Type 0
IsOneOf Is = (held : Recording) (bytes others : List ℕ) → Is held bytes → Is held others → bytes ≡ others

log_once : (Is : Recording → List ℕ → Type 0) → IsOneOf Is → (files : Files) (bytes others : List ℕ) (status ended : ℕ)
    → AnswersLog Is files bytes status → AnswersLog Is files others ended → Same bytes others status ended
log_once Is one files bytes others status ended a b =
    let both : Some b.held ≡ Some a.held = sym b.read ∙ a.read in
    let held : b.held ≡ a.held = cc in
    let same : recording b.held b.initial ≡ recording a.held a.initial = λ i. recording (held i) (same_initial files b.initial a.initial b.based a.based i) in
    (one (recording a.held a.initial) bytes others a.is (subst (λ (h : Recording). Is h others) same b.is), a.ends ∙ sym b.ends)

of_once : (w : OptionWords) (Is : Settings → Recording → List ℕ → Type 0) → ((s : Settings) → IsOneOf (Is s)) → (files : Files) (bytes others : List ℕ) (status ended : ℕ)
    → AnswersOf w Is files bytes status → AnswersOf w Is files others ended → Same bytes others status ended
of_once w Is one files bytes others status ended a b =
    let same = same_settings w b.settings a.settings b.asked a.asked in
    log_once (Is a.settings) (one a.settings) files bytes others status ended a.answers (subst (λ (s : Settings). AnswersLog (Is s) files others ended) same b.answers)

one_survey : Laws → (parts : Option ℕ) (s : Settings) → IsOneOf (λ text bytes. IsSurvey parts text s bytes)
one_survey laws parts s text bytes others a b =
    a.told ∙ ap (λ v. survey_text (plan_of s v) s.bound s.tears ++ parts_text parts (length (images_of s v))) (same_log laws.texts text s a.value b.value a.source b.source) ∙ sym b.told

one_export : Laws → (s : Settings) → IsOneOf (λ text bytes. IsExport text s bytes)
one_export laws s text bytes others a b =
    a.told ∙ ap (λ (v : LogValue). export_head text.text s v ++ export_text (exported s v)) (same_log laws.texts text s a.value b.value a.source b.source) ∙ sym b.told

one_table : Laws → (s : Settings) → IsOneOf (λ text bytes. IsTable text s bytes)
one_table laws s text bytes others a b =
    let value = same_asked laws.texts text s a.value b.value a.reads b.reads in
    a.shown ∙ ap (λ (v : LogValue). log_table v.entries) value ∙ sym b.shown

-- the choice that is meant is one
same_choice : (s : Settings) (which : Which) (v w : LogValue) (c d : ChoiceValue) → v ≡ w → IsOnly (IsMeant (plan_of s v) s.bound s.tears which) c
    → IsOnly (IsMeant (plan_of s w) s.bound s.tears which) d → c ≡ d
same_choice s which v w c d same a b = sym (a.only d (subst (λ (x : LogValue). IsMeant (plan_of s x) s.bound s.tears which d) (sym same) b.is))

one_image : Laws → (form : _) (which : Which) (s : Settings) → IsOneOf (λ text bytes. IsImageIn form text s which bytes)
one_image laws form which s text bytes others a b =
    let value = same_log laws.texts text s a.value b.value a.source b.source in
    let choice = same_choice s which a.value b.value a.choice b.choice value a.meant b.meant in
    let same : text_in form s (plan_of s a.value) a.choice ≡ text_in form s (plan_of s b.value) b.choice = λ i. text_in form s (plan_of s (value i)) (choice i) in
    a.shown ∙ same ∙ sym b.shown

-- the image of a choice of any number of parts
one_any : Laws → (in_words : Bool) (cut : ℕ) (said : List ℕ) (s : Settings) → IsOneOf (λ text bytes. IsAnyImage (form_of in_words) text s cut said bytes)
one_any laws in_words cut said s text bytes others a b =
    let value = same_asked laws.texts text s a.value b.value a.reads b.reads in
    let there = subst (λ (v : LogValue). IsMeantLoss s v cut said b.shown.departures) (sym value) b.shown.meant in
    let lost = sym (a.shown.only b.shown.departures there) in
    let form = form_of in_words in
    let same : any_text_in form s a.value cut a.shown.departures ≡ any_text_in form s b.value cut b.shown.departures = λ i. any_text_in form s (value i) cut (lost i) in
    a.shown.told ∙ same ∙ sym b.shown.told

-- the cuts of any number of losses
cut_survey_of : Option ℕ → AnyLosses → Settings → LogValue → List ℕ
cut_survey_of parts l s v =
    cut_survey_text (plan_of s v) (risks_of l s v)
    ++ laid_text parts (first_wanted s.cuts (length v.entries)) (last_wanted s.cuts (length v.entries)) (risks_of l s v)

one_cut_survey : Laws → (parts : Option ℕ) (l : LossWords) (s : Settings) → IsOneOf (λ text bytes. IsCutSurvey parts (losses_asked l s) text s bytes)
unfolding cut_survey_of
one_cut_survey laws parts l s text bytes others a b =
    let value = same_asked laws.texts text s a.value b.value a.reads b.reads in
    let same : cut_survey_of parts (losses_asked l s) s a.value ≡ cut_survey_of parts (losses_asked l s) s b.value = ap (cut_survey_of parts (losses_asked l s) s) value in
    a.told ∙ same ∙ sym b.told

losses_once : (w : OptionWords) (l : LossWords) (Is : Settings → Recording → List ℕ → Type 0) → ((s : Settings) → IsOneOf (Is s)) → (files : Files) (bytes others : List ℕ) (status ended : ℕ)
    → AnswersLosses w l Is files bytes status → AnswersLosses w l Is files others ended → Same bytes others status ended
losses_once w l Is one files bytes others status ended a b =
    let same = same_settings w b.settings a.settings b.asked a.asked in
    log_once (Is a.settings) (one a.settings) files bytes others status ended a.answers
    (subst (λ (s : Settings). AnswersLog (Is s) files others ended) same b.answers)

one_verified : Laws → (listed : Bool) (s : Settings) → IsOne (λ code bytes. IsAcceptedText code s listed bytes)
one_verified laws listed s code bytes others a b =
    let program : a.verified.program ≡ b.verified.program = laws.programs code a.verified.program b.verified.program a.spelled b.spelled in
    let kind : a.verified.guards ≡ b.verified.guards = a.guards ∙ sym b.guards in
    let size : a.verified.sectors ≡ b.verified.sectors = a.sectors ∙ sym b.sectors in
    let one = laws.verdicts.accepted a.verified b.verified a.accepted b.accepted program size in
    let all : a.verified ≡ b.verified = λ i. record { guards = kind i; program = program i; sectors = size i; budget = one.0 i; table = one.1 i } in
    a.says ∙ ap (verified_text listed) all ∙ sym b.says

one_assembled : Laws → IsOne IsAssembled
one_assembled laws text bytes others a b =
    let slots = laws.sources text a.slots b.slots a.says b.says in
    a.spelled.spelled ∙ ap (λ (p : List (Option Instr)). flat_map slot_bytes p) slots ∙ sym b.spelled.spelled

one_listed : Laws → (numbered : Bool) → IsOne (IsListed numbered)
one_listed laws numbered code bytes others a b = a.listed ∙ ap (listing_text numbered) (laws.programs code a.slots b.slots a.spelled b.spelled) ∙ sym b.listed

one_imported : (limits : Limits) → IsOne (λ raw text. IsImported raw (sector_limit limits) limits text)
one_imported limits raw text other a b = one_import raw text other (sector_limit limits) limits a b

-- how a run on one image is bounded is one
same_bound : Laws → (guards : Bool) (p q : List (Option Instr)) (sectors : ℕ) (checked : Option ℕ) (m n : Bound) → p ≡ q
    → MatchOption checked (IsBoundBy guards p sectors m) (λ most. m ≡ record { limit = most; guarded = None })
    → MatchOption checked (IsBoundBy guards q sectors n) (λ most. n ≡ record { limit = most; guarded = None }) → m ≡ n
same_bound laws guards p q sectors None m n same a b =
    let program : a.verified.program ≡ b.verified.program = a.program ∙ same ∙ sym b.program in
    let kind : a.verified.guards ≡ b.verified.guards = a.guards ∙ sym b.guards in
    let size : a.verified.sectors ≡ b.verified.sectors = a.sectors ∙ sym b.sectors in
    let one = laws.verdicts.accepted a.verified b.verified a.accepted b.accepted program size in
    let all : a.verified ≡ b.verified = λ i. record { guards = kind i; program = program i; sectors = size i; budget = one.0 i; table = one.1 i } in
    a.is ∙ ap bound_of all ∙ sym b.is
same_bound laws guards p q sectors (Some most) m n same a b = a ∙ sym b

one_trial : Laws → (program image lines : List ℕ) (t : Trial) (bytes others : List ℕ) (failing rejects : Bool)
    → IsTried program image lines t bytes failing → IsTried program image lines t others rejects → (bytes ≡ others) × (failing ≡ rejects)
one_trial laws program image lines t bytes others failing rejects a b =
    let both : Some a.table ≡ Some b.table = sym a.lined.tells ∙ b.lined.tells in
    let table : a.table ≡ b.table = cc in
    let slots = laws.programs program a.slots b.slots a.spelled b.spelled in
    let bound : a.bound ≡ b.bound = same_bound laws t.guards a.slots b.slots (image_sectors image) t.checked a.bound b.bound slots a.allowed b.allowed in
    let limit : a.bound.limit ≡ b.bound.limit = ap (λ (x : Bound). x.limit) bound in
    let text : trial_text a.slots image a.table t a.bound ≡ trial_text b.slots image b.table t b.bound = λ i. trial_text (slots i) image (table i) t (bound i) in
    let ending : fails (ending_of_trial a.slots image t a.bound.limit) ≡ fails (ending_of_trial b.slots image t b.bound.limit) = λ i. fails (ending_of_trial (slots i) image t (limit i)) in
    (a.says ∙ text ∙ sym b.says, a.ends ∙ ending ∙ sym b.ends)

-- the first two files of a command are one
pub same_held : (file : Option (List ℕ)) (xs ys : List ℕ) → file ≡ Some xs → file ≡ Some ys → xs ≡ ys
same_held file xs ys a b = let both : Some xs ≡ Some ys = sym a ∙ b in cc

-- what is tried is the same under other names
pub tried_alike : {text : List ℕ} {failing : Bool} (p q i j k l : List ℕ) (t u : Trial) → p ≡ q → i ≡ j → k ≡ l → t ≡ u → IsTried p i k t text failing → IsTried q j l u text failing
tried_alike {text} {failing} p q i j k l t u program image lines trial h =
    subst (λ (x : Trial). IsTried q j l x text failing) trial
    (subst (λ (x : List ℕ). IsTried q j x t text failing) lines
    (subst (λ (x : List ℕ). IsTried q x k t text failing) image (subst (λ (x : List ℕ). IsTried x i k t text failing) program h)))

trial_once : Laws → (w : TrialWords) (files : Files) (bytes others : List ℕ) (status ended : ℕ)
    → AnswersTrial w files bytes status → AnswersTrial w files others ended → Same bytes others status ended
trial_once laws w files bytes others status ended a b =
    let tried = tried_alike b.program a.program b.image a.image b.lines a.lines b.trial a.trial (same_held _ _ _ b.read a.read) (same_held _ _ _ b.shown a.shown) (same_held _ _ _ b.named a.named) (b.asked.asked ∙ sym a.asked.asked) b.tried in
    let same = one_trial laws a.program a.image a.lines a.trial bytes others a.failing b.failing a.tried tried in
    (same.0, a.ends ∙ ap status_of same.1 ∙ sym b.ends)

same_truth : (P : Type 0) (a b : Bool) → IsTrue a ↔ P → IsTrue b ↔ P → a ≡ b
same_truth P true true one two = refl
same_truth P false false one two = refl
same_truth P true false one two = absurd (let bad : false ≡ true = two.1 (one.0 refl) in cc)
same_truth P false true one two = absurd (let bad : false ≡ true = one.1 (two.0 refl) in cc)

texts_once : (part : Bool) (texts : List (List ℕ)) (bytes others : List ℕ) (status ended : ℕ) → JoinsEither part texts bytes status → JoinsEither part texts others ended → Same bytes others status ended
texts_once part texts bytes others status ended (join_of_parts first a) (join_of_parts second b) =
    let same = one_join texts bytes others a.failing b.failing a.joined.joined b.joined.joined in (same.0, a.ends ∙ ap status_of same.1 ∙ sym b.ends)
texts_once part texts bytes others status ended (join_of_cases first a) (join_of_cases second b) =
    (one_cases_join part part texts bytes others a.joined b.joined, a.ends ∙ ap status_of (same_truth (HasFailing texts) a.failing b.failing a.fails b.fails) ∙ sym b.ends)
texts_once part texts bytes others status ended (join_of_parts first a) (join_of_cases second b) = absurd (let bad : false ≡ true = sym first ∙ second in cc)
texts_once part texts bytes others status ended (join_of_cases first a) (join_of_parts second b) = absurd (let bad : true ≡ false = sym first ∙ second in cc)

join_once : (part : Bool) (files : Files) (bytes others : List ℕ) (status ended : ℕ) → AnswersJoin part files bytes status → AnswersJoin part files others ended → Same bytes others status ended
join_once part files bytes others status ended a b =
    let texts : b.texts ≡ a.texts = same_files files.named b.texts a.texts b.read a.read in
    texts_once part a.texts bytes others status ended a.joins (subst (λ (ts : List (List ℕ)). JoinsEither part ts others ended) texts b.joins)

retold_once : Laws → (t : Retelling) (w : OptionWords) (files : Files) (bytes others : List ℕ) (status ended : ℕ)
    → AnswersRetold t w files bytes status → AnswersRetold t w files others ended → Same bytes others status ended
retold_once laws t w files bytes others status ended a b =
    let one = same_settings w b.settings a.settings b.asked a.asked in
    let log = same_held _ _ _ b.read a.read in
    let report = same_held _ _ _ b.second a.second in
    let both : recording b.log b.initial ≡ recording a.log a.initial = λ i. recording (log i) (same_initial files b.initial a.initial b.based a.based i) in
    let by_settings = subst (λ (s : Settings). IsRetold t (recording b.log b.initial) b.report s others b.failing) one b.told in
    let by_log = subst (λ (text : Recording). IsRetold t text b.report a.settings others b.failing) both by_settings in
    let told = subst (λ (given : List ℕ). IsRetold t (recording a.log a.initial) given a.settings others b.failing) report by_log in
    let same = one_retold laws.texts t (recording a.log a.initial) a.report a.settings bytes others a.failing b.failing a.told told in
    (same.0, a.ends ∙ ap status_of same.1 ∙ sym b.ends)

-- what is told of records
tells_once : Laws → (t : KnownTelling) (a : KnownAsked) (bytes others : List ℕ) (status ended : ℕ) → TellsRecords t a bytes status → TellsRecords t a others ended → Same bytes others status ended
tells_once laws telling_known.Cases a bytes others status ended x y = known_once laws.texts laws.known a bytes others status ended x y
tells_once laws telling_known.Wanted a bytes others status ended x y = (wanted_once laws.texts laws.known a bytes others x.0 y.0, x.1 ∙ sym y.1)

records_once : Laws → (w : OptionWords) (k : KnownWords) (files : Files) (bytes others : List ℕ) (status ended : ℕ)
    → AnswersRecords w k files bytes status → AnswersRecords w k files others ended → Same bytes others status ended
records_once laws w k files bytes others status ended a b =
    let one = same_settings w b.settings a.settings b.asked a.asked in
    let log = same_held _ _ _ b.read a.read in
    let records = same_held _ _ _ b.second a.second in
    let both : recording b.log b.initial ≡ recording a.log a.initial = λ i. recording (log i) (same_initial files b.initial a.initial b.based a.based i) in
    let asked : search_asked (recording b.log b.initial) b.records (known_asked k b.settings) b.settings ≡ search_asked (recording a.log a.initial) a.records (known_asked k a.settings) a.settings =
    λ i. search_asked (both i) (records i) (known_asked k (one i)) (one i) in
    tells_once laws k.telling (search_asked (recording a.log a.initial) a.records (known_asked k a.settings) a.settings) bytes others status ended a.told
    (subst (λ (x : KnownAsked). TellsRecords k.telling x others ended) asked b.told)

-- a report that says of what it is
marked_once : Laws → (w : OptionWords) (files : Files) (bytes others : List ℕ) (status ended : ℕ) → AnswersMarked w files bytes status → AnswersMarked w files others ended → Same bytes others status ended
marked_once laws w files bytes others status ended a b =
    let same = explore_once laws (wanted.Told telling.Report) w files a.report b.report status ended a.answers b.answers in
    let log : b.log ≡ a.log = same_held _ _ _ b.read a.read in
    (a.marks ∙ (λ i. marked_report (sym log i) (length files.named - 1) (same.0 i)) ∙ sym b.marks, same.1)

pub one_answer : Laws → (r : Request) (files : Files) (bytes others : List ℕ) (status ended : ℕ)
    → Answers r files bytes status → Answers r files others ended → (bytes ≡ others) × (status ≡ ended)
one_answer laws request.StoredRun files bytes others status ended a b = run_once laws (wanted.Told telling.Report) _ _ _ bytes others status ended a b
one_answer laws (request.Explore w) files bytes others status ended a b = explore_once laws (wanted.Told telling.Report) w files bytes others status ended a b
one_answer laws (request.Marked w) files bytes others status ended a b = marked_once laws w files bytes others status ended a b
one_answer laws (request.Cases w l) files bytes others status ended a b = cases_once laws false w l files bytes others status ended a b
one_answer laws (request.CureCases w l) files bytes others status ended a b = cases_once laws true w l files bytes others status ended a b
one_answer laws (request.Why w) files bytes others status ended a b = explore_once laws (wanted.Told telling.Causes) w files bytes others status ended a b
one_answer laws (request.Cure w) files bytes others status ended a b = explore_once laws wanted.Cured w files bytes others status ended a b
one_answer laws (request.Page w) files bytes others status ended a b = explore_once laws (wanted.Told telling.Page) w files bytes others status ended a b
one_answer laws (request.Retold w t) files bytes others status ended a b = retold_once laws t w files bytes others status ended a b
one_answer laws (request.Known w k) files bytes others status ended a b = records_once laws w k files bytes others status ended a b
one_answer laws (request.Images w parts) files bytes others status ended a b = of_once w (λ s text. IsSurvey parts text s) (one_survey laws parts) files bytes others status ended a b
one_answer laws (request.Cuts w l parts) files bytes others status ended a b =
    losses_once w l (λ s text. IsCutSurvey parts (losses_asked l s) text s) (λ s. one_cut_survey laws parts l s) files bytes others status ended a b
one_answer laws (request.Export w) files bytes others status ended a b = of_once w (λ s text. IsExport text s) (one_export laws) files bytes others status ended a b
one_answer laws (request.Log w) files bytes others status ended a b = of_once w (λ s text. IsTable text s) (one_table laws) files bytes others status ended a b
one_answer laws (request.Image w which) files bytes others status ended a b = of_once w (λ s text. IsImage text s which) (one_image laws _ which) files bytes others status ended a b
one_answer laws (request.Show w which) files bytes others status ended a b = of_once w (λ s text. IsShown text s which) (one_image laws _ which) files bytes others status ended a b
one_answer laws (request.AnyImage w cut in_words) files bytes others status ended a b =
    losses_once w any_words (λ s text. IsAnyImage (form_of in_words) text s cut files.choice) (λ s. one_any laws in_words cut files.choice s) files bytes others status ended a b
one_answer laws (request.Verify w listed) files bytes others status ended a b =
    with_once w (λ s code. IsAcceptedText code s listed) (one_verified laws listed) files bytes others status ended a b
one_answer laws (request.Import limits) files bytes others status ended a b =
    file_once (λ raw. IsImported raw (sector_limit limits) limits) (one_imported limits) files bytes others status ended a b
one_answer laws (request.Check w) files bytes others status ended a b = trial_once laws w files bytes others status ended a b
one_answer laws request.Asm files bytes others status ended a b = file_once IsAssembled (one_assembled laws) files bytes others status ended a b
one_answer laws (request.List numbered) files bytes others status ended a b = file_once (IsListed numbered) (one_listed laws numbered) files bytes others status ended a b
one_answer laws (request.Join part) files bytes others status ended a b = join_once part files bytes others status ended a b

-- Where there is an answer, a command is refused for want of memory alone.
use Rattle.std.proofs.Common.{ℕ, suc, ◌≡◌, ◌⊎◌, ◌+◌, ◌<◌, ◌≤◌, nat_lt, Bool, true, false, cond, List, [], ◌∷◌, length, map, Option, None, Some, position, is_none, inl, inr, refl, sym, ◌∙◌, ap, subst, arith}
use Rattle.std.specs.Prelude.{MatchOption}
use Rattle.std.specs.Option.{option_map_or}
use Rattle.std.specs.List.{position_or_len}
use Rattle.std.proofs.lemmas.Bool.{false≢true}
use Rattle.std.proofs.lemmas.Bool.Decides.{nat_tests}
use Rattle.base.specs.declared.refusal.Refusal.{Refusal}
use Rattle.base.specs.Refusals.{memory_refusal}
use Rattle.logfmt.specs.Bounds.{LogValue}
use Rattle.bpf_isa.specs.declared.instr.Instr.{Instr}
use Rattle.choices.specs.Choices.{ChoiceValue}
use Rattle.request.specs.declared.settings.OptionPlace.{OptionPlace}
use Rattle.request.specs.declared.settings.Settings.{Settings}
use Rattle.request.specs.declared.settings.Telling.TheVariants as telling
use Rattle.request.specs.declared.command.OptionWords.{OptionWords}
use Rattle.request.specs.declared.command.Which.{Which}
use Rattle.request.specs.declared.command.Request.{Request}
use Rattle.request.specs.declared.command.Request.TheVariants as request
use Rattle.request.specs.Settings.{option_refusal, settings_refusal}
use Rattle.request.specs.OptionWords.{AskFor, words_refusal}
use Rattle.request.specs.Source.{Recording, plan_of, images_of, HasImages}
use Rattle.checker.specs.Checker.{CheckerValue}
use Rattle.case_runs.specs.Cuts.{case_cuts}
use Rattle.runs.specs.CaseCuts.{HasTooMany, HasMore, losses_of}
use Rattle.request.specs.AnyLosses.{losses_asked}
use Rattle.request.specs.declared.any_losses.AnyLosses.{AnyLosses}
use Rattle.request.specs.declared.any_losses.LossWords.{LossWords}
use Rattle.runs.specs.Explore.{RefusesWanted, for_extent, for_rest, for_cases, for_cure}
use Rattle.request.specs.Inputs.{inputs_number}
use Rattle.runs.specs.Cured.{TellsCure, IsCasesCured, IsAnswered}
use Rattle.runs.specs.Cases.{IsLosses}
use Rattle.runs.specs.Why.{Tells}
use Rattle.runs.specs.Judged.{takes}
use Rattle.runs.specs.declared.explore_command.WantedAnswer.{WantedAnswer}
use Rattle.runs.specs.declared.explore_command.WantedAnswer.TheVariants as wanted
use Rattle.base.specs.Sizes.{sector_limit}
use Rattle.base.specs.declared.limits.Limits.{Limits}
use Rattle.raw_log.specs.Imported.{IsImported}
use Rattle.raw_log.proofs.NoFault.{imported_has_no_fault}
use Rattle.inspect.specs.Import.{RefusesImport, with_raw_fault, no_raw_memory}
use Rattle.inspect.specs.Which.{IsMeant}
use Rattle.inspect.specs.Image as image
use Rattle.inspect.specs.Image.{IsImage, RefusesImage, IsShown}
use Rattle.inspect.specs.AnyImage as any
use Rattle.inspect.specs.AnyImage.{IsAnyImage, IsMeantLoss, RefusesAnyImage}
use Rattle.inspect.specs.CutLayout.{is_cut_layout}
use Rattle.inspect.specs.CutSurvey as cuts
use Rattle.inspect.specs.CutSurvey.{CanBeLaid, IsCutSurvey, RefusesCutSurvey}
use Rattle.inspect.specs.Survey as survey
use Rattle.inspect.specs.Survey.{Fits, IsSurvey, RefusesSurvey}
use Rattle.inspect.specs.Export as export
use Rattle.inspect.specs.Export.{IsExport, RefusesExport}
use Rattle.inspect.specs.Layout.{is_layout}
use Rattle.inspect.specs.Table as table
use Rattle.inspect.specs.Table.{IsTable, RefusesTable}
use Rattle.inspect.specs.Verifying.{IsAcceptedText, RefusesVerified, with_code_fault, no_code_memory, with_verifier_fault, no_verifier_memory, no_text_memory}
use Rattle.inspect.specs.Assembly as assembly
use Rattle.inspect.specs.Assembly.{IsAssembled, IsListed, RefusesText, RefusesBytes}
use Rattle.commands.specs.Acting.{Files, initial_of, recording, first_held, unread, AnswersRun, AnswersFiles, AnswersExplore, AnswersCases, wanted_by, AnswersFile, AnswersOf, AnswersWith, Answers, RefusesWith, for_words, for_settings, RefusesFile, for_file, for_held, RefusesRecording, for_log_file, for_base_file, for_recording, RefusesCases, for_losses, for_cases_of, RefusesFiles, for_unread, for_base, for_run, for_memory, RefusesToAct}
use Rattle.request.specs.declared.trials.Trial.{Trial}
use Rattle.request.specs.declared.trials.TrialWords.{TrialWords}
use Rattle.inspect.specs.TrialImage.{sectors_of}
use Rattle.notes.specs.SourceLines.{LineOfC, AreLines, NoLines}
use Rattle.inspect.specs.TrialText as trials
use Rattle.inspect.specs.TrialText.{Bound, IsBoundBy, IsTried, RefusesLimit, RefusesTrial}
use Rattle.commands.specs.Acting.{AnswersRetold, RefusesReportOf, for_log_of_report, for_report_file, for_base_of_report, for_given, for_fault, RefusesGiven}
use Rattle.commands.specs.Acting.{AnswersLosses, RefusesLosses, any_words, for_any_losses, for_any_recording, form_of}
use Rattle.commands.specs.Acting.{AnswersTrial, RefusesCheck, for_trial_words, for_program_file, for_image_file, for_lines_file, for_trial}
use Rattle.commands.specs.Acting.{AnswersJoin, JoinsEither, join_of_parts, join_of_cases, cases_refusal, RefusesTexts, for_texts, for_case_texts, RefusesParts, for_no_part, for_many_parts, for_unread_part, for_parts, for_part_memory}
use Rattle.commands.specs.Laws.{IsOfMemory}
use Rattle.join.specs.declared.case_parts.fault.CasesFault.{CasesFault}
use Rattle.commands.proofs.OneJoin.{joined_or_refused}
use Rattle.commands.proofs.OneCasesJoin.{cases_joined_or_refused}
use Rattle.commands.proofs.OneReport.{Below, same_log, same_asked, same_checkers, of_log, of_source, refused_as, of_refuses, told_apart, told_uncured, cured_apart, cured_by_images, wanted_or_refusal}
use Rattle.commands.proofs.OneCases.{not_many}
use Rattle.commands.proofs.OneFirst.{CasesAreOne, not_refused}
use Rattle.commands.proofs.OneRetold.{retold_or_refusal}
use Rattle.commands.proofs.OneKnown.{told_or_refusal, wanted_or_refusal as wanted_known_or_refusal}
use Rattle.commands.specs.Acting.{AnswersRecords, TellsRecords, RefusesBy, RefusesRecords, for_search, for_records, records_refusal, search_asked}
use Rattle.known.specs.Once.{FoundIsOne}
use Rattle.known_runs.specs.declared.asked.KnownRunFault.{KnownRunFault}
use Rattle.known_runs.specs.Asked.{KnownAsked}
use Rattle.known_runs.specs.Told.{RefusesKnown}
use Rattle.request.specs.Known.{known_asked}
use Rattle.request.specs.declared.known.KnownWords.{KnownWords}
use Rattle.request.specs.declared.settings.KnownTelling.{KnownTelling}
use Rattle.request.specs.declared.settings.KnownTelling.TheVariants as telling_known
use Rattle.retold.specs.Retold.{RefusesRetold}
use Rattle.request.specs.declared.settings.Retelling.{Retelling}
use Rattle.commands.proofs.OneAnswer.{same_files, same_initial, same_settings, same_held, tried_alike}

-- words that ask for settings are not refused
not_for_words : (w : OptionWords) (s : Settings) (r : Refusal) → AskFor w s → words_refusal w ≡ Some r → ⊥
not_for_words w s r h bad =
    let none : words_refusal w ≡ None = ap (λ (at : Option OptionPlace). option_map_or (λ p. Some (option_refusal p)) at (settings_refusal w.settings)) h.named ∙ ap settings_refusal h.asked ∙ h.good in
    let both : None ≡ Some r = sym none ∙ bad in
    cc

of_words : (w : OptionWords) (s : Settings) (Rest : Settings → Refusal → Type 0) (r : Refusal) → AskFor w s → ((q : Refusal) → Rest s q → IsOfMemory q.code)
    → RefusesWith w Rest r → IsOfMemory r.code
of_words w s Rest _ asked rest (for_words r bad) = absurd (not_for_words w s r asked bad)
of_words w s Rest _ asked rest (for_settings t r other why) = rest r (subst (λ (x : Settings). Rest x r) (same_settings w t s other asked) why)

of_file : (files : Files) (held : List ℕ) (Rest : List ℕ → Refusal → Type 0) (r : Refusal) → first_held files ≡ Some held → ((q : Refusal) → Rest held q → IsOfMemory q.code)
    → RefusesFile files Rest r → IsOfMemory r.code
of_file files held Rest _ read rest (for_file none) = absurd (let bad : None ≡ Some held = sym none ∙ read in cc)
of_file files held Rest _ read rest (for_held other r there why) =
    let both : Some other ≡ Some held = sym there ∙ read in
    let same : other ≡ held = cc in
    rest r (subst (λ (x : List ℕ). Rest x r) same why)

of_with : (w : OptionWords) (Is : Settings → List ℕ → List ℕ → Type 0) (Rest : Settings → List ℕ → Refusal → Type 0)
    → ((s : Settings) (held bytes : List ℕ) (r : Refusal) → Is s held bytes → Rest s held r → IsOfMemory r.code)
    → (files : Files) (bytes : List ℕ) (status : ℕ) (r : Refusal) → AnswersWith w Is files bytes status → RefusesWith w (λ s. RefusesFile files (Rest s)) r → IsOfMemory r.code
of_with w Is Rest one files bytes status r h why =
    of_words w h.settings (λ s. RefusesFile files (Rest s)) r h.asked
    (λ q. of_file files h.answers.held (Rest h.settings) q h.answers.read (λ p. one h.settings h.answers.held bytes p h.answers.is)) why

of_recording : (files : Files) (held initial : List ℕ) (Rest : Recording → Refusal → Type 0) (r : Refusal) → first_held files ≡ Some held → initial_of files.base ≡ Some initial
    → ((q : Refusal) → Rest (recording held initial) q → IsOfMemory q.code) → RefusesRecording files Rest r → IsOfMemory r.code
of_recording files held initial Rest _ read based rest (for_log_file none) = absurd (let bad : None ≡ Some held = sym none ∙ read in cc)
of_recording files held initial Rest _ read based rest (for_base_file other there none) = absurd (let bad : None ≡ Some initial = sym none ∙ based in cc)
of_recording files held initial Rest _ read based rest (for_recording other first r there from why) =
    let both : Some other ≡ Some held = sym there ∙ read in
    let text : other ≡ held = cc in
    let same : recording other first ≡ recording held initial = λ i. recording (text i) (same_initial files first initial from based i) in
    rest r (subst (λ (x : Recording). Rest x r) same why)

of_log_with : (w : OptionWords) (Is : Settings → Recording → List ℕ → Type 0) (Rest : Settings → Recording → Refusal → Type 0)
    → ((s : Settings) (held : Recording) (bytes : List ℕ) (r : Refusal) → Is s held bytes → Rest s held r → IsOfMemory r.code)
    → (files : Files) (bytes : List ℕ) (status : ℕ) (r : Refusal) → AnswersOf w Is files bytes status → RefusesWith w (λ s. RefusesRecording files (Rest s)) r
    → IsOfMemory r.code
of_log_with w Is Rest one files bytes status r h why =
    let own = h.answers in
    of_words w h.settings (λ s. RefusesRecording files (Rest s)) r h.asked
    (λ q. of_recording files own.held own.initial (Rest h.settings) q own.read own.based (λ p. one h.settings (recording own.held own.initial) bytes p own.is)) why

of_alone : (Is : List ℕ → List ℕ → Type 0) (Rest : List ℕ → Refusal → Type 0) → ((held bytes : List ℕ) (r : Refusal) → Is held bytes → Rest held r → IsOfMemory r.code)
    → (files : Files) (bytes : List ℕ) (status : ℕ) (r : Refusal) → AnswersFile Is files bytes status → RefusesFile files Rest r → IsOfMemory r.code
of_alone Is Rest one files bytes status r h why = of_file files h.held Rest r h.read (λ q. one h.held bytes q h.is) why

-- each of the files can be read
read_all : (xs : List (List ℕ)) → length xs ≤ position_or_len is_none (map Some xs)
read_all [] = omega arith
read_all (x ∷ xs) = let rest = read_all xs in let more : suc (length xs) ≤ 1 + position_or_len is_none (map Some xs) = omega (arith, rest) in more

length_some : (xs : List (List ℕ)) → length (map Some xs) ≡ length xs
length_some [] = refl
length_some (x ∷ xs) = ap suc (length_some xs)

none_by : (m n place : ℕ) (b : Bool) → nat_lt m n ≡ b → n ≤ m → cond b (Some m) None ≡ Some place → ⊥
none_by m n place true less few h = grind (arith, nat_tests, less, few)
none_by m n place false less few h = let bad : None ≡ Some place = h in cc

none_unread : (x : List ℕ) (xs : List (List ℕ)) (place : ℕ) → position is_none (map Some (x ∷ xs)) ≡ Some place → ⊥
none_unread x xs place h =
    let all = read_all (x ∷ xs) in
    let long = length_some (x ∷ xs) in
    none_by (position_or_len is_none (map Some (x ∷ xs))) (length (map Some (x ∷ xs))) place
    (nat_lt (position_or_len is_none (map Some (x ∷ xs))) (length (map Some (x ∷ xs)))) refl
    (subst (λ (n : ℕ). n ≤ position_or_len is_none (map Some (x ∷ xs))) (sym long) all) h

-- a run by cases
same_losses : (l m : AnyLosses) → wanted.Cases l ≡ wanted.Cases m → m ≡ l
same_losses l m is = let both : wanted.Cases l ≡ wanted.Cases m = is in cc

cases_or_refusal : Below → CasesAreOne → (l : AnyLosses) (text : Recording) (files : List (List ℕ)) (s : Settings) (bytes : List ℕ) (failing : Bool) (r : Refusal)
    → takes (wanted.Cases l) s.extent ≡ true → IsLosses s.first l text files s bytes failing → RefusesWanted (wanted.Cases l) text files s r → IsOfMemory r.code
cases_or_refusal below one l text files s bytes failing _ taken h (for_extent other) = absurd (false≢true (sym other ∙ taken))
cases_or_refusal below one l text files s bytes failing _ taken h (for_rest r chosen why) = of_refuses below text files s h.value h.checkers r h.count h.source h.made why
cases_or_refusal below one l text files s bytes failing _ taken h (for_cases m value checkers cut is chosen count source made many) =
    let losses = subst (λ (x : AnyLosses). HasTooMany x s value checkers cut) (same_losses l m is) many in
    let by_value = subst (λ (v : LogValue). HasTooMany l s v checkers cut) (same_log below.texts text s value h.value source h.source) losses in
    let by_checkers = subst (λ (cs : List CheckerValue). HasTooMany l s h.value cs cut) (same_checkers below.programs below.verdicts s files checkers h.checkers made h.made) by_value in
    absurd (not_refused one.findings one.first s.first (inputs_number text.text files) l s h.value h.checkers bytes failing cut h.tells by_checkers)
cases_or_refusal below one l text files s bytes failing _ taken h (for_cure m value checkers cut is chosen count source made many) =
    absurd (let bad : wanted.Cases l ≡ wanted.CuredCases m = is in cc)

-- a cure by cases
same_cured : (l m : AnyLosses) → wanted.CuredCases l ≡ wanted.CuredCases m → m ≡ l
same_cured l m is = let both : wanted.CuredCases l ≡ wanted.CuredCases m = is in cc

cured_or_refusal : Below → CasesAreOne → (l : AnyLosses) (text : Recording) (files : List (List ℕ)) (s : Settings) (bytes : List ℕ) (failing : Bool) (r : Refusal)
    → takes (wanted.CuredCases l) s.extent ≡ true → IsCasesCured l text files s bytes failing → RefusesWanted (wanted.CuredCases l) text files s r → IsOfMemory r.code
cured_or_refusal below one l text files s bytes failing _ taken h (for_extent other) = absurd (false≢true (sym other ∙ taken))
cured_or_refusal below one l text files s bytes failing _ taken h (for_rest r chosen why) = of_refuses below text files s h.value h.checkers r h.count h.source h.made why
cured_or_refusal below one l text files s bytes failing _ taken h (for_cases m value checkers cut is chosen count source made many) =
    absurd (let bad : wanted.CuredCases l ≡ wanted.Cases m = is in cc)
cured_or_refusal below one l text files s bytes failing _ taken h (for_cure m value checkers cut is chosen count source made many) =
    let losses = subst (λ (x : AnyLosses). HasMore x s value checkers cut) (same_cured l m is) many in
    let by_value = subst (λ (v : LogValue). HasMore l s v checkers cut) (same_log below.texts text s value h.value source h.source) losses in
    let by_checkers = subst (λ (cs : List CheckerValue). HasMore l s h.value cs cut) (same_checkers below.programs below.verdicts s files checkers h.checkers made h.made) by_value in
    let finds = h.tells.tells.finds in
    absurd (not_many one.findings (losses_of l s) h.value s.by (case_cuts l.at_most s.cuts h.value.entries) h.checkers finds.found cut finds.are finds.few by_checkers)

-- whatever is wanted
answer_or_none : Below → CasesAreOne → (t : WantedAnswer) (text : Recording) (files : List (List ℕ)) (s : Settings) (bytes : List ℕ) (failing : Bool) (r : Refusal)
    → takes t s.extent ≡ true → IsAnswered t text files s bytes failing → RefusesWanted t text files s r → IsOfMemory r.code
answer_or_none below one (wanted.Told kind) text files s bytes failing r taken h why =
    wanted_or_refusal below (wanted.Told kind) (λ s value checkers bytes. Tells kind (inputs_number text.text files) s value checkers bytes) (λ l is. told_apart kind l is)
    (λ l is. told_uncured kind l is) text files s bytes failing r taken h why
answer_or_none below one wanted.Cured text files s bytes failing r taken h why =
    wanted_or_refusal below wanted.Cured (TellsCure None) (λ l is. cured_apart l is) (λ l is. cured_by_images l is) text files s bytes failing r taken h why
answer_or_none below one (wanted.Cases l) text files s bytes failing r taken h why = cases_or_refusal below one l text files s bytes failing r taken h why
answer_or_none below one (wanted.CuredCases l) text files s bytes failing r taken h why = cured_or_refusal below one l text files s bytes failing r taken h why

of_files : Below → CasesAreOne → (t : WantedAnswer) (files : Files) (s : Settings) (bytes : List ℕ) (status : ℕ) (r : Refusal) → AnswersFiles t s files bytes status → RefusesFiles t files s r
    → IsOfMemory r.code
of_files below one t files s bytes status _ h (for_unread place unreadable) =
    absurd (none_unread h.log h.programs place (subst (λ (fs : List (Option (List ℕ))). unread fs ≡ Some place) h.read unreadable))
of_files below one t files s bytes status _ h (for_base readable none) = absurd (let bad : None ≡ Some h.initial = sym none ∙ h.based in cc)
of_files below one t files s bytes status _ h (for_run log programs initial r read based why) =
    let all : log ∷ programs ≡ h.log ∷ h.programs = same_files files.named (log ∷ programs) (h.log ∷ h.programs) read h.read in
    let text : log ≡ h.log = cc in
    let others : programs ≡ h.programs = cc in
    let same : recording log initial ≡ recording h.log h.initial = λ i. recording (text i) (same_initial files initial h.initial based h.based i) in
    let by_log = subst (λ (held : Recording). RefusesWanted t held programs s r) same why in
    answer_or_none below one t (recording h.log h.initial) h.programs s bytes h.answers.failing r
    h.answers.taken h.answers.told
    (subst (λ (ps : List (List ℕ)). RefusesWanted t (recording h.log h.initial) ps s r) others by_log)
of_files below one t files s bytes status _ h (for_memory readable) = refl

of_explore : Below → CasesAreOne → (t : WantedAnswer) (w : OptionWords) (files : Files) (bytes : List ℕ) (status : ℕ) (r : Refusal) → AnswersExplore t w files bytes status
    → RefusesWith w (RefusesFiles t files) r → IsOfMemory r.code
of_explore below one t w files bytes status r h why =
    of_words w h.settings (RefusesFiles t files) r h.asked (λ q. of_files below one t files h.settings bytes status q h.answers) why

of_cases : Below → CasesAreOne → (cured : Bool) (w : OptionWords) (l : LossWords) (files : Files) (bytes : List ℕ) (status : ℕ) (r : Refusal) → AnswersCases cured w l files bytes status
    → RefusesWith w (RefusesCases cured l files) r → IsOfMemory r.code
of_cases below one cured w l files bytes status r h why = of_words w h.settings (RefusesCases cured l files) r h.asked (λ q. rest q) why
  where
    rest : (q : Refusal) → RefusesCases cured l files h.settings q → IsOfMemory q.code
    rest _ (for_losses q bad) = absurd (let both : None ≡ Some q = sym h.good ∙ bad in cc)
    rest _ (for_cases_of q good refused) = of_files below one (wanted_by cured (losses_asked l h.settings)) files h.settings bytes status q h.answers refused

of_stored : Below → CasesAreOne → (t : WantedAnswer) (text : Recording) (files : List (List ℕ)) (s : Settings) (bytes : List ℕ) (status : ℕ) (r : Refusal) → AnswersRun t s text files bytes status
    → (r ≡ memory_refusal) ⊎ RefusesWanted t text files s r → IsOfMemory r.code
of_stored below one t text files s bytes status r h (inl same) = subst (λ (q : Refusal). IsOfMemory q.code) (sym same) refl
of_stored below one t text files s bytes status r h (inr why) =
    answer_or_none below one t text files s bytes h.failing r h.taken h.told why

not_laid : (parts : Option ℕ) (count images : ℕ) → parts ≡ Some count → Fits parts images → is_layout images count ≡ false → ⊥
not_laid None count images same fits lack = let bad : None ≡ Some count = same in cc
not_laid (Some parts) count images same fits lack =
    let both : Some parts ≡ Some count = same in
    let is : parts ≡ count = cc in
    false≢true (sym lack ∙ ap (λ (n : ℕ). is_layout images n) (sym is) ∙ fits)

of_survey : Below → (parts : Option ℕ) (s : Settings) (text : Recording) (bytes : List ℕ) (r : Refusal) → IsSurvey parts text s bytes → RefusesSurvey parts text s r → IsOfMemory r.code
of_survey below parts s text bytes _ h (survey.for_source r why) = of_source below text s h.value r h.source why
of_survey below parts s text bytes _ h (survey.for_parts value count source same lack) =
    let one : h.value ≡ value = same_log below.texts text s h.value value h.source source in
    absurd (not_laid parts count (length (images_of s h.value)) same h.fits (ap (λ (v : LogValue). is_layout (length (images_of s v)) count) one ∙ lack))
of_survey below parts s text bytes _ h (survey.for_memory value source) = refl

of_export : Below → (s : Settings) (text : Recording) (bytes : List ℕ) (r : Refusal) → IsExport text s bytes → RefusesExport text s r → IsOfMemory r.code
of_export below s text bytes _ h (export.for_extent lack) = absurd (false≢true (sym lack ∙ h.taken))
of_export below s text bytes _ h (export.for_source r why) = of_source below text s h.value r h.source why
of_export below s text bytes _ h (export.for_memory value source) = refl

of_table : Below → (s : Settings) (text : Recording) (bytes : List ℕ) (r : Refusal) → IsTable text s bytes → RefusesTable text s r → IsOfMemory r.code
of_table below s text bytes _ h (table.for_log r why) = of_log below text s h.value r h.reads why
of_table below s text bytes _ h (table.for_memory value reads) = refl

-- the image that is meant is there
of_meant : Below → (which : Which) (s : Settings) (text : Recording) (value : LogValue) (choice : ChoiceValue) (r : Refusal) → HasImages text s value
    → IsMeant (plan_of s value) s.bound s.tears which choice → RefusesImage text s which r → IsOfMemory r.code
of_meant below which s text value choice _ source meant (image.for_source r why) = of_source below text s value r source why
of_meant below which s text value choice _ source meant (image.for_number other images none) =
    let same : value ≡ other = same_log below.texts text s value other source images in
    absurd (none.none choice (subst (λ (v : LogValue). IsMeant (plan_of s v) s.bound s.tears which choice) same meant))
of_meant below which s text value choice _ source meant (image.for_memory other images) = refl

-- the choice of any number of parts that is meant is there
of_any_image : Below → (in_words : Bool) (cut : ℕ) (said : List ℕ) (s : Settings) (text : Recording) (bytes : List ℕ) (r : Refusal)
    → IsAnyImage (form_of in_words) text s cut said bytes → RefusesAnyImage text s cut said r → IsOfMemory r.code
of_any_image below in_words cut said s text bytes _ h (any.for_any_log r why) = of_log below text s h.value r h.reads why
of_any_image below in_words cut said s text bytes _ h (any.for_choice other reads none) =
    let same : h.value ≡ other = same_asked below.texts text s h.value other h.reads reads in
    absurd (none.none h.shown.departures (subst (λ (v : LogValue). IsMeantLoss s v cut said h.shown.departures) same h.shown.meant))
of_any_image below in_words cut said s text bytes _ h (any.for_any_memory other reads) = refl

-- a run by cuts can be laid out so
not_laid_by_cuts : (parts : Option ℕ) (count : ℕ) → parts ≡ Some count → CanBeLaid parts → is_cut_layout count ≡ false → ⊥
not_laid_by_cuts None count same can lack = let bad : None ≡ Some count = same in cc
not_laid_by_cuts (Some parts) count same can lack =
    let both : Some parts ≡ Some count = same in
    let is : parts ≡ count = cc in
    false≢true (sym lack ∙ ap is_cut_layout (sym is) ∙ can)

of_cut_survey : Below → (parts : Option ℕ) (l : LossWords) (s : Settings) (text : Recording) (bytes : List ℕ) (r : Refusal) → IsCutSurvey parts (losses_asked l s) text s bytes
    → RefusesCutSurvey parts text s r → IsOfMemory r.code
of_cut_survey below parts l s text bytes _ h (cuts.for_cut_log r why) = of_log below text s h.value r h.reads why
of_cut_survey below parts l s text bytes _ h (cuts.for_cut_parts value count reads same lack) = absurd (not_laid_by_cuts parts count same h.can lack)
of_cut_survey below parts l s text bytes _ h (cuts.for_cut_memory value reads) = refl

of_losses : (w : OptionWords) (l : LossWords) (Is : Settings → Recording → List ℕ → Type 0) (Rest : Settings → Recording → Refusal → Type 0)
    → ((s : Settings) (held : Recording) (bytes : List ℕ) (r : Refusal) → Is s held bytes → Rest s held r → IsOfMemory r.code)
    → (files : Files) (bytes : List ℕ) (status : ℕ) (r : Refusal) → AnswersLosses w l Is files bytes status → RefusesWith w (RefusesLosses l Rest files) r → IsOfMemory r.code
of_losses w l Is Rest one files bytes status r h why = of_words w h.settings (RefusesLosses l Rest files) r h.asked (λ q. rest q) why
  where
    rest : (q : Refusal) → RefusesLosses l Rest files h.settings q → IsOfMemory q.code
    rest _ (for_any_losses q bad) = absurd (let both : None ≡ Some q = sym h.good ∙ bad in cc)
    rest _ (for_any_recording q good refused) =
        let own = h.answers in
        of_recording files own.held own.initial (Rest h.settings) q own.read own.based (λ p. one h.settings (recording own.held own.initial) bytes p own.is) refused

of_verified : Below → (listed : Bool) (s : Settings) (code bytes : List ℕ) (r : Refusal) → IsAcceptedText code s listed bytes → RefusesVerified code s r → IsOfMemory r.code
of_verified below listed s code bytes _ h (with_code_fault cause slot fault) = absurd (below.spelled code h.verified.program h.spelled cause slot fault)
of_verified below listed s code bytes _ h no_code_memory = refl
of_verified below listed s code bytes _ h (with_verifier_fault slots cause slot spelled refused) =
    let same : slots ≡ h.verified.program = below.programs code slots h.verified.program spelled h.spelled in
    absurd (below.verdicts.not_both h.verified cause slot h.accepted (refused_as h.verified s.guards s.sectors slots cause slot h.guards same h.sectors refused))
of_verified below listed s code bytes _ h no_verifier_memory = refl
of_verified below listed s code bytes _ h no_text_memory = refl

of_assembled : (text bytes : List ℕ) (r : Refusal) → IsAssembled text bytes → RefusesText text r → IsOfMemory r.code
of_assembled text bytes _ h (assembly.no_characters none) = absurd (none h.characters)
of_assembled text bytes _ h (assembly.says_none cause line characters none) = absurd (none h.slots h.says)
of_assembled text bytes _ h assembly.no_text_memory = refl
of_assembled text bytes _ h assembly.no_bytes_memory = refl

of_listed : Below → (numbered : Bool) (code bytes : List ℕ) (r : Refusal) → IsListed numbered code bytes → RefusesBytes code r → IsOfMemory r.code
of_listed below numbered code bytes _ h (assembly.with_bytes_fault cause slot fault) = absurd (below.spelled code h.slots h.spelled cause slot fault)
of_listed below numbered code bytes _ h assembly.no_program_memory = refl
of_listed below numbered code bytes _ h assembly.no_listing_memory = refl

of_imported : (limits : Limits) (raw text : List ℕ) (r : Refusal) → IsImported raw (sector_limit limits) limits text → RefusesImport limits raw r → IsOfMemory r.code
of_imported limits raw text _ h (with_raw_fault cause at fault) = absurd (imported_has_no_fault raw text (sector_limit limits) limits cause at h fault)
of_imported limits raw text _ h no_raw_memory = refl

-- a run on one image without a limit was accepted
accepted_trial : (guards : Bool) (p : List (Option Instr)) (sectors : ℕ) (checked : Option ℕ) (b : Bound) → checked ≡ None
    → MatchOption checked (IsBoundBy guards p sectors b) (λ most. b ≡ record { limit = most; guarded = None }) → IsBoundBy guards p sectors b
accepted_trial guards p sectors None b none h = h
accepted_trial guards p sectors (Some most) b none h = absurd (let bad : Some most ≡ None = none in cc)

of_limit : Below → (program image lines : List ℕ) (t : Trial) (bytes : List ℕ) (failing : Bool) (slots : List (Option Instr)) (r : Refusal) → (h : IsTried program image lines t bytes failing)
    → slots ≡ h.slots → RefusesLimit slots image t r → IsOfMemory r.code
of_limit below program image lines t bytes failing slots _ h same (trials.with_verifier_fault cause slot none refused) =
    let by = accepted_trial t.guards h.slots (sectors_of image) t.checked h.bound none h.allowed in
    absurd (below.verdicts.not_both by.verified cause slot by.accepted
    (refused_as by.verified t.guards (sectors_of image) slots cause slot by.guards (same ∙ sym by.program) by.sectors refused))
of_limit below program image lines t bytes failing slots _ h same (trials.no_verifier_memory none) = refl
of_limit below program image lines t bytes failing slots _ h same trials.no_count_memory = refl

-- what has lines of C has some
unlined : (lines : List ℕ) (table : List LineOfC) → AreLines lines table → NoLines lines → ⊥
unlined lines table h (inl none) = none h.characters
unlined lines table h (inr none) = let bad : None ≡ Some table = sym none ∙ h.tells in cc

of_tried : Below → (program image lines : List ℕ) (t : Trial) (bytes : List ℕ) (failing : Bool) (r : Refusal) → IsTried program image lines t bytes failing → RefusesTrial program image lines t r
    → IsOfMemory r.code
of_tried below program image lines t bytes failing _ h (trials.for_size small) = absurd (let bad : false ≡ true = sym small ∙ h.whole in cc)
of_tried below program image lines t bytes failing _ h (trials.for_lines whole none) = absurd (unlined lines h.table h.lined none)
of_tried below program image lines t bytes failing _ h (trials.with_code_fault table cause slot whole lined fault) = absurd (below.spelled program h.slots h.spelled cause slot fault)
of_tried below program image lines t bytes failing _ h (trials.no_code_memory whole) = refl
of_tried below program image lines t bytes failing _ h (trials.for_limit table slots r whole lined spelled why) =
    of_limit below program image lines t bytes failing slots r h (below.programs program slots h.slots spelled h.spelled) why
of_tried below program image lines t bytes failing _ h (trials.no_memory whole) = refl

of_trial : Below → (w : TrialWords) (files : Files) (bytes : List ℕ) (status : ℕ) (r : Refusal) → AnswersTrial w files bytes status → RefusesCheck w files r → IsOfMemory r.code
of_trial below w files bytes status _ h (for_trial_words r bad) = absurd (let none : None ≡ Some r = sym h.asked.good ∙ bad in cc)
of_trial below w files bytes status _ h (for_program_file t asked none) = absurd (let bad : None ≡ Some h.program = sym none ∙ h.read in cc)
of_trial below w files bytes status _ h (for_image_file t program asked read none) = absurd (let bad : None ≡ Some h.image = sym none ∙ h.shown in cc)
of_trial below w files bytes status _ h (for_lines_file t program image asked read shown none) = absurd (let bad : None ≡ Some h.lines = sym none ∙ h.named in cc)
of_trial below w files bytes status _ h (for_trial t program image lines r asked read shown named why) =
    let tried = tried_alike h.program program h.image image h.lines lines h.trial t (same_held _ _ _ h.read read) (same_held _ _ _ h.shown shown) (same_held _ _ _ h.named named) (h.asked.asked ∙ sym asked.asked) h.tried in
    of_tried below program image lines t bytes h.failing r tried why

-- a report of which something is told, of files that can be read
of_retold : Below → (t : Retelling) (w : OptionWords) (files : Files) (bytes : List ℕ) (status : ℕ) (r : Refusal) → AnswersRetold t w files bytes status
    → RefusesWith w (RefusesReportOf files) r → IsOfMemory r.code
of_retold below t w files bytes status r h why = of_words w h.settings (RefusesReportOf files) r h.asked (λ q. rest q) why
  where
    rest : (q : Refusal) → RefusesReportOf files h.settings q → IsOfMemory q.code
    rest _ (for_log_of_report none) = absurd (let bad : None ≡ Some h.log = sym none ∙ h.read in cc)
    rest _ (for_report_file log read none) = absurd (let bad : None ≡ Some h.report = sym none ∙ h.second in cc)
    rest _ (for_base_of_report log report read second none) = absurd (let bad : None ≡ Some h.initial = sym none ∙ h.based in cc)
    rest _ (for_given log report initial _ read second based (for_fault f refused)) =
        let held = same_held _ _ _ read h.read in
        let both : recording log initial ≡ recording h.log h.initial = λ i. recording (held i) (same_initial files initial h.initial based h.based i) in
        let by_log = subst (λ (text : Recording). RefusesRetold text report h.settings f) both refused in
        let given = subst (λ (bs : List ℕ). RefusesRetold (recording h.log h.initial) bs h.settings f) (same_held _ _ _ second h.second) by_log in
        retold_or_refusal below t (recording h.log h.initial) h.report h.settings bytes h.failing f h.told given

-- records of which something is told, of files that can be read
records_or_refusal : Below → FoundIsOne → (t : KnownTelling) (a : KnownAsked) (bytes : List ℕ) (status : ℕ) (f : KnownRunFault) → TellsRecords t a bytes status → RefusesKnown a f
    → IsOfMemory (records_refusal f).code
records_or_refusal below law telling_known.Cases a bytes status f h why = told_or_refusal below law a bytes status f h why
records_or_refusal below law telling_known.Wanted a bytes status f h why = wanted_known_or_refusal below law a bytes f h.0 why

of_known : Below → FoundIsOne → (w : OptionWords) (k : KnownWords) (files : Files) (bytes : List ℕ) (status : ℕ) (r : Refusal) → AnswersRecords w k files bytes status
    → RefusesWith w (RefusesRecords k files) r → IsOfMemory r.code
of_known below law w k files bytes status r h why = of_words w h.settings (RefusesRecords k files) r h.asked (λ q. rest q) why
  where
    asked : Recording → List ℕ → KnownAsked
    asked text records = search_asked text records (known_asked k h.settings) h.settings

    given : (q : Refusal) → RefusesGiven files (λ text records. RefusesBy (RefusesKnown (asked text records)) records_refusal) q → IsOfMemory q.code
    given _ (for_log_of_report none) = absurd (let bad : None ≡ Some h.log = sym none ∙ h.read in cc)
    given _ (for_report_file log read none) = absurd (let bad : None ≡ Some h.records = sym none ∙ h.second in cc)
    given _ (for_base_of_report log records read second none) = absurd (let bad : None ≡ Some h.initial = sym none ∙ h.based in cc)
    given _ (for_given log records initial _ read second based (for_fault f refused)) =
        let held = same_held _ _ _ read h.read in
        let both : recording log initial ≡ recording h.log h.initial = λ i. recording (held i) (same_initial files initial h.initial based h.based i) in
        let by_log = subst (λ (text : Recording). RefusesKnown (asked text records) f) both refused in
        let by_records = subst (λ (bs : List ℕ). RefusesKnown (asked (recording h.log h.initial) bs) f) (same_held _ _ _ second h.second) by_log in
        records_or_refusal below law k.telling (asked (recording h.log h.initial) h.records) bytes status f h.told by_records

    rest : (q : Refusal) → RefusesRecords k files h.settings q → IsOfMemory q.code
    rest _ (for_search q bad) = absurd (let both : None ≡ Some q = sym h.good ∙ bad in cc)
    rest _ (for_records q good refused) = given q refused

of_texts : (part : Bool) (texts : List (List ℕ)) (bytes : List ℕ) (status : ℕ) (r : Refusal) → JoinsEither part texts bytes status → RefusesTexts part texts r → IsOfMemory r.code
of_texts part texts bytes status _ (join_of_parts begun h) (for_texts also fault why first) = joined_or_refused part texts bytes h.failing fault h.short h.joined why
of_texts part texts bytes status _ (join_of_cases begun h) (for_case_texts also fault why first) =
    subst (λ (f : CasesFault). IsOfMemory (cases_refusal f).code) (sym (cases_joined_or_refused part texts bytes fault h.short h.joined why)) refl
of_texts part texts bytes status _ (join_of_parts begun h) (for_case_texts also fault why first) = absurd (let bad : false ≡ true = sym begun ∙ also in cc)
of_texts part texts bytes status _ (join_of_cases begun h) (for_texts also fault why first) = absurd (let bad : true ≡ false = sym begun ∙ also in cc)

-- of some texts each can be read
texts_unread : (texts : List (List ℕ)) (place : ℕ) → 0 < length texts → unread (map Some texts) ≡ Some place → ⊥
texts_unread [] place some h = omega (arith, some)
texts_unread (x ∷ xs) place some h = none_unread x xs place h

of_join : (part : Bool) (files : Files) (bytes : List ℕ) (status : ℕ) (r : Refusal) → AnswersJoin part files bytes status → RefusesParts part files r → IsOfMemory r.code
of_join part files bytes status _ h (for_no_part none) =
    absurd (let long = ap length h.read in let all = length_some h.texts in let lack = ap length none in let some = h.some in omega (arith, long, all, lack, some))
of_join part files bytes status _ h (for_many_parts many) =
    absurd (let long = ap length h.read in let all = length_some h.texts in let few = h.few in omega (arith, long, all, many, few))
of_join part files bytes status _ h (for_unread_part place few unreadable) =
    absurd (texts_unread h.texts place h.some (subst (λ (fs : List (Option (List ℕ))). unread fs ≡ Some place) h.read unreadable))
of_join part files bytes status _ h (for_parts texts r read few why) =
    of_texts part h.texts bytes status r h.joins (subst (λ (ts : List (List ℕ)). RefusesTexts part ts r) (same_files files.named texts h.texts read h.read) why)
of_join part files bytes status _ h (for_part_memory readable) = refl

pub answer_or_refusal : Below → CasesAreOne → FoundIsOne → (r : Request) (files : Files) (bytes : List ℕ) (status : ℕ) (refusal : Refusal) → Answers r files bytes status → RefusesToAct r files refusal
    → IsOfMemory refusal.code
answer_or_refusal below findings law request.StoredRun files bytes status refusal h why = of_stored below findings (wanted.Told telling.Report) _ _ _ bytes status refusal h why
answer_or_refusal below findings law (request.Explore w) files bytes status refusal h why = of_explore below findings (wanted.Told telling.Report) w files bytes status refusal h why
answer_or_refusal below findings law (request.Marked w) files bytes status refusal h why = of_explore below findings (wanted.Told telling.Report) w files h.report status refusal h.answers why
answer_or_refusal below findings law (request.Cases w l) files bytes status refusal h why = of_cases below findings false w l files bytes status refusal h why
answer_or_refusal below findings law (request.CureCases w l) files bytes status refusal h why = of_cases below findings true w l files bytes status refusal h why
answer_or_refusal below findings law (request.Why w) files bytes status refusal h why = of_explore below findings (wanted.Told telling.Causes) w files bytes status refusal h why
answer_or_refusal below findings law (request.Cure w) files bytes status refusal h why = of_explore below findings wanted.Cured w files bytes status refusal h why
answer_or_refusal below findings law (request.Page w) files bytes status refusal h why = of_explore below findings (wanted.Told telling.Page) w files bytes status refusal h why
answer_or_refusal below findings law (request.Retold w t) files bytes status refusal h why = of_retold below t w files bytes status refusal h why
answer_or_refusal below findings law (request.Known w k) files bytes status refusal h why = of_known below law w k files bytes status refusal h why
answer_or_refusal below findings law (request.Images w parts) files bytes status refusal h why =
    of_log_with w (λ s text. IsSurvey parts text s) (λ s text. RefusesSurvey parts text s) (of_survey below parts) files bytes status refusal h why
answer_or_refusal below findings law (request.Cuts w l parts) files bytes status refusal h why =
    of_losses w l (λ s text. IsCutSurvey parts (losses_asked l s) text s) (λ s text. RefusesCutSurvey parts text s)
    (λ s held text r is refuses. of_cut_survey below parts l s held text r is refuses) files bytes status refusal h why
answer_or_refusal below findings law (request.Export w) files bytes status refusal h why =
    of_log_with w (λ s text. IsExport text s) (λ s text. RefusesExport text s) (of_export below) files bytes status refusal h why
answer_or_refusal below findings law (request.Log w) files bytes status refusal h why =
    of_log_with w (λ s text. IsTable text s) (λ s text. RefusesTable text s) (of_table below) files bytes status refusal h why
answer_or_refusal below findings law (request.Image w which) files bytes status refusal h why =
    of_log_with w (λ s text. IsImage text s which) (λ s text. RefusesImage text s which)
    (λ s text shown r k. of_meant below which s text k.value k.choice r k.source k.meant.is) files bytes status refusal h why
answer_or_refusal below findings law (request.Show w which) files bytes status refusal h why =
    of_log_with w (λ s text. IsShown text s which) (λ s text. RefusesImage text s which)
    (λ s text shown r k. of_meant below which s text k.value k.choice r k.source k.meant.is) files bytes status refusal h why
answer_or_refusal below findings law (request.AnyImage w cut in_words) files bytes status refusal h why =
    of_losses w any_words (λ s text. IsAnyImage (form_of in_words) text s cut files.choice) (λ s text. RefusesAnyImage text s cut files.choice)
    (λ s held text r is refuses. of_any_image below in_words cut files.choice s held text r is refuses) files bytes status refusal h why
answer_or_refusal below findings law (request.Verify w listed) files bytes status refusal h why =
    of_with w (λ s code. IsAcceptedText code s listed) (λ s code. RefusesVerified code s) (of_verified below listed) files bytes status refusal h why
answer_or_refusal below findings law (request.Import limits) files bytes status refusal h why =
    of_alone (λ raw. IsImported raw (sector_limit limits) limits) (RefusesImport limits) (of_imported limits) files bytes status refusal h why
answer_or_refusal below findings law (request.Check w) files bytes status refusal h why = of_trial below w files bytes status refusal h why
answer_or_refusal below findings law request.Asm files bytes status refusal h why = of_alone IsAssembled RefusesText of_assembled files bytes status refusal h why
answer_or_refusal below findings law (request.List numbered) files bytes status refusal h why =
    of_alone (IsListed numbered) RefusesBytes (of_listed below numbered) files bytes status refusal h why
answer_or_refusal below findings law (request.Join part) files bytes status refusal h why = of_join part files bytes status refusal h why

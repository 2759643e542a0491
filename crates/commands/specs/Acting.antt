-- What a command answers on what its files hold, and when it is refused (docs/COMMANDS.md, Commands; docs/REFUSALS.md, Refusals
-- in their order).
use Rattle.std.specs.Prelude.{ℕ, ◌≡◌, ◌↔◌, ◌⊎◌, ◌<◌, ◌≤◌, ◌^◌, ◌+◌, ◌-◌, ◌==◌, Bool, true, false, IsTrue, if◌then◌else◌, List, [], ◌∷◌, ◌++◌, bytes_eq, codes, take, drop, length, map, position, slice_get, is_none, Option, None, Some}
use Rattle.std.specs.Option.{option_map, option_map_or}
use Rattle.base.specs.declared.causes.JoinCause.TheVariants as joining
use Rattle.base.specs.declared.refusal.Cause.TheVariants.{Join}
use Rattle.base.specs.declared.refusal.Refusal.{Refusal}
use Rattle.base.specs.Refusals.{memory_refusal}
use Rattle.commands.specs.declared.action.HeldFiles.{HeldFiles}
use Rattle.commands.specs.declared.action.LogLook.{LogLook}
use Rattle.commands.specs.declared.action.LogLook.TheVariants as look
use Rattle.commands.specs.Stored.{stored_log, stored_programs, stored_settings}
use Rattle.request.specs.declared.settings.Settings.{Settings}
use Rattle.request.specs.declared.any_losses.AnyLosses.{AnyLosses}
use Rattle.request.specs.declared.any_losses.LossWords.{LossWords}
use Rattle.request.specs.AnyLosses.{losses_asked, losses_refusal}
use Rattle.request.specs.declared.known.KnownSearch.{KnownSearch}
use Rattle.request.specs.declared.known.KnownWords.{KnownWords}
use Rattle.request.specs.Known.{known_asked, known_refusal}
use Rattle.request.specs.declared.settings.KnownTelling.{KnownTelling}
use Rattle.request.specs.declared.settings.KnownTelling.TheVariants as telling_known
use Rattle.request.specs.declared.command.OptionWords.{OptionWords}
use Rattle.request.specs.declared.command.Request.{Request}
use Rattle.request.specs.declared.command.Request.TheVariants as request
use Rattle.request.specs.OptionWords.{AskFor, words_refusal}
use Rattle.request.specs.Refusals.{file_refusal}
use Rattle.request.specs.declared.trials.Trial.{Trial}
use Rattle.request.specs.declared.trials.TrialWords.{TrialWords}
use Rattle.request.specs.Trials.{AskForTrial, trial_refusal}
use Rattle.request.specs.Inputs.{inputs_line, report_number}
use Rattle.request.specs.Source.{Recording}
use Rattle.request.specs.declared.settings.CaseTelling.TheVariants as cases
use Rattle.request.specs.declared.settings.Telling.TheVariants as telling
use Rattle.base.specs.declared.causes.RequestCause.TheVariants as asked
use Rattle.base.specs.declared.refusal.Cause.TheVariants.{Request as AskedFor}
use Rattle.request.specs.declared.settings.Retelling.{Retelling}
use Rattle.retold.specs.declared.command.RetellFault.{RetellFault}
use Rattle.retold.specs.declared.command.RetellFault.TheVariants as fault
use Rattle.retold.specs.Retold.{IsRetold, RefusesRetold}
use Rattle.runs.specs.declared.explore_command.WantedAnswer.{WantedAnswer}
use Rattle.runs.specs.declared.explore_command.WantedAnswer.TheVariants as wanted
use Rattle.runs.specs.Explore.{RefusesWanted}
use Rattle.runs.specs.Judged.{takes}
use Rattle.runs.specs.Cured.{IsAnswered}
use Rattle.known_runs.specs.declared.asked.KnownRunFault.{KnownRunFault}
use Rattle.known_runs.specs.declared.asked.KnownRunFault.TheVariants as known_fault
use Rattle.known_runs.specs.Asked.{KnownAsked}
use Rattle.known_runs.specs.Told.{TellsKnown, RefusesKnown}
use Rattle.known_runs.specs.Wanted.{TellsWanted}
use Rattle.join.specs.declared.fault.JoinFault.{JoinFault}
use Rattle.join.specs.Joining.{IsJoin, RefusesJoin, size_of}
use Rattle.join.specs.declared.case_parts.fault.CasesFault.{CasesFault}
use Rattle.join.specs.declared.case_parts.fault.CasesFault.TheVariants as unjoined
use Rattle.join.specs.CaseJoining.{AreJoinedCases, HasFailing, IsTooLong, RefusesCases as RefusesJoinedCases}
use Rattle.base.specs.Sizes.{sector_limit}
use Rattle.raw_log.specs.Imported.{IsImported}
use Rattle.inspect.specs.Import.{RefusesImport}
use Rattle.inspect.specs.Image.{IsImage, RefusesImage, IsShown}
use Rattle.inspect.specs.AnyImage.{IsAnyImage, RefusesAnyImage}
use Rattle.inspect.specs.declared.looks.image_command.ImageForm.{ImageForm}
use Rattle.inspect.specs.declared.looks.image_command.ImageForm.TheVariants as form
use Rattle.inspect.specs.CutSurvey.{IsCutSurvey, RefusesCutSurvey}
use Rattle.inspect.specs.Survey.{IsSurvey, RefusesSurvey}
use Rattle.inspect.specs.Export.{IsExport, RefusesExport}
use Rattle.inspect.specs.Table.{IsTable, RefusesTable}
use Rattle.inspect.specs.Verifying.{IsAcceptedText, RefusesVerified}
use Rattle.inspect.specs.Assembly.{IsAssembled, RefusesText, IsListed, RefusesBytes}
use Rattle.inspect.specs.TrialText.{IsTried, RefusesTrial}

-- what each file of a command holds, none where it can't be read: those that it names by themselves, and the one after --base,
-- where that stands there; beside them the text after --choice
pub record Files : Type 0 where
  pub named : List (Option (List ℕ))
  pub base : Option (Option (List ℕ))
  pub choice : List ℕ

abbrev pub files_of : {V : Type 0} → (V → List ℕ) → List (Option V) → Option (Option V) → List ℕ → Files
files_of items named base choice = record { named = map (option_map items) named; base = option_map (option_map items) base; choice = choice }

abbrev pub held_by : HeldFiles → Files
held_by held = files_of (λ f. f.items) held.named.now held.base.now held.choice.now

-- the place of the first file that can't be read; without any file the first can't be read
abbrev pub unread : List (Option (List ℕ)) → Option ℕ
unread [] = Some 0
unread (file ∷ files) = position is_none (file ∷ files)

-- what the first file holds
abbrev pub first_file : List (Option (List ℕ)) → Option (List ℕ)
first_file [] = None
first_file (file ∷ files) = file

abbrev pub first_held : Files → Option (List ℕ)
first_held files = first_file files.named

-- what the second file holds
abbrev pub second_file : List (Option (List ℕ)) → Option (List ℕ)
second_file [] = None
second_file (file ∷ files) = first_file files

abbrev pub second_held : Files → Option (List ℕ)
second_held files = second_file files.named

-- what the third file holds, lines of C: no bytes where it isn't named; none where it can't be read
abbrev pub lines_in : Option (Option (List ℕ)) → Option (List ℕ)
lines_in None = Some []
lines_in (Some held) = held

abbrev pub lines_held : Files → Option (List ℕ)
lines_held files = lines_in (slice_get files.named 2)

-- of what the device held before entry 0 the bytes, none of them without --base; none where the file can't be read
abbrev pub initial_of : Option (Option (List ℕ)) → Option (List ℕ)
initial_of None = Some []
initial_of (Some held) = held

-- a log over initial content
abbrev pub recording : List ℕ → List ℕ → Recording
recording log initial = record { text = log; initial = initial }

-- what the files of a command on a log and a report, or records, hold
pub record HoldsGiven (files : Files) (r : Recording) (given : List ℕ) : Type 0 where
  pub read : first_held files ≡ Some r.text
  pub second : second_held files ≡ Some given
  pub based : initial_of files.base ≡ Some r.initial

-- what the files of a command on a log hold
pub record HoldsRecording (files : Files) (r : Recording) : Type 0 where
  pub read : first_held files ≡ Some r.text
  pub based : initial_of files.base ≡ Some r.initial

-- the status of a run is 1 exactly where it found a failing image
abbrev pub status_of : Bool → ℕ
status_of failing = if failing then 1 else 0

-- what a run answers, and its status
pub record AnswersRun (t : WantedAnswer) (s : Settings) (log : Recording) (programs : List (List ℕ)) (bytes : List ℕ) (status : ℕ) : Type 0 where
  pub taken : takes t s.extent ≡ true
  pub failing : Bool
  pub told : IsAnswered t log programs s bytes failing
  pub ends : status ≡ status_of failing

-- the same of a run over the command's files, the log first
pub record AnswersFiles (t : WantedAnswer) (s : Settings) (files : Files) (bytes : List ℕ) (status : ℕ) : Type 0 where
  pub log : List ℕ
  pub programs : List (List ℕ)
  pub initial : List ℕ
  pub read : files.named ≡ map Some (log ∷ programs)
  pub based : initial_of files.base ≡ Some initial
  pub answers : AnswersRun t s (recording log initial) programs bytes status

-- the same of the settings that the words ask for
pub record AnswersExplore (t : WantedAnswer) (w : OptionWords) (files : Files) (bytes : List ℕ) (status : ℕ) : Type 0 where
  pub settings : Settings
  pub asked : AskFor w settings
  pub answers : AnswersFiles t settings files bytes status

-- what is wanted of any number of losses: its cases, or where flushes are missing for them
abbrev pub wanted_by : Bool → AnyLosses → WantedAnswer
wanted_by cured l = if cured then wanted.CuredCases l else wanted.Cases l

-- the same of what the words ask of any number of losses
pub record AnswersCases (cured : Bool) (w : OptionWords) (l : LossWords) (files : Files) (bytes : List ℕ) (status : ℕ) : Type 0 where
  pub settings : Settings
  pub asked : AskFor w settings
  pub good : losses_refusal l settings ≡ None
  pub answers : AnswersFiles (wanted_by cured (losses_asked l settings)) settings files bytes status

-- what is told of the report that the second file is, of the log that the first one holds, and the status: 1 exactly where it has a
-- failing line
pub record AnswersRetold (t : Retelling) (w : OptionWords) (files : Files) (bytes : List ℕ) (status : ℕ) : Type 0 where
  pub settings : Settings
  pub asked : AskFor w settings
  pub log : List ℕ
  pub report : List ℕ
  pub initial : List ℕ
  pub read : first_held files ≡ Some log
  pub second : second_held files ≡ Some report
  pub based : initial_of files.base ≡ Some initial
  pub failing : Bool
  pub told : IsRetold t (recording log initial) report settings bytes failing
  pub ends : status ≡ status_of failing

-- what is asked of records, of a log
abbrev pub search_asked : Recording → List ℕ → KnownSearch → Settings → KnownAsked
search_asked text records k s = record { text = text; records = records; losses = k.losses; stops = record { at_failing = k.at_failing; cases = k.cases }; settings = s }

-- what is told of records, and its status: the text of the cases, or the images that are wanted, of which the status is 0
abbrev pub TellsRecords : KnownTelling → KnownAsked → List ℕ → ℕ → Type 0
TellsRecords telling_known.Cases asked bytes status = TellsKnown asked bytes status
TellsRecords telling_known.Wanted asked bytes status = TellsWanted asked bytes × (status ≡ 0)

-- what is told of the records that the second file is, of the log that the first one holds
pub record AnswersRecords (w : OptionWords) (k : KnownWords) (files : Files) (bytes : List ℕ) (status : ℕ) : Type 0 where
  pub settings : Settings
  pub asked : AskFor w settings
  pub good : known_refusal k settings ≡ None
  pub log : List ℕ
  pub records : List ℕ
  pub initial : List ℕ
  pub read : first_held files ≡ Some log
  pub second : second_held files ≡ Some records
  pub based : initial_of files.base ≡ Some initial
  pub told : TellsRecords k.telling (search_asked (recording log initial) records (known_asked k settings) settings) bytes status

-- what is asked of any number of losses, where no number of them is given
abbrev pub any_words : LossWords
any_words = record { any = true; torn = None; at_most = None; telling = cases.Cases }

-- how an image is told
abbrev pub form_of : Bool → ImageForm
form_of in_words = if in_words then form.Words else form.Bytes

-- what a command on one file answers, by what that file holds; its status is 0
pub record AnswersFile (Is : List ℕ → List ℕ → Type 0) (files : Files) (bytes : List ℕ) (status : ℕ) : Type 0 where
  pub held : List ℕ
  pub read : first_held files ≡ Some held
  pub is : Is held bytes
  pub ends : status ≡ 0

-- the same of a command on a log
pub record AnswersLog (Is : Recording → List ℕ → Type 0) (files : Files) (bytes : List ℕ) (status : ℕ) : Type 0 where
  pub held : List ℕ
  pub initial : List ℕ
  pub read : first_held files ≡ Some held
  pub based : initial_of files.base ≡ Some initial
  pub is : Is (recording held initial) bytes
  pub ends : status ≡ 0

-- the same of the settings that the words ask for
pub record AnswersOf (w : OptionWords) (Is : Settings → Recording → List ℕ → Type 0) (files : Files) (bytes : List ℕ) (status : ℕ) : Type 0 where
  pub settings : Settings
  pub asked : AskFor w settings
  pub answers : AnswersLog (Is settings) files bytes status

-- the same of what the words ask of any number of losses
pub record AnswersLosses (w : OptionWords) (l : LossWords) (Is : Settings → Recording → List ℕ → Type 0) (files : Files) (bytes : List ℕ) (status : ℕ) : Type 0 where
  pub settings : Settings
  pub asked : AskFor w settings
  pub good : losses_refusal l settings ≡ None
  pub answers : AnswersLog (Is settings) files bytes status

-- of an image with any number of losses, of the choice that is printed so
abbrev pub AnswersAny : OptionWords → ℕ → Bool → Files → List ℕ → ℕ → Type 0
AnswersAny w cut in_words files bytes status = AnswersLosses w any_words (λ s text. IsAnyImage (form_of in_words) text s cut files.choice) files bytes status

-- of the cuts at which cases are looked for
abbrev pub AnswersCuts : OptionWords → LossWords → Option ℕ → Files → List ℕ → ℕ → Type 0
AnswersCuts w l parts files bytes status = AnswersLosses w l (λ s text. IsCutSurvey parts (losses_asked l s) text s) files bytes status

-- the same of a command that takes options, but no log
pub record AnswersWith (w : OptionWords) (Is : Settings → List ℕ → List ℕ → Type 0) (files : Files) (bytes : List ℕ) (status : ℕ) : Type 0 where
  pub settings : Settings
  pub asked : AskFor w settings
  pub answers : AnswersFile (Is settings) files bytes status

-- what the first file, a program, comes to on the second one, an image, with the lines of C that the third one has, and the status
pub record AnswersTrial (w : TrialWords) (files : Files) (bytes : List ℕ) (status : ℕ) : Type 0 where
  pub trial : Trial
  pub asked : AskForTrial w trial
  pub program : List ℕ
  pub image : List ℕ
  pub read : first_held files ≡ Some program
  pub lines : List ℕ
  pub shown : second_held files ≡ Some image
  pub named : lines_held files ≡ Some lines
  pub failing : Bool
  pub tried : IsTried program image lines trial bytes failing
  pub ends : status ≡ status_of failing

-- how many texts of parts are joined at most
abbrev pub most_texts : ℕ
most_texts = 4096

-- what texts of parts come to, which aren't too long, and the status: 1 exactly where they have a failing line; `part` says whether they
-- may be some of the parts of their run
pub record JoinsTexts (part : Bool) (texts : List (List ℕ)) (bytes : List ℕ) (status : ℕ) : Type 0 where
  pub short : size_of texts ≤ 2 ^ 30
  pub failing : Bool
  pub joined : IsJoin part texts bytes failing
  pub ends : status ≡ status_of failing

-- the same of texts of cases, where `part` says whether they may have some of the cuts of their run
pub record JoinsCases (part : Bool) (texts : List (List ℕ)) (bytes : List ℕ) (status : ℕ) : Type 0 where
  pub short : size_of texts ≤ 2 ^ 30
  pub joined : AreJoinedCases part texts bytes
  pub failing : Bool
  pub fails : IsTrue failing ↔ HasFailing texts
  pub ends : status ≡ status_of failing

-- the line with which the text of cases begins, and whether the first of some texts does
abbrev pub cases_line : List ℕ
cases_line = codes "crash cases 1\n"

abbrev pub are_cases : List (List ℕ) → Bool
are_cases [] = false
are_cases (text ∷ texts) = bytes_eq (take 14 text) cases_line

-- what texts come to: of cases where the first one begins so, and else of parts
pub data JoinsEither (part : Bool) (texts : List (List ℕ)) (bytes : List ℕ) (status : ℕ) : Type 0 where
  join_of_parts : are_cases texts ≡ false → JoinsTexts part texts bytes status → JoinsEither part texts bytes status
  join_of_cases : are_cases texts ≡ true → JoinsCases part texts bytes status → JoinsEither part texts bytes status

-- the same of what the command's files hold
pub record AnswersJoin (part : Bool) (files : Files) (bytes : List ℕ) (status : ℕ) : Type 0 where
  pub texts : List (List ℕ)
  pub read : files.named ≡ map Some texts
  pub some : 0 < length texts
  pub few : length texts ≤ most_texts
  pub joins : JoinsEither part texts bytes status

-- how many bytes the title of a report has
abbrev pub title_length : ℕ
title_length = 15

-- the first line of a text, with its newline; all of a text that has none
abbrev pub first_line : List ℕ → List ℕ
first_line text = option_map_or (λ (place : ℕ). take (place + 1) text) (position (λ (b : ℕ). b == 10) text) text

-- a report that says after its title of which log and options it is, and of how many programs: these options are its second line
abbrev pub with_inputs : List ℕ → ℕ → List ℕ → List ℕ
with_inputs log programs rest = codes "crash report 2\n" ++ (inputs_line (report_number log (first_line rest)) programs ++ rest)

abbrev pub marked_report : List ℕ → ℕ → List ℕ → List ℕ
marked_report log programs report = with_inputs log programs (drop title_length report)

-- what a run answers whose report says of what it is
pub record AnswersMarked (w : OptionWords) (files : Files) (bytes : List ℕ) (status : ℕ) : Type 0 where
  pub report : List ℕ
  pub answers : AnswersExplore (wanted.Told telling.Report) w files report status
  pub log : List ℕ
  pub read : first_held files ≡ Some log
  pub marks : bytes ≡ marked_report log (length files.named - 1) report

-- what is shown of a log
abbrev pub Shows : LogLook → Settings → Recording → List ℕ → Type 0
Shows (look.Images parts) s text = IsSurvey parts text s
Shows look.Export s text = IsExport text s
Shows look.Log s text = IsTable text s
Shows (look.Image which) s text = IsImage text s which
Shows (look.Show which) s text = IsShown text s which

-- the bytes for standard output, and the status, of what the command line asks for
abbrev pub Answers : Request → Files → List ℕ → ℕ → Type 0
Answers request.StoredRun files bytes status = AnswersRun (wanted.Told telling.Report) stored_settings (recording stored_log []) stored_programs bytes status
Answers (request.Explore w) files bytes status = AnswersExplore (wanted.Told telling.Report) w files bytes status
Answers (request.Marked w) files bytes status = AnswersMarked w files bytes status
Answers (request.Cases w l) files bytes status = AnswersCases false w l files bytes status
Answers (request.Why w) files bytes status = AnswersExplore (wanted.Told telling.Causes) w files bytes status
Answers (request.Cure w) files bytes status = AnswersExplore wanted.Cured w files bytes status
Answers (request.CureCases w l) files bytes status = AnswersCases true w l files bytes status
Answers (request.Page w) files bytes status = AnswersExplore (wanted.Told telling.Page) w files bytes status
Answers (request.Retold w t) files bytes status = AnswersRetold t w files bytes status
Answers (request.Known w k) files bytes status = AnswersRecords w k files bytes status
Answers (request.Images w parts) files bytes status = AnswersOf w (λ s text. IsSurvey parts text s) files bytes status
Answers (request.Cuts w l parts) files bytes status = AnswersCuts w l parts files bytes status
Answers (request.Export w) files bytes status = AnswersOf w (λ s text. IsExport text s) files bytes status
Answers (request.Log w) files bytes status = AnswersOf w (λ s text. IsTable text s) files bytes status
Answers (request.Image w which) files bytes status = AnswersOf w (λ s text. IsImage text s which) files bytes status
Answers (request.Show w which) files bytes status = AnswersOf w (λ s text. IsShown text s which) files bytes status
Answers (request.AnyImage w cut in_words) files bytes status = AnswersAny w cut in_words files bytes status
Answers (request.Verify w listed) files bytes status = AnswersWith w (λ s code. IsAcceptedText code s listed) files bytes status
Answers (request.Import limits) files bytes status = AnswersFile (λ raw. IsImported raw (sector_limit limits) limits) files bytes status
Answers (request.Check w) files bytes status = AnswersTrial w files bytes status
Answers request.Asm files bytes status = AnswersFile IsAssembled files bytes status
Answers (request.List numbered) files bytes status = AnswersFile (IsListed numbered) files bytes status
Answers (request.Join part) files bytes status = AnswersJoin part files bytes status

-- the refusals of a command with options: of its words first
pub data RefusesWith (w : OptionWords) (Rest : Settings → Refusal → Type 0) : Refusal → Type 0 where
  for_words : (r : Refusal) → words_refusal w ≡ Some r → RefusesWith w Rest r
  for_settings : (s : Settings) (r : Refusal) → AskFor w s → Rest s r → RefusesWith w Rest r

-- the refusals of a command on one file: that it can't be read, then those of what it holds
pub data RefusesFile (files : Files) (Rest : List ℕ → Refusal → Type 0) : Refusal → Type 0 where
  for_file : first_held files ≡ None → RefusesFile files Rest (file_refusal 0)
  for_held : (held : List ℕ) (r : Refusal) → first_held files ≡ Some held → Rest held r → RefusesFile files Rest r

-- the refusals of a command on a log: that it can't be read; that it can be, and the file of its initial content can't be; then those
-- of what they hold
pub data RefusesRecording (files : Files) (Rest : Recording → Refusal → Type 0) : Refusal → Type 0 where
  for_log_file : first_held files ≡ None → RefusesRecording files Rest (file_refusal 0)
  for_base_file : (held : List ℕ) → first_held files ≡ Some held → initial_of files.base ≡ None → RefusesRecording files Rest (file_refusal (length files.named))
  for_recording : (held initial : List ℕ) (r : Refusal) → first_held files ≡ Some held → initial_of files.base ≡ Some initial
      → Rest (recording held initial) r → RefusesRecording files Rest r

-- the refusals of a run's command after its options: the first file that can't be read, that of the initial content last, then
-- those of the run; or want of memory
pub data RefusesFiles (t : WantedAnswer) (files : Files) (s : Settings) : Refusal → Type 0 where
  for_unread : (place : ℕ) → unread files.named ≡ Some place → RefusesFiles t files s (file_refusal place)
  for_base : unread files.named ≡ None → initial_of files.base ≡ None → RefusesFiles t files s (file_refusal (length files.named))
  for_run : (log : List ℕ) (programs : List (List ℕ)) (initial : List ℕ) (r : Refusal) → files.named ≡ map Some (log ∷ programs)
      → initial_of files.base ≡ Some initial → RefusesWanted t (recording log initial) programs s r → RefusesFiles t files s r
  for_memory : unread files.named ≡ None → RefusesFiles t files s memory_refusal

-- a report, or records, that are none: 16 at the line at which that shows
abbrev pub report_refusal : ℕ → Refusal
report_refusal line = record { code = AskedFor asked.NotReport; at = line; program = None }

-- the refusal of a report, or of what it is to be of
abbrev pub retold_refusal : RetellFault → Refusal
retold_refusal (fault.Refused r) = r
retold_refusal (fault.Report line) = report_refusal line

-- that of records, where two contradict each other at the later one
abbrev pub records_refusal : KnownRunFault → Refusal
records_refusal (known_fault.Refused r) = r
records_refusal (known_fault.Line line) = report_refusal line
records_refusal (known_fault.Other line) = report_refusal line
records_refusal (known_fault.Contradiction earlier later) = report_refusal later

-- the refusals of a command on a log and a report, or records, after its options: the first file that can't be read, that of the initial
-- content last, then those of what they hold
pub data RefusesGiven (files : Files) (Rest : Recording → List ℕ → Refusal → Type 0) : Refusal → Type 0 where
  for_log_of_report : first_held files ≡ None → RefusesGiven files Rest (file_refusal 0)
  for_report_file : (log : List ℕ) → first_held files ≡ Some log → second_held files ≡ None → RefusesGiven files Rest (file_refusal 1)
  for_base_of_report : (log report : List ℕ) → first_held files ≡ Some log → second_held files ≡ Some report → initial_of files.base ≡ None
      → RefusesGiven files Rest (file_refusal (length files.named))
  for_given : (log report initial : List ℕ) (r : Refusal) → first_held files ≡ Some log → second_held files ≡ Some report → initial_of files.base ≡ Some initial
      → Rest (recording log initial) report r → RefusesGiven files Rest r

-- a refusal is that of a fault
pub data RefusesBy {F : Type 0} (Faults : F → Type 0) (refusal_of : F → Refusal) : Refusal → Type 0 where
  for_fault : (f : F) → Faults f → RefusesBy Faults refusal_of (refusal_of f)

-- those of a report
abbrev pub RefusesReportOf : Files → Settings → Refusal → Type 0
RefusesReportOf files s r = RefusesGiven files (λ text report. RefusesBy (RefusesRetold text report s) retold_refusal) r

-- those of records: what is asked of them first
pub data RefusesRecords (k : KnownWords) (files : Files) (s : Settings) : Refusal → Type 0 where
  for_search : (r : Refusal) → known_refusal k s ≡ Some r → RefusesRecords k files s r
  for_records : (r : Refusal) → known_refusal k s ≡ None
      → RefusesGiven files (λ text records. RefusesBy (RefusesKnown (search_asked text records (known_asked k s) s)) records_refusal) r → RefusesRecords k files s r

-- the refusals of a run by cases after its options: what is asked of losses first
pub data RefusesCases (cured : Bool) (l : LossWords) (files : Files) (s : Settings) : Refusal → Type 0 where
  for_losses : (r : Refusal) → losses_refusal l s ≡ Some r → RefusesCases cured l files s r
  for_cases_of : (r : Refusal) → losses_refusal l s ≡ None → RefusesFiles (wanted_by cured (losses_asked l s)) files s r → RefusesCases cured l files s r

-- the refusals of a command on a log with any number of losses after its options: what doesn't go with these first
pub data RefusesLosses (l : LossWords) (Rest : Settings → Recording → Refusal → Type 0) (files : Files) (s : Settings) : Refusal → Type 0 where
  for_any_losses : (r : Refusal) → losses_refusal l s ≡ Some r → RefusesLosses l Rest files s r
  for_any_recording : (r : Refusal) → losses_refusal l s ≡ None → RefusesRecording files (Rest s) r → RefusesLosses l Rest files s r

-- those of an image
abbrev pub RefusesAny : ℕ → Files → Settings → Refusal → Type 0
RefusesAny cut files s r = RefusesLosses any_words (λ t text. RefusesAnyImage text t cut files.choice) files s r

-- those of the cuts
abbrev pub RefusesCuts : LossWords → Option ℕ → Files → Settings → Refusal → Type 0
RefusesCuts l parts files s r = RefusesLosses l (λ t text. RefusesCutSurvey parts text t) files s r

-- the refusals of a program on an image: of the words; of good words, that the program's file can't be read; that it can be, and the
-- image's can't be; that both can be, and that of the lines of C can't be; then those of what they hold
pub data RefusesCheck (w : TrialWords) (files : Files) : Refusal → Type 0 where
  for_trial_words : (r : Refusal) → trial_refusal w ≡ Some r → RefusesCheck w files r
  for_program_file : (t : Trial) → AskForTrial w t → first_held files ≡ None → RefusesCheck w files (file_refusal 0)
  for_image_file : (t : Trial) (program : List ℕ) → AskForTrial w t → first_held files ≡ Some program → second_held files ≡ None
      → RefusesCheck w files (file_refusal 1)
  for_lines_file : (t : Trial) (program image : List ℕ) → AskForTrial w t → first_held files ≡ Some program → second_held files ≡ Some image
      → lines_held files ≡ None → RefusesCheck w files (file_refusal 2)
  for_trial : (t : Trial) (program image lines : List ℕ) (r : Refusal) → AskForTrial w t → first_held files ≡ Some program → second_held files ≡ Some image
      → lines_held files ≡ Some lines → RefusesTrial program image lines t r → RefusesCheck w files r

-- the refusal of texts that aren't joined
abbrev pub join_refusal : JoinFault → Refusal
join_refusal fault = record { code = Join fault.cause; at = fault.file; program = None }

abbrev pub cases_refusal : CasesFault → Refusal
cases_refusal (unjoined.Part fault) = join_refusal fault
cases_refusal (unjoined.TooMany file) = record { code = AskedFor asked.TooManyImages; at = file; program = None }

pub data RefusesTexts (part : Bool) (texts : List (List ℕ)) : Refusal → Type 0 where
  for_texts : are_cases texts ≡ false → (fault : JoinFault) → RefusesJoin part texts fault → (fault.cause ≡ joining.TooLong) ⊎ (size_of texts ≤ 2 ^ 30) → RefusesTexts part texts (join_refusal fault)
  for_case_texts : are_cases texts ≡ true → (fault : CasesFault) → RefusesJoinedCases part texts fault → IsTooLong fault ⊎ (size_of texts ≤ 2 ^ 30) → RefusesTexts part texts (cases_refusal fault)

-- the refusals of the files of parts: that there is none, or too many; the first that can't be read; then those of what they hold; or
-- want of memory
pub data RefusesParts (part : Bool) (files : Files) : Refusal → Type 0 where
  for_no_part : files.named ≡ [] → RefusesParts part files (file_refusal 0)
  for_many_parts : most_texts < length files.named → RefusesParts part files (join_refusal (record { cause = joining.TooLong; file = most_texts }))
  for_unread_part : (place : ℕ) → length files.named ≤ most_texts → unread files.named ≡ Some place → RefusesParts part files (file_refusal place)
  for_parts : (texts : List (List ℕ)) (r : Refusal) → files.named ≡ map Some texts → length texts ≤ most_texts → RefusesTexts part texts r → RefusesParts part files r
  for_part_memory : unread files.named ≡ None → RefusesParts part files (join_refusal (record { cause = joining.Memory; file = 0 }))

-- when it is refused to show that of a log
abbrev pub RefusesLook : LogLook → Settings → Recording → Refusal → Type 0
RefusesLook (look.Images parts) s text = RefusesSurvey parts text s
RefusesLook look.Export s text = RefusesExport text s
RefusesLook look.Log s text = RefusesTable text s
RefusesLook (look.Image which) s text = RefusesImage text s which
RefusesLook (look.Show which) s text = RefusesImage text s which

-- when what the command line asks for is refused
abbrev pub RefusesToAct : Request → Files → Refusal → Type 0
RefusesToAct request.StoredRun files r = (r ≡ memory_refusal) ⊎ RefusesWanted (wanted.Told telling.Report) (recording stored_log []) stored_programs stored_settings r
RefusesToAct (request.Explore w) files r = RefusesWith w (RefusesFiles (wanted.Told telling.Report) files) r
RefusesToAct (request.Marked w) files r = RefusesWith w (RefusesFiles (wanted.Told telling.Report) files) r
RefusesToAct (request.Cases w l) files r = RefusesWith w (RefusesCases false l files) r
RefusesToAct (request.Why w) files r = RefusesWith w (RefusesFiles (wanted.Told telling.Causes) files) r
RefusesToAct (request.Cure w) files r = RefusesWith w (RefusesFiles wanted.Cured files) r
RefusesToAct (request.CureCases w l) files r = RefusesWith w (RefusesCases true l files) r
RefusesToAct (request.Page w) files r = RefusesWith w (RefusesFiles (wanted.Told telling.Page) files) r
RefusesToAct (request.Retold w t) files r = RefusesWith w (RefusesReportOf files) r
RefusesToAct (request.Known w k) files r = RefusesWith w (RefusesRecords k files) r
RefusesToAct (request.Images w parts) files r = RefusesWith w (λ s. RefusesRecording files (λ text. RefusesSurvey parts text s)) r
RefusesToAct (request.Cuts w l parts) files r = RefusesWith w (RefusesCuts l parts files) r
RefusesToAct (request.Export w) files r = RefusesWith w (λ s. RefusesRecording files (λ text. RefusesExport text s)) r
RefusesToAct (request.Log w) files r = RefusesWith w (λ s. RefusesRecording files (λ text. RefusesTable text s)) r
RefusesToAct (request.Image w which) files r = RefusesWith w (λ s. RefusesRecording files (λ text. RefusesImage text s which)) r
RefusesToAct (request.Show w which) files r = RefusesWith w (λ s. RefusesRecording files (λ text. RefusesImage text s which)) r
RefusesToAct (request.AnyImage w cut in_words) files r = RefusesWith w (RefusesAny cut files) r
RefusesToAct (request.Verify w listed) files r = RefusesWith w (λ s. RefusesFile files (λ code. RefusesVerified code s)) r
RefusesToAct (request.Import limits) files r = RefusesFile files (RefusesImport limits) r
RefusesToAct (request.Check w) files r = RefusesCheck w files r
RefusesToAct request.Asm files r = RefusesFile files RefusesText r
RefusesToAct (request.List numbered) files r = RefusesFile files RefusesBytes r
RefusesToAct (request.Join part) files r = RefusesParts part files r

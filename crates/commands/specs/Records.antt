-- What the text of `explore --known` says of a program, where its records are true (docs/OUTPUT.md, Records of a program of yours).
use Rattle.std.specs.Prelude.{ℕ, ◌≡◌, ◌≤◌, true, false, List, ◌++◌, length, map, slice_get, Option, Some, codes}
use Rattle.logfmt.specs.Bounds.{LogValue}
use Rattle.epochs.specs.Cuts.{is_wanted}
use Rattle.machine.specs.Outcome.{Ending, fails}
use Rattle.cases.specs.Choices.{Choice}
use Rattle.cases.specs.Laws.{Includes, IsChoice}
use Rattle.cases.specs.AtCut.{CutValue}
use Rattle.case_text.specs.Text.{are_all_cuts, extent_words}
use Rattle.known.specs.declared.run.KnownRun.{KnownRun}
use Rattle.known.specs.declared.found.KnownAt.{KnownAt}
use Rattle.known.specs.declared.found.KnownFailing.{KnownFailing}
use Rattle.known.specs.Ends.{ending_of}
use Rattle.known.specs.Laws.{AreTrue, IsInFailing, IsInFailingOf, failing_case, truth_at}
use Rattle.known.specs.Leaves.{is_complete}
use Rattle.known_text.specs.Records.{ran_of}
use Rattle.known_text.specs.Texts.{HeadValue, IsKnownOnly}
use Rattle.request.specs.Inputs.{head_given}
use Rattle.request.specs.Known.{known_asked}
use Rattle.request.specs.Source.{HasImages}
use Rattle.request.specs.declared.command.OptionWords.{OptionWords}
use Rattle.request.specs.declared.command.Request.TheVariants as request
use Rattle.request.specs.declared.known.KnownWords.{KnownWords}
use Rattle.request.specs.declared.settings.KnownTelling.TheVariants as telling
use Rattle.known_runs.specs.Asked.{KnownAsked, asked_losses, asked_cuts}
use Rattle.known_runs.specs.Number.{source_of}
use Rattle.known_runs.specs.Text.{known_bytes}
use Rattle.known_runs.specs.Told.{records_of}
use Rattle.commands.specs.Acting.{Files, first_held, second_held, initial_of, recording, search_asked, Answers}

-- what is asked, and what is found of the log at each cut at which cases are looked for, by the records of the second file. These are of the
-- log without flushes that are added.
pub record Found : Type 0 where
  pub asked : KnownAsked
  pub value : LogValue
  pub plain : LogValue
  pub runs : List KnownRun
  pub found : List KnownAt

abbrev pub cut_in : Found → ℕ → CutValue
cut_in f k = record { log = f.value; way = f.asked.settings.by; cut = k }

-- the bytes are the text of that, of the log and the records that the files hold
pub record IsTextOf (k : KnownWords) (files : Files) (bytes : List ℕ) (f : Found) : Type 0 where
  pub log : List ℕ
  pub initial : List ℕ
  pub read : first_held files ≡ Some log
  pub second : second_held files ≡ Some f.asked.records
  pub based : initial_of files.base ≡ Some initial
  pub asks : f.asked ≡ search_asked (recording log initial) f.asked.records (known_asked k f.asked.settings) f.asked.settings
  pub source : HasImages (recording log initial) f.asked.settings f.value
  pub plain : f.plain ≡ source.reads.read
  pub head : Option HeadValue
  pub records : IsKnownOnly (source_of f.asked f.plain) f.asked.records head (map ran_of f.runs)
  pub text : bytes ≡ known_bytes (source_of f.asked f.plain).inputs (head_given f.asked.settings f.value) (asked_losses f.asked) head f.value f.found

-- each record is true of a program: it ends as the record says on each image of the log that the record tells
abbrev pub TrueOf : Found → (ℕ → List (List ℕ) → Ending) → Type 0
TrueOf f truth = AreTrue (records_of f.asked f.plain f.runs) f.value f.asked.settings.by truth

-- What follows of that program, at each cut at which cases were looked for:
-- it fails on the image of each choice of a failing case that is told, and ends there as the case says;
-- where nothing is open, left out or pending at the cut, each choice on whose image it fails is in such a case;
-- with status 0 it fails on no image.
pub record TellTruth (f : Found) (status : ℕ) (truth : ℕ → List (List ℕ) → Ending) : Type 0 where
  pub failing : (i k n : ℕ) (at : KnownAt) (c : KnownFailing) (choice : Choice) → k ≤ length f.value.entries → slice_get (asked_cuts f.asked f.value) i ≡ Some k → slice_get f.found i ≡ Some at
      → slice_get at.failing.items n ≡ Some c → Includes choice (failing_case (asked_losses f.asked) (cut_in f k) c)
      → (truth_at truth (cut_in f k) choice ≡ ending_of c.end) × (fails (ending_of c.end) ≡ true)
  pub complete : (i k : ℕ) (at : KnownAt) (choice : Choice) → k ≤ length f.value.entries → slice_get (asked_cuts f.asked f.value) i ≡ Some k → slice_get f.found i ≡ Some at → is_complete at ≡ true
      → IsChoice f.asked.settings.tears choice → fails (truth_at truth (cut_in f k) choice) ≡ true
      → IsInFailing (asked_losses f.asked) (cut_in f k) at choice (truth_at truth (cut_in f k) choice)
  pub clean : status ≡ 0 → (i k : ℕ) (choice : Choice) → k ≤ length f.value.entries → slice_get (asked_cuts f.asked f.value) i ≡ Some k → IsChoice f.asked.settings.tears choice
      → fails (truth_at truth (cut_in f k) choice) ≡ false

-- a cut that was asked for: one of the kind of `--cuts`, from the cut of `--from` to that of `--to`
pub record IsAskedCut (f : Found) (k : ℕ) : Type 0 where
  pub within : k ≤ length f.value.entries
  pub wanted : is_wanted f.asked.settings.cuts f.value.entries k ≡ true

-- nothing is open, left out or pending at any cut at which cases were looked for
abbrev pub IsComplete : Found → Type 0
IsComplete f = (i : ℕ) (at : KnownAt) → slice_get f.found i ≡ Some at → is_complete at ≡ true

-- Of every cut that was asked for follows the same, whether cases were looked for there or at a last cut that has its images. Where it is
-- complete, each image on which the program fails is one of a failing case that is told. With status 0 the program fails on no image.
pub record TellEvery (f : Found) (status : ℕ) (truth : ℕ → List (List ℕ) → Ending) : Type 0 where
  pub complete : IsComplete f → (k : ℕ) (choice : Choice) → IsAskedCut f k → IsChoice f.asked.settings.tears choice → fails (truth_at truth (cut_in f k) choice) ≡ true
      → IsInFailingOf (asked_losses f.asked) f.value f.asked.settings.by (asked_cuts f.asked f.value) f.found k choice (truth_at truth (cut_in f k) choice)
  pub clean : status ≡ 0 → (k : ℕ) (choice : Choice) → IsAskedCut f k → IsChoice f.asked.settings.tears choice → fails (truth_at truth (cut_in f k) choice) ≡ false

abbrev pub EndsIn : List ℕ → List ℕ → Type 0
EndsIn bytes last = (front : List ℕ) × (bytes ≡ front ++ last)

-- What the end of the text says: ` complete`, or ` of these cuts`, exactly where it is complete. With ` complete` every cut of the log was asked
-- for.
pub record SaysComplete (f : Found) (bytes : List ℕ) : Type 0 where
  pub every : EndsIn bytes (codes " complete\n") → IsComplete f × ((k : ℕ) → k ≤ length f.value.entries → IsAskedCut f k)
  pub these : EndsIn bytes (codes " of these cuts\n") → IsComplete f
  pub said : IsComplete f → EndsIn bytes (extent_words (are_all_cuts f.asked.settings.cuts) ++ codes "\n")

-- what `explore --known` prints is the text of what is found by the records, and that is true of each program of which the records are
abbrev pub RecordsTellTruth : Type 0
RecordsTellTruth = (w : OptionWords) (k : KnownWords) (files : Files) (bytes : List ℕ) (status : ℕ) → k.telling ≡ telling.Cases → Answers (request.Known w k) files bytes status
    → (f : Found) × IsTextOf k files bytes f × SaysComplete f bytes × ((truth : ℕ → List (List ℕ) → Ending) → TrueOf f truth → TellTruth f status truth × TellEvery f status truth)

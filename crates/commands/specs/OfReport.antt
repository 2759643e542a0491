-- Of the report of checkers `why --report` says what `why` says of the checkers, and so does `page` (docs/COMMANDS.md, What each command
-- does).
use Rattle.std.specs.Prelude.{ℕ, ◌≡◌, ◌≢◌, ◌≤◌, ◌^◌, false, List, length, None, Some}
use Rattle.base.specs.declared.causes.RequestCause.TheVariants as asked
use Rattle.base.specs.declared.refusal.Cause.TheVariants.{Request}
use Rattle.base.specs.declared.refusal.Refusal.{Refusal}
use Rattle.request.specs.declared.command.OptionWords.{OptionWords}
use Rattle.request.specs.declared.command.Request.TheVariants as request
use Rattle.request.specs.declared.extent.Extent.TheVariants as extent
use Rattle.request.specs.declared.settings.Retelling.{Retelling}
use Rattle.request.specs.declared.settings.Retelling.TheVariants as retelling
use Rattle.commands.specs.Acting.{Files, first_held, second_held, initial_of, Answers, RefusesToAct}
use Rattle.commands.specs.Parts.{asking}

-- the same words but for what changes no image: who does the work, how programs are taken, and of which failing images the report is
abbrev pub of_images : OptionWords → OptionWords
of_images w = record w { settings = record w.settings { workers = 1; cache = 0; checked = None; guards = false; first = false } }

-- files of a command on a report: the log and the initial content of others, and that report
pub record HaveReport (files : Files) (report : List ℕ) (given : Files) : Type 0 where
  pub log : first_held given ≡ first_held files
  pub second : second_held given ≡ Some report
  pub based : initial_of given.base ≡ initial_of files.base

-- a report that `explore` printed of all failing images, and words of a command on it with the same log and images
pub record IsOfRun (v w : OptionWords) (files given : Files) (report : List ℕ) : Type 0 where
  pub all : w.settings.first ≡ false
  pub images : of_images v ≡ of_images (asking extent.Whole w)
  pub status : ℕ
  pub printed : Answers (request.Explore (asking extent.Whole w)) files report status
  pub has : HaveReport files report given

-- `why --report` prints of it what `why` prints of its programs, with the same status; and no command refuses it as no
-- report, where it has no more than 1 GiB
pub record WhyOfReportIsWhy : Type 0 where
  pub same : (v w : OptionWords) (files given : Files) (report bytes others : List ℕ) (status ended : ℕ) → IsOfRun v w files given report
      → Answers (request.Why (asking extent.Whole w)) files bytes status → Answers (request.Retold v retelling.Causes) given others ended
      → (others ≡ bytes) × (ended ≡ status)
  pub taken : (t : Retelling) (v w : OptionWords) (files given : Files) (report : List ℕ) (refusal : Refusal) → IsOfRun v w files given report
      → length report ≤ 2 ^ 30 → RefusesToAct (request.Retold v t) given refusal → refusal.code ≢ Request asked.NotReport

-- and `page --report` the page that `page` prints of its programs
abbrev pub PageOfReportIsPage : Type 0
PageOfReportIsPage = (v w : OptionWords) (files given : Files) (report bytes others : List ℕ) (status ended : ℕ) → IsOfRun v w files given report
    → Answers (request.Page (asking extent.Whole w)) files bytes status → Answers (request.Retold v retelling.Page) given others ended
    → (others ≡ bytes) × (ended ≡ status)

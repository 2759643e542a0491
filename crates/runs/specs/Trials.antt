-- What is kept of the runs of a cure: what a run finds, and what the text so far comes to.
use Rattle.std.specs.Prelude.{ℕ, ◌≡◌, List, ◌++◌, length, Option}
use Rattle.logfmt.specs.Bounds.{LogValue}
use Rattle.checker.specs.Checker.{CheckerValue}
use Rattle.losses.specs.Places.{AreWindows}
use Rattle.losses.specs.declared.cure.failure.Failure.{Failure}
use Rattle.losses.specs.FailureWindows.{windows_in, HoldNoFlush}
use Rattle.request.specs.declared.any_losses.AnyLosses.{AnyLosses}
use Rattle.request.specs.declared.settings.Settings.{Settings}
use Rattle.runs.specs.Cured.{FailAs, Finds, TellsRounds}

-- the failures of a run of a log by its images, of which the windows lie in the log and hold no flush entry
pub record HasFailures (s : Settings) (checkers : List CheckerValue) (value : LogValue) (fs : List Failure) : Type 0 where
  pub fail : FailAs s checkers value fs
  pub inside : AreWindows (length value.entries) (windows_in fs)
  pub calm : HoldNoFlush value.entries (windows_in fs)

-- what a run of a log finds: its failures, how a cure begins with it, and how one ends
pub record IsFound (o : Option AnyLosses) (s : Settings) (checkers : List CheckerValue) (value : LogValue) (fs : List Failure) (begin last : List ℕ) : Type 0 where
  pub finds : Finds o s checkers value fs begin last
  pub inside : AreWindows (length value.entries) (windows_in fs)
  pub calm : HoldNoFlush value.entries (windows_in fs)

-- the same, however a cure begins with it
abbrev pub HasFound : Option AnyLosses → Settings → List CheckerValue → LogValue → List Failure → List ℕ → Type 0
HasFound o s checkers value fs last = (begin : List ℕ) × IsFound o s checkers value fs begin last

-- with what is told of rounds from a log and a number on, the text so far tells of all rounds
pub record LeadsOn (o : Option AnyLosses) (s : Settings) (checkers : List CheckerValue) (first : LogValue) (old : List ℕ) (number : ℕ) (value : LogValue) (now : List ℕ) : Type 0 where
  pub leads : (rest : List ℕ) → TellsRounds o s checkers value number rest → (text : List ℕ) × (now ++ rest ≡ old ++ text) × TellsRounds o s checkers first 1 text

-- what was appended tells of all rounds
pub record TellsOn (o : Option AnyLosses) (s : Settings) (checkers : List CheckerValue) (first : LogValue) (old new : List ℕ) : Type 0 where
  pub text : List ℕ
  pub appended : new ≡ old ++ text
  pub tells : TellsRounds o s checkers first 1 text

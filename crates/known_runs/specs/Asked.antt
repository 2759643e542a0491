-- What is asked of records of a program of the user's.
use Rattle.std.specs.Prelude.{ℕ, List}
use Rattle.logfmt.specs.Bounds.{LogValue}
use Rattle.losses.specs.declared.found.Losses.{Losses}
use Rattle.case_runs.specs.Cuts.{case_cuts}
use Rattle.known.specs.declared.found.Stops.{Stops}
use Rattle.request.specs.declared.any_losses.AnyLosses.{AnyLosses}
use Rattle.request.specs.declared.settings.Settings.{Settings}
use Rattle.request.specs.Source.{Recording}
use Rattle.known_runs.specs.declared.asked.KnownQuestion.{KnownQuestion}

-- a recording, the bytes of the text of records, what is asked of losses, where the search of a cut is to end, and the options
pub record KnownAsked : Type 0 where
  pub text : Recording
  pub records : List ℕ
  pub losses : AnyLosses
  pub stops : Stops
  pub settings : Settings

abbrev pub asked_of : KnownQuestion → KnownAsked
asked_of q = record { text = q.recording.now; records = q.records.now; losses = q.losses; stops = q.stops; settings = q.options.now }

-- whether parts may be torn, how many, and, if that is bounded, how many may not be whole
abbrev pub asked_losses : KnownAsked → Losses
asked_losses a = record { tears = a.settings.tears; torn = a.losses.torn; lost = a.losses.at_most }

-- the cuts at which cases are looked for
abbrev pub asked_cuts : KnownAsked → LogValue → List ℕ
asked_cuts a value = case_cuts a.losses.at_most a.settings.cuts value.entries

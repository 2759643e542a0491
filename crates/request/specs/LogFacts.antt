-- What notes say of a log, as it is by itself.
use Rattle.std.specs.Prelude.{◌≡◌, length, count_by, IfSome}
use Rattle.logfmt.specs.Bounds.{LogValue}
use Rattle.epochs.specs.Cuts.{cuts_of}
use Rattle.request.specs.declared.facts.of_log.LogFacts.{LogFacts}
use Rattle.request.specs.declared.settings.Settings.{Settings}
use Rattle.request.specs.Source.{Recording, IsLogOf}
use Rattle.request.specs.Large.{is_large}
use Rattle.request.specs.Forced.{is_forced_entry}
use Rattle.request.specs.Flushes.{is_flush_entry}
use Rattle.request.specs.Promises.{ArePromises}

-- of the log that is asked for of a recording: how many entries no image loses as a whole, how many have FUA, how many are flush
-- entries, how many cuts are wanted, and which marks promise what nothing made durable
pub record AreLogFacts (text : Recording) (s : Settings) (facts : LogFacts) : Type 0 where
  pub value : LogValue
  pub reads : IsLogOf text s value
  pub large : facts.large ≡ count_by (is_large s.bound) value.entries
  pub forced : facts.forced ≡ count_by is_forced_entry value.entries
  pub flushes : facts.flushes ≡ count_by is_flush_entry value.entries
  pub cuts : facts.cuts ≡ length (cuts_of s.cuts value.entries)
  pub promises : IfSome facts.promises (ArePromises value.entries)

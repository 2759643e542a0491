-- What holds of raw logs as a whole, and of what is imported of them.
use Rattle.std.specs.Prelude.{ℕ, ◌*◌, ◌≡◌, ◌≤◌, List, length}
use Rattle.base.specs.Sizes.{byte_limit, most_log_bytes, unit_limit}
use Rattle.base.specs.declared.limits.Limits.{Limits}
use Rattle.base.specs.declared.causes.LogCause.{LogCause}
use Rattle.logfmt.specs.declared.entry.Entry.{Entry}
use Rattle.logfmt.specs.Bounds.{LogValue, AreBytes, place, units_of}
use Rattle.logfmt.specs.LogText.{LogText}
use Rattle.raw_log.specs.Raw.{RawText}
use Rattle.raw_log.specs.Faults.{FirstRawFault}
use Rattle.raw_log.specs.Imported.{IsImportable, IsImported, imported_log}

-- bytes are a raw log of one size of sectors and of one list of entries
abbrev pub RawOfOneLog : Type 0
RawOfOneLog = (bytes : List ℕ) (k l : ℕ) (es fs : List Entry) → RawText k bytes es → RawText l bytes fs → (k ≡ l) × (es ≡ fs)

-- a log is a raw log with sectors of 512 bytes, of the same entries, which can be imported where they end within the limits and have
-- no more units
abbrev pub LogIsRaw : Type 0
LogIsRaw =
    (bytes : List ℕ) (log : LogValue) (limits : Limits) → LogText bytes log
    → RawText 1 bytes log.entries × (512 * place log.entries (length log.entries) ≤ byte_limit limits
    → units_of log.entries ≤ unit_limit limits → IsImportable 1 log.sectors limits log.entries)

-- and of the raw logs with such sectors that can be imported each is a log, if it isn't too long, whatever its device held before
abbrev pub RawIsLog : Type 0
RawIsLog =
    (bytes : List ℕ) (log : LogValue) (limits : Limits) → RawText 1 bytes log.entries → IsImportable 1 log.sectors limits log.entries
    → length bytes ≤ most_log_bytes → length log.initial ≤ 512 * log.sectors → AreBytes log.initial → LogText bytes log

-- what is imported of a log with sectors of 512 bytes is a text of that log
abbrev pub LogIsKept : Type 0
LogIsKept =
    (bytes text : List ℕ) (log : LogValue) (limits : Limits) → LogText bytes log → IsImported bytes log.sectors limits text
    → LogText text log

-- what is imported is a text of the log of the raw log's entries
abbrev pub ImportedIsText : Type 0
ImportedIsText =
    (k sectors : ℕ) (limits : Limits) (bytes text : List ℕ) (es : List Entry) → RawText k bytes es → IsImported bytes sectors limits text
    → LogText text (imported_log k sectors es)

-- one text is imported of bytes
abbrev pub OneImport : Type 0
OneImport =
    (bytes text other : List ℕ) (sectors : ℕ) (limits : Limits) → IsImported bytes sectors limits text → IsImported bytes sectors limits other
    → text ≡ other

-- no check fails at a raw log of entries that can be imported
abbrev pub RawHasNoFault : Type 0
RawHasNoFault =
    (k sectors : ℕ) (limits : Limits) (bytes : List ℕ) (es : List Entry) (c : LogCause) (at : ℕ) → RawText k bytes es
    → IsImportable k sectors limits es → ¬ (FirstRawFault bytes sectors limits c at)

-- nor at bytes of which a text is imported
abbrev pub ImportedHasNoFault : Type 0
ImportedHasNoFault =
    (bytes text : List ℕ) (sectors : ℕ) (limits : Limits) (c : LogCause) (at : ℕ) → IsImported bytes sectors limits text
    → ¬ (FirstRawFault bytes sectors limits c at)

-- the first fault of bytes for a device within limits is one
abbrev pub OneRawFault : Type 0
OneRawFault =
    (bytes : List ℕ) (sectors : ℕ) (limits : Limits) (c d : LogCause) (s t : ℕ) → FirstRawFault bytes sectors limits c s
    → FirstRawFault bytes sectors limits d t
    → (c ≡ d) × (s ≡ t)

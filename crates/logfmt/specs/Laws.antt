-- What holds of the texts of logs as a whole: `read` and `write` lead back and forth.
use Rattle.std.specs.Prelude.{ℕ, ◌≡◌, ◌≤◌, List, length}
use Rattle.base.specs.Sizes.{byte_limit, unit_limit}
use Rattle.base.specs.declared.limits.Limits.{Limits}
use Rattle.base.specs.declared.causes.LogCause.{LogCause}
use Rattle.logfmt.specs.Bounds.{LogValue, IsLog, AreRecorded, units_of}
use Rattle.logfmt.specs.LogText.{LogText, canonical_text}
use Rattle.logfmt.specs.Faults.{FirstFault}

-- a text is the text of at most one log for a device with what it held before
abbrev pub TextOfOneLog : Type 0
TextOfOneLog = (bytes : List ℕ) (a b : LogValue) → LogText bytes a → LogText bytes b → a.sectors ≡ b.sectors → a.initial ≡ b.initial → a ≡ b

-- the canonical text of a log as it is recorded is a text of it
abbrev pub CanonicalIsText : Type 0
CanonicalIsText = (log : LogValue) → IsLog log → AreRecorded log.entries → LogText (canonical_text log.entries) log

-- a log that is read from the canonical text of such a log, for the same device with the same initial content, is that log
abbrev pub CanonicalReadsBack : Type 0
CanonicalReadsBack =
    (log read : LogValue) → IsLog log → AreRecorded log.entries → LogText (canonical_text log.entries) read → read.sectors ≡ log.sectors
    → read.initial ≡ log.initial → read ≡ log

-- no check fails at a text of a log that is no longer, and has no more units, than the limits allow
abbrev pub TextHasNoFault : Type 0
TextHasNoFault =
    (bytes : List ℕ) (log : LogValue) (limits : Limits) (cause : LogCause) (at : ℕ) → LogText bytes log → length bytes ≤ byte_limit limits
    → units_of log.entries ≤ unit_limit limits → ¬ (FirstFault bytes log.sectors limits cause at)

-- the first fault of bytes for a device, within the same limits, is one
abbrev pub OneFault : Type 0
OneFault =
    (bytes : List ℕ) (sectors : ℕ) (limits : Limits) (c d : LogCause) (s t : ℕ) → FirstFault bytes sectors limits c s → FirstFault bytes sectors limits d t
    → (c ≡ d) × (s ≡ t)

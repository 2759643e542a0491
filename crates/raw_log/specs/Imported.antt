-- What is imported of a raw log: its entries, in sectors of 512 bytes.
use Rattle.std.specs.Prelude.{ℕ, ◌*◌, ◌≡◌, ◌≤◌, List, [], length, map}
use Rattle.base.specs.Sizes.{byte_limit, raw_limit, unit_limit}
use Rattle.base.specs.declared.limits.Limits.{Limits}
use Rattle.logfmt.specs.declared.entry.Entry.{Entry}
use Rattle.logfmt.specs.Bounds.{LogValue, IsLog, AreRecorded, place, units_of}
use Rattle.logfmt.specs.LogText.{canonical_text}
use Rattle.raw_log.specs.Raw.{RawText, bytes_in}

-- an entry of a raw log, of which each sector is k sectors of 512 bytes: the same bytes at the same places of the device
abbrev pub entry_of_raw : ℕ → Entry → Entry
entry_of_raw k e = record e { sector = k * e.sector; count = k * e.count }

-- the log of these entries, for a device of that many sectors of 512 bytes, of which nothing is known to have been written before
abbrev pub imported_log : ℕ → ℕ → List Entry → LogValue
imported_log k sectors es = record { sectors = sectors; entries = map (entry_of_raw k) es; initial = [] }

-- the entries can be imported: what comes out is a log within these limits, and so are the bytes of the raw one that they need
pub record IsImportable (k sectors : ℕ) (limits : Limits) (es : List Entry) : Type 0 where
  pub log : IsLog (imported_log k sectors es)
  pub size : 512 * place (imported_log k sectors es).entries (length (imported_log k sectors es).entries) ≤ byte_limit limits
  pub units : units_of (imported_log k sectors es).entries ≤ unit_limit limits
  pub recorded : AreRecorded (imported_log k sectors es).entries
  pub need : bytes_in k (place es (length es)) ≤ raw_limit limits

-- the text is the canonical text of the log that is imported of these bytes
pub record IsImported (bytes : List ℕ) (sectors : ℕ) (limits : Limits) (text : List ℕ) : Type 0 where
  pub k : ℕ
  pub entries : List Entry
  pub raw : RawText k bytes entries
  pub importable : IsImportable k sectors limits entries
  pub same : text ≡ canonical_text (imported_log k sectors entries).entries

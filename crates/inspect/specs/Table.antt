-- A log as a table (docs/OUTPUT.md, The text of `log`).
use Rattle.std.specs.Prelude.{ℕ, ◌≡◌, List}
use Rattle.base.specs.declared.refusal.Refusal.{Refusal}
use Rattle.base.specs.Refusals.{memory_refusal}
use Rattle.logfmt.specs.Bounds.{LogValue}
use Rattle.crash_text.specs.LogTable.{log_table}
use Rattle.request.specs.declared.settings.Settings.{Settings}
use Rattle.request.specs.Source.{Recording, IsLogOf, RefusesLog}

-- the bytes are the table of the log that the text is
pub record IsTable (text : Recording) (s : Settings) (bytes : List ℕ) : Type 0 where
  pub value : LogValue
  pub reads : IsLogOf text s value
  pub shown : bytes ≡ log_table value.entries

-- a log is refused for its first fault; or for want of memory
pub data RefusesTable (text : Recording) (s : Settings) : Refusal → Type 0 where
  for_log : (r : Refusal) → RefusesLog text s r → RefusesTable text s r
  for_memory : (value : LogValue) → IsLogOf text s value → RefusesTable text s memory_refusal

-- What the command `import` answers (docs/LOG-FORMAT.md, Importing a raw log).
use Rattle.std.specs.Prelude.{ℕ, List}
use Rattle.base.specs.Sizes.{sector_limit}
use Rattle.base.specs.declared.limits.Limits.{Limits}
use Rattle.base.specs.declared.causes.LogCause.{LogCause}
use Rattle.base.specs.declared.causes.LogCause.TheVariants as log
use Rattle.base.specs.declared.refusal.Refusal.{Refusal}
use Rattle.raw_log.specs.Faults.{FirstRawFault}
use Rattle.request.specs.Source.{log_refusal}

-- within these limits a raw log is refused for its first fault, for the largest device; or for want of memory
pub data RefusesImport (limits : Limits) (raw : List ℕ) : Refusal → Type 0 where
  with_raw_fault : (cause : LogCause) (at : ℕ) → FirstRawFault raw (sector_limit limits) limits cause at → RefusesImport limits raw (log_refusal cause at)
  no_raw_memory : RefusesImport limits raw (log_refusal log.Memory 0)

-- The first bytes of a long log, which are read of it (docs/LOG-FORMAT.md, Limits).
use Rattle.std.specs.Prelude.{ℕ, ◌≡◌, ◌<◌, ◌≤◌, List, length, take}
use Rattle.base.specs.Sizes.{byte_limit}
use Rattle.base.specs.declared.causes.LogCause.TheVariants as cause
use Rattle.base.specs.declared.limits.Limits.{Limits}
use Rattle.logfmt.specs.Faults.{FirstFault}
use Rattle.input_files.specs.declared.kind.FileKind.TheVariants as kind
use Rattle.input_files.specs.Kinds.{read_of}

-- the bytes that are read of a log within some limits
abbrev pub read_log : Limits → List ℕ → List ℕ
read_log limits bytes = take (read_of (kind.Log limits)) bytes

-- a log that isn't too long is read whole
abbrev pub ShortLogIsRead : Type 0
ShortLogIsRead = (limits : Limits) (bytes : List ℕ) → length bytes ≤ byte_limit limits → read_log limits bytes ≡ bytes

-- a longer one passes the limit, and so does what is read of it
abbrev pub LongLogIsRefusedAlike : Type 0
LongLogIsRefusedAlike =
    (limits : Limits) (bytes : List ℕ) (sectors : ℕ) → byte_limit limits < length bytes
    → FirstFault bytes sectors limits cause.Limit 0 × FirstFault (read_log limits bytes) sectors limits cause.Limit 0

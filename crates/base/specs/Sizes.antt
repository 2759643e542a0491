-- How large logs and devices may be (docs/LOG-FORMAT.md, Limits): usually, and with `--large`.
use Rattle.std.specs.Prelude.{ℕ}
use Rattle.base.specs.declared.limits.Limits.{Limits}
use Rattle.base.specs.declared.limits.Limits.TheVariants as limits

-- the most sectors that any device has
abbrev pub most_sectors : ℕ
most_sectors = 33554432

-- the most bytes that any log has
abbrev pub most_log_bytes : ℕ
most_log_bytes = 1073741824

-- the most units that any log has: sectors that it writes and discards
abbrev pub most_units : ℕ
most_units = 2097152

-- the most sectors of a device within these limits
abbrev pub sector_limit : Limits → ℕ
sector_limit limits.Usual = 16384
sector_limit limits.Large = most_sectors

-- the most bytes of a log within these limits
abbrev pub byte_limit : Limits → ℕ
byte_limit limits.Usual = 67108864
byte_limit limits.Large = most_log_bytes

-- the most units of a log within these limits
abbrev pub unit_limit : Limits → ℕ
unit_limit limits.Usual = 262144
unit_limit limits.Large = most_units

-- the most bytes of a raw log that its entries may need within these limits
abbrev pub raw_limit : Limits → ℕ
raw_limit limits.Usual = 201326592
raw_limit limits.Large = most_log_bytes

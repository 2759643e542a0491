-- The number by which a report tells the initial content of a log (docs/OUTPUT.md).
use Rattle.std.specs.Prelude.{ℕ, ◌%◌, ◌^◌, ◌==◌, if◌then◌else◌, length, Option, Some, None}
use Rattle.lanes.specs.Sector.{mix, horner}
use Rattle.logfmt.specs.Bounds.{LogValue}
use Rattle.logfmt.specs.Initial.{initial_sector}

-- the mix of what sector s held
abbrev pub initial_mix : LogValue → ℕ → ℕ
initial_mix log s = mix (initial_sector log.initial s)

-- the mixes of all sectors of the device, joined as the columns of a sector are; none where no initial content is given
unfoldable pub initial_number : LogValue → Option ℕ
initial_number log = if length log.initial == 0 then None else Some (horner (initial_mix log) log.sectors % 2 ^ 64)

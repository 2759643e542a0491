use Rattle.std.proofs.Common.{◌≡◌, ◌++◌, string_bytes}
use Rattle.std.specs.List.{flat_map, range_with_len}
use Rattle.crash_text.specs.Sectors.{sector_at}
use Rattle.crash_text.proofs.sector.put_differences.Given as goal

abbrev pub invariant-loop-sector : goal.invariant-loop-sector
invariant-loop-sector g l = string_bytes l.out ≡ string_bytes l.initial.out ++ flat_map (sector_at (g.W.Device.content l.whole) (g.I.Device.content l.image)) (range_with_len 0 l.sector)

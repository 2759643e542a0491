use Rattle.std.proofs.Common.{◌≡◌, ◌++◌, length, take}
use Rattle.std.specs.List.{flat_map}
use Rattle.logfmt.specs.LogText.{super_sector, entry_sectors}
use Rattle.logfmt.proofs.writer.write.Given as goal

abbrev pub invariant-loop-entry : goal.invariant-loop-entry
invariant-loop-entry l =
    l.out.items ≡ super_sector (length l.entries) ++ flat_map entry_sectors (take l.entry-index l.entries)

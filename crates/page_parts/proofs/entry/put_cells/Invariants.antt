use Rattle.std.proofs.Common.{◌≡◌, ◌++◌, string_bytes}
use Rattle.std.specs.List.{flat_map, range_with_len}
use Rattle.page_parts.specs.Entries.{place_at}
use Rattle.page_parts.proofs.entry.put_cells.Given as goal

abbrev pub invariant-loop-step : goal.invariant-loop-step
invariant-loop-step l =
    string_bytes l.out ≡ string_bytes l.initial.out ++ flat_map (place_at l.lacking.of l.logged.log.now.entries l.lacking.program l.lacking.flushes.now) (range_with_len l.from l.step)

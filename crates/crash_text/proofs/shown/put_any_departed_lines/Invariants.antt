use Rattle.std.proofs.Common.{◌≡◌, ◌++◌, take, string_bytes}
use Rattle.std.specs.List.{flat_map}
use Rattle.crash_text.specs.AnyShown.{any_departed_line}
use Rattle.crash_text.proofs.shown.put_any_departed_lines.Given as goal

abbrev pub invariant-loop-departure : goal.invariant-loop-departure
invariant-loop-departure l = string_bytes l.out ≡ string_bytes l.initial.out ++ flat_map (any_departed_line l.entries l.cut) (take l.departure-index l.departures)

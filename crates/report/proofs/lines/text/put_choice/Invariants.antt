use Rattle.std.proofs.Common.{◌≡◌, ◌++◌, take, string_bytes}
use Rattle.std.specs.List.{flat_map}
use Rattle.report.specs.LineText.{next_departure_text}
use Rattle.report.proofs.lines.text.put_choice.Given as goal

abbrev pub invariant-loop-departure : goal.invariant-loop-departure
invariant-loop-departure l =
    string_bytes l.out ≡ (string_bytes l.initial.out) ++ flat_map (next_departure_text l.by) (take l.departure-index l.rest)

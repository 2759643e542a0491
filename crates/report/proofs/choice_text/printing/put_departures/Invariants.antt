use Rattle.std.proofs.Common.{◌≡◌, ◌++◌, map, take, string_bytes}
use Rattle.std.specs.List.{flat_map}
use Rattle.choices.specs.Named.{name_of}
use Rattle.report.specs.ChoiceText.{next_name_text}
use Rattle.report.proofs.choice_text.printing.put_departures.Given as goal

abbrev pub invariant-loop-departure : goal.invariant-loop-departure
invariant-loop-departure l = string_bytes l.out ≡ (string_bytes l.initial.out) ++ flat_map (next_name_text l.by) (map name_of (take l.departure-index l.rest))

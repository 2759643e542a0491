use Rattle.std.proofs.Common.{◌≡◌, ◌++◌, take, string_bytes}
use Rattle.std.specs.List.{flat_map}
use Rattle.report.specs.ChoiceText.{next_name_text}
use Rattle.report.proofs.choice_text.printing.put_names.Given as goal

abbrev pub invariant-loop-name : goal.invariant-loop-name
invariant-loop-name l = string_bytes l.out ≡ (string_bytes l.initial.out) ++ flat_map (next_name_text l.by) (take l.name-index l.rest)

use Rattle.std.proofs.Common.{◌≡◌, map, take}
use Rattle.std.specs.Option.{option_map}
use Rattle.std.specs.List.{filter_map}
use Rattle.commands.proofs.action.programs_of.Given as goal

abbrev pub invariant-loop-file : goal.invariant-loop-file
invariant-loop-file l = map (λ f. f.items) l.programs.items ≡ filter_map (option_map (λ f. f.items)) (take l.file-index l.files)

use Rattle.std.proofs.Common.{◌≡◌, take, string_bytes}
use Rattle.std.specs.List.{flat_map}
use Rattle.inspect.specs.Survey.{cut_line}
use Rattle.inspect.proofs.looks.images_command.text_of.Given as goal

abbrev pub invariant-loop-cut : goal.invariant-loop-cut
invariant-loop-cut l = string_bytes l.out ≡ flat_map (cut_line l.plan l.bound l.tears) (take l.cut-index l.cut-items)

use Rattle.std.proofs.Common.{◌≡◌, ◌++◌, take, string_bytes}
use Rattle.std.specs.List.{flat_map}
use Rattle.known_runs.specs.Text.{cut_lines}
use Rattle.known_runs.proofs.lines.put_cuts.Given as goal

abbrev pub invariant-loop-cut : goal.invariant-loop-cut
invariant-loop-cut l = string_bytes l.out ≡ string_bytes l.initial.out ++ flat_map (cut_lines l.fn.log l.fn.by l.fn.tears) (take l.cut-index l.found)

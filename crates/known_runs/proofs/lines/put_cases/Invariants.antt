use Rattle.std.proofs.Common.{◌≡◌, ◌++◌, take, string_bytes}
use Rattle.std.specs.List.{flat_map}
use Rattle.known_runs.specs.Text.{case_line}
use Rattle.known_runs.proofs.lines.put_cases.Given as goal

abbrev pub invariant-loop-case : goal.invariant-loop-case
invariant-loop-case l = string_bytes l.out ≡ string_bytes l.initial.out ++ flat_map (case_line l.fn.site.at l.fn.site.tears) (take l.case-index l.failing)

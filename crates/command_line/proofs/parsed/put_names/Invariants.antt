use Rattle.std.proofs.Common.{◌≡◌, ◌++◌, map, take, string_bytes}
use Rattle.command_line.proofs.parsed.put_names.Given as goal

abbrev pub invariant-loop-name : goal.invariant-loop-name
invariant-loop-name l = map string_bytes l.files.items ≡ map string_bytes l.initial.files.items ++ map (λ w. w.now) (take l.name-index l.names)

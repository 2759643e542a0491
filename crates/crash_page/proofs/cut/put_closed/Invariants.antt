use Rattle.std.proofs.Common.{◌≡◌, ◌++◌, false, map, take, string_bytes}
use Rattle.std.specs.List.{flat_map}
use Rattle.crash_page.specs.Groups.{group_text}
use Rattle.crash_page.proofs.cut.put_closed.Given as goal

abbrev pub invariant-loop-group : goal.invariant-loop-group
invariant-loop-group l = string_bytes l.out ≡ string_bytes l.initial.out ++ flat_map (group_text l.run.starts.now (map (λ o. o.now) l.outcomes) false) (take l.group-index l.groups)

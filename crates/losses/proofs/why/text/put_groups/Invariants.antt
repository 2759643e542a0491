use Rattle.std.proofs.Common.{◌≡◌, ◌++◌, map, take, string_bytes}
use Rattle.std.specs.List.{flat_map}
use Rattle.losses.specs.WhyText.{group_line}
use Rattle.losses.proofs.why.text.put_groups.Given as goal

abbrev pub invariant-loop-group : goal.invariant-loop-group
invariant-loop-group l = string_bytes l.out ≡ string_bytes l.initial.out ++ flat_map (group_line l.by l.starts (map (λ o. o.now) l.outcomes)) (take l.group-index l.groups)

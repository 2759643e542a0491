use Rattle.std.proofs.Common.{◌≡◌, ◌++◌, map, string_bytes}
use Rattle.std.specs.List.{flat_map, range_with_len}
use Rattle.case_text.specs.Collected.{told_value}
use Rattle.case_text.specs.Why.{group_at}
use Rattle.case_text.proofs.grouped.put_groups.Given as goal

abbrev pub invariant-loop-place : goal.invariant-loop-place
invariant-loop-place l = string_bytes l.out ≡ string_bytes l.initial.out ++ flat_map (group_at (map told_value l.told)) (range_with_len 0 l.place)

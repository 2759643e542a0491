use Rattle.std.proofs.Common.{◌≡◌, ◌≤◌, ◌<◌, ◌-◌, ◌++◌, length, string_bytes}
use Rattle.std.specs.List.{flat_map}
use Rattle.inspect.specs.CutLayout.{cut_ranges, cut_part_count, range_text}
use Rattle.inspect.proofs.looks.cut_layout.put_cut_layout.Given as goal

abbrev pub invariant-loop-left : goal.invariant-loop-left
invariant-loop-left l =
    (string_bytes l.out ++ flat_map range_text (cut_ranges l.left l.from l.last l.rest)
    ≡ string_bytes l.initial.out ++ flat_map range_text (cut_ranges (cut_part_count l.risks l.parts) l.first l.last l.risks))
    × (1 ≤ l.left) × (1 < l.left → l.left ≤ length l.rest) × (length l.rest ≤ 65537)

abbrev pub decreases-loop-left : goal.decreases-loop-left
decreases-loop-left l = l.left - 1

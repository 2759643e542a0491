use Rattle.std.proofs.Common.{◌≡◌, ◌++◌, string_bytes}
use Rattle.std.specs.List.{flat_map, range_with_len}
use Rattle.page_parts.specs.Entries.{row_text}
use Rattle.page_parts.proofs.entry.put_rows.Given as goal

abbrev pub invariant-loop-number : goal.invariant-loop-number
invariant-loop-number l = string_bytes l.out ≡ string_bytes l.initial.out ++ flat_map (row_text l.log.entries) (range_with_len 0 l.number)

use Rattle.std.proofs.Common.{◌≡◌, string_bytes}
use Rattle.std.specs.List.{flat_map, range_with_len}
use Rattle.crash_text.specs.LogTable.{line_at}
use Rattle.crash_text.proofs.table.log_table.Given as goal

abbrev pub invariant-loop-number : goal.invariant-loop-number
invariant-loop-number l = string_bytes l.out ≡ flat_map (line_at l.fn.log.entries) (range_with_len 0 l.number)

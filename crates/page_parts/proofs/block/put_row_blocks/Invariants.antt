use Rattle.std.proofs.Common.{◌≡◌, ◌++◌, string_bytes}
use Rattle.std.specs.List.{flat_map, range_with_len}
use Rattle.page_parts.specs.Blocks.{row_at}
use Rattle.page_parts.proofs.block.put_row_blocks.Given as goal

abbrev pub invariant-loop-number : goal.invariant-loop-number
invariant-loop-number l =
    string_bytes l.out ≡ string_bytes l.initial.out ++ flat_map (row_at l.lacking.of l.logged.log.now.entries l.lacking.program l.lacking.flushes.now l.cuts) (range_with_len 0 l.number)

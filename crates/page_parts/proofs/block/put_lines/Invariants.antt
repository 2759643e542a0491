use Rattle.std.proofs.Common.{◌≡◌, ◌++◌, string_bytes}
use Rattle.std.specs.List.{flat_map, range_with_len}
use Rattle.page_parts.specs.Blocks.{line_text}
use Rattle.page_parts.proofs.block.put_lines.Given as goal

abbrev pub invariant-loop-step : goal.invariant-loop-step
invariant-loop-step l = string_bytes l.out ≡ string_bytes l.initial.out ++ flat_map (line_text l.log.entries) (range_with_len l.from l.step)

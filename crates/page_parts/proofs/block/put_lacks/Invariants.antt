use Rattle.std.proofs.Common.{◌≡◌, ◌++◌, take, string_bytes}
use Rattle.std.specs.List.{flat_map}
use Rattle.page_parts.specs.Blocks.{block_lack}
use Rattle.page_parts.proofs.block.put_lacks.Given as goal

abbrev pub invariant-loop-flush : goal.invariant-loop-flush
invariant-loop-flush l = string_bytes l.out ≡ string_bytes l.initial.out ++ flat_map (block_lack l.of l.program l.block.from l.block.to) (take l.flush-index l.flushes)

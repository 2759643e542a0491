use Rattle.std.proofs.Common.{◌≡◌, ℕ, ◌+◌, ◌*◌, ◌++◌, string_bytes}
use Rattle.std.specs.List.{flat_map, range_with_len}
use Rattle.crash_text.specs.Rows.{pair_text}
use Rattle.crash_text.proofs.row.put_pairs.Given as goal

abbrev pub invariant-loop-pair : goal.invariant-loop-pair
invariant-loop-pair l = string_bytes l.out ≡ string_bytes l.initial.out ++ flat_map (λ (j : ℕ). pair_text l.bytes (16 * l.row + 2 * j)) (range_with_len 0 l.pair)

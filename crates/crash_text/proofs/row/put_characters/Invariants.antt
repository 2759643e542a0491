use Rattle.std.proofs.Common.{◌≡◌, ℕ, ◌+◌, ◌*◌, ◌++◌, slice_index, string_bytes}
use Rattle.std.specs.List.{flat_map, range_with_len}
use Rattle.crash_text.specs.Rows.{character_of}
use Rattle.crash_text.proofs.row.put_characters.Given as goal

abbrev pub invariant-loop-place : goal.invariant-loop-place
invariant-loop-place l = string_bytes l.out ≡ string_bytes l.initial.out ++ flat_map (λ (j : ℕ). character_of (slice_index l.bytes (16 * l.row + j))) (range_with_len 0 l.place)

use Rattle.std.specs.Prelude.{ℕ, ◌≡◌, ◌<◌, length, slice_index}
use Rattle.interp.specs.Cells.{known_byte}
use Rattle.interp.proofs.stack.known_bytes.Given as goal

abbrev pub invariant-loop-place : goal.invariant-loop-place
invariant-loop-place l =
    (length l.known ≡ 512) × ((k : ℕ) → k < l.place → slice_index l.known k ≡ known_byte l.wanted (slice_index l.bytes k) (slice_index l.marks k))

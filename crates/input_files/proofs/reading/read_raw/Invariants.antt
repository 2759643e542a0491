use Rattle.std.proofs.Common.{◌≡◌, ◌≤◌, length}
use Rattle.std.specs.Io.KnownBytes.{Consumes}
use Rattle.input_files.proofs.Reaching.{OfKnown}
use Rattle.input_files.proofs.reading.read_raw.Given as goal

abbrev pub invariant-loop-bytes : goal.invariant-loop-bytes
invariant-loop-bytes g l =
    (length l.bytes.items ≤ l.reach.needed) × Consumes (g.F.Read.remaining l.fn.file) (g.F.Read.remaining l.file) l.bytes.items
    × OfKnown (g.F.Read.remaining l.fn.file) l.reach × (l.reach.limits ≡ l.fn.limits)

abbrev pub decreases-loop-bytes : goal.decreases-loop-bytes
decreases-loop-bytes g l = l.reach.left

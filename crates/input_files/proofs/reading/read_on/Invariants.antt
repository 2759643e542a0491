use Rattle.std.proofs.Common.{◌≤◌, ℕ, List, Option, length}
use Rattle.std.specs.Io.KnownBytes.{Consumes}
use Rattle.input_files.proofs.reading.read_on.Given as goal

abbrev pub invariant-loop-turn : goal.invariant-loop-turn
invariant-loop-turn g l =
    (length l.bytes.items ≤ l.needed)
    × ((known : Option (List ℕ)) → Consumes known (g.F.Read.remaining l.initial.file) l.initial.bytes.items → Consumes known (g.F.Read.remaining l.file) l.bytes.items)

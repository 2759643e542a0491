use Rattle.std.proofs.Common.{◌≡◌, length, map, take, string_bytes}
use Rattle.input_files.specs.Reads.{AreRead, IsRead}
use Rattle.input_files.proofs.inputs.Inputs.read.Given as goal

abbrev pub invariant-loop-name : goal.invariant-loop-name
invariant-loop-name g l =
    AreRead l.command l.size.limits (IsRead g.S.FileSource.named g.S.File.Read.remaining) l.left (map string_bytes (take l.name-index l.names)) l.inputs.files l.inputs.lengths
    × (length l.inputs.lengths ≡ l.name-index)

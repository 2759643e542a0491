use Rattle.std.proofs.Common.{◌≡◌, take}
use Rattle.std.specs.List.{fold}
use Rattle.request.specs.Inputs.{with_byte}
use Rattle.request.proofs.inputs.with_bytes.Given as goal

abbrev pub invariant-loop-byte : goal.invariant-loop-byte
invariant-loop-byte l = l.joined ≡ fold with_byte l.number (take l.byte-index l.bytes)

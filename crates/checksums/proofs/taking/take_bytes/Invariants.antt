use Rattle.std.proofs.Common.{◌≡◌, take}
use Rattle.checksums.specs.Checksum.{checksum, coefficients}
use Rattle.checksums.proofs.taking.take_bytes.Given as goal

abbrev pub invariant-loop-byte : goal.invariant-loop-byte
invariant-loop-byte l = l.sum ≡ checksum (coefficients l.polynomial) l.register (take l.byte-index l.bytes)

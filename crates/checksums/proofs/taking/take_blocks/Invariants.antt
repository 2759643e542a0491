use Rattle.std.proofs.Common.{◌≡◌, ◌*◌, take}
use Rattle.checksums.specs.Checksum.{checksum, coefficients}
use Rattle.checksums.proofs.taking.take_blocks.Given as goal

abbrev pub invariant-loop-block : goal.invariant-loop-block
invariant-loop-block l = l.sum ≡ checksum (coefficients l.polynomial) l.register (take (16 * l.block) l.bytes)

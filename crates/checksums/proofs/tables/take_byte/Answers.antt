use Rattle.std.proofs.Common.{◌≡◌, ◌+◌, ◌*◌, ◌%◌, bit_xor, [], get_or, ◌∙◌, ap, arith}
use Rattle.checksums.specs.Checksum.{coefficients, after_bits}
use Rattle.checksums.proofs.Entries.{entry, byte_taken}
use Rattle.checksums.proofs.tables.take_byte.Goals as goal

pub returns : goal.returns
returns c =
    let p = coefficients c.args.polynomial in
    let rows = c.told-rows in
    let byte = c.ranges.byte.fits in
    let is : c.from-2.result ≡ bit_xor c.args.register c.args.byte % 256 =
    c.from-2.ensures ∙ ap (λ bytes. get_or bytes 0 0) c.to_le_bytes.ensures ∙ ap (λ x. bit_xor c.args.register x % 256) c.from.ensures in
    byte_taken p c.args.register c.args.byte (get_or (get_or c.args.rows.now 0 []) c.from-2.result 0) (omega arith)
    (entry p c.args.rows.now 0 c.from-2.result c.requires (omega arith) (omega arith) ∙ ap (after_bits p (8 * (0 + 1))) is)

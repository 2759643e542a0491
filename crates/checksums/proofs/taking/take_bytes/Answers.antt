use Rattle.std.proofs.Common.{◌∙◌, ap, take, get_or, sym}
use Rattle.std.proofs.lemmas.List.{take_more}
use Rattle.checksums.specs.Checksum.{coefficients, checksum}
use Rattle.checksums.proofs.Blocks.{nothing_taken, byte_after}
use Rattle.checksums.proofs.taking.take_bytes.Goals as goal

pub loop-byte-init : goal.loop-byte-init
loop-byte-init c = nothing_taken (coefficients c.args.polynomial) c.args.register

pub loop-byte-preserved : goal.loop-byte-preserved
loop-byte-preserved c =
    let p = coefficients c.args.polynomial in
    let bytes = c.args.bytes.now in
    let i = c.loop-byte.byte-index in
    c.take_byte-sum.ensures ∙ byte_after p c.args.register c.loop-byte.sum (get_or bytes i 0) (take i bytes) c.loop-byte.invariant
    ∙ ap (checksum p c.args.register) (sym (take_more bytes i 0 c.loop-byte-test.true))

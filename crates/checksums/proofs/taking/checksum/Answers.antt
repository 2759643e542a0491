use Rattle.std.proofs.Common.{◌*◌, ◌/◌, length, ◌∙◌}
use Rattle.checksums.specs.Checksum.{coefficients}
use Rattle.checksums.proofs.Blocks.{all_taken}
use Rattle.checksums.proofs.taking.checksum.Goals as goal

pub returns : goal.returns
returns c =
    c.take_bytes.ensures ∙ all_taken (coefficients c.args.polynomial) c.args.register c.take_blocks-sum.result (16 * (length c.args.bytes.now / 16)) c.args.bytes.now c.take_blocks-sum.ensures

use Rattle.std.proofs.Common.{◌∙◌}
use Rattle.checksums.specs.Checksum.{coefficients}
use Rattle.checksums.proofs.Blocks.{nothing_taken, block_after}
use Rattle.checksums.proofs.taking.take_blocks.Goals as goal

pub loop-block-init : goal.loop-block-init
loop-block-init c = nothing_taken (coefficients c.args.polynomial) c.args.register

pub loop-block-preserved : goal.loop-block-preserved
loop-block-preserved c =
    c.take_block-sum.ensures ∙ block_after (coefficients c.args.polynomial) c.args.register c.loop-block.sum c.loop-block.block c.args.bytes.now c.loop-block.invariant

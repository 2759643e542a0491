use Rattle.std.proofs.Common.{◌≡◌, ◌∙◌, ap, arith}
use Rattle.checksums.specs.Checksum.{checksum, coefficients}
use Rattle.helpers.specs.Answers.{device_bytes}
use Rattle.helpers.proofs.Summed.{none_summed, summed_more}
use Rattle.helpers.proofs.sums.sum_of.Goals as goal

pub pieces-init : goal.pieces-init
pieces-init g c = record {
  within = omega arith;
  so_far = none_summed (coefficients c.args.polynomial) c.args.register (g.D.Device.content c.args.device.now) c.args.position;
}

pub pieces-preserved : goal.pieces-preserved
pieces-preserved g c =
    let left = c.bytes_from-bytes.ensures.within in
    let more = c.pieces-test.true in
    record {
      within = omega (arith, left, more);
      so_far = c.checksum-sum.ensures ∙ summed_more (coefficients c.args.polynomial) c.args.register c.pieces.sum (g.D.Device.content c.args.device.now) c.args.position c.pieces.done c.bytes_from-bytes.result.now c.pieces.invariant.so_far c.bytes_from-bytes.ensures.bytes;
    }

pub returns : goal.returns
returns g c =
    let past = c.pieces-test.false in
    let within = c.pieces.invariant.within in
    let all : c.pieces.done ≡ c.args.count = omega (arith, past, within) in
    c.pieces.invariant.so_far
    ∙ ap (λ n. checksum (coefficients c.args.polynomial) c.args.register (device_bytes (g.D.Device.content c.args.device.now) c.args.position n)) all

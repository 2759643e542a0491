use Rattle.std.proofs.Common.{◌+◌, ◌-◌, ◌≤◌, ◌∙◌, ap, length, arith, rules}
use Rattle.helpers.proofs.CopiedBytes.{none_copied, more_copied, as_long}
use Rattle.helpers.proofs.copying.copy.Goals as goal

pub pieces-init : goal.pieces-init
pieces-init g c = record {
  within = omega arith;
  size = search rules;
  so_far = none_copied (g.D.Device.content c.args.device.now) c.args.position;
}

pub pieces-preserved : goal.pieces-preserved
pieces-preserved g c =
    let bytes = c.bytes_from-bytes.result.now in
    let k = c.pieces.done + length bytes - c.pieces.done in
    let within = c.pieces.invariant.within in
    let test = c.pieces-test.true in
    let fits = c.bytes_from-bytes.ensures.within in
    let all : c.pieces.done + length bytes ≤ length c.pieces.window = omega (arith, within, test, fits) in
    let size = as_long c.pieces.done k c.pieces.window c.copy_from_slice.new.self
    (omega (arith, within, all)) (ap length c.copy_from_slice.ensures.after ∙ (omega arith)) in
    record {
      within = omega (arith, all, size);
      size = size ∙ c.pieces.invariant.size;
      so_far = more_copied (g.D.Device.content c.args.device.now) c.args.position c.pieces.done k c.pieces.window bytes c.copy_from_slice.new.self
          within c.copy_from_slice.ensures.after c.pieces.invariant.so_far c.bytes_from-bytes.ensures.bytes;
    }

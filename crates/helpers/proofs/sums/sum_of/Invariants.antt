use Rattle.std.proofs.Common.{◌≡◌, ◌≤◌, ◌-◌}
use Rattle.checksums.specs.Checksum.{checksum, coefficients}
use Rattle.helpers.specs.Answers.{device_bytes}
use Rattle.helpers.proofs.sums.sum_of.Given as goal

abbrev pub invariant-pieces : goal.invariant-pieces
invariant-pieces g l = record {
  within : l.done ≤ l.count;
  so_far : l.sum ≡ checksum (coefficients l.polynomial) l.register (device_bytes (g.D.Device.content l.device) l.position l.done);
}

abbrev pub decreases-pieces : goal.decreases-pieces
decreases-pieces g l = l.count - l.done

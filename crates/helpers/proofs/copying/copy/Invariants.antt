use Rattle.std.proofs.Common.{◌≡◌, ◌≤◌, ◌-◌, length, take}
use Rattle.helpers.specs.Answers.{device_bytes}
use Rattle.helpers.proofs.copying.copy.Given as goal

abbrev pub invariant-pieces : goal.invariant-pieces
invariant-pieces g l = record {
  within : l.done ≤ length l.window;
  size : length l.window ≡ length l.initial.window;
  so_far : take l.done l.window ≡ device_bytes (g.D.Device.content l.device) l.position l.done;
}

abbrev pub decreases-pieces : goal.decreases-pieces
decreases-pieces g l = length l.window - l.done

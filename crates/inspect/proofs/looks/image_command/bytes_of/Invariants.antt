use Rattle.std.proofs.Common.{◌≡◌, take}
use Rattle.inspect.specs.Image.{sector_bytes}
use Rattle.inspect.proofs.looks.image_command.bytes_of.Given as goal

abbrev pub invariant-loop-number : goal.invariant-loop-number
invariant-loop-number g l = l.bytes.items ≡ sector_bytes (take l.number (g.D.Device.content l.device))

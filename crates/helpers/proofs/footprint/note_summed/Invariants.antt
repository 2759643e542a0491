use Rattle.std.proofs.Common.{◌≡◌, ◌/◌}
use Rattle.std.specs.List.{range_with_len}
use Rattle.helpers.specs.Footprint.{footprint_after, on_device}
use Rattle.helpers.proofs.footprint.note_summed.Given as goal

abbrev pub invariant-sectors : goal.invariant-sectors
invariant-sectors g l = l.footprint ≡ footprint_after l.fn.footprint (on_device (g.D.Device.content l.device) (range_with_len (l.position / 512) l.sector))

use Rattle.std.proofs.Common.{◌≡◌, true, false, ◌∙◌}
use Rattle.images.proofs.Tears.{none_departs}
use Rattle.images.proofs.versions.Versions.durable.Goals as goal

pub unreachable-requires : goal.unreachable-requires
unreachable-requires c = let bad : true ≡ false = c.in-None.ensures.torn ∙ none_departs _ in cc

-- A group that stands in where a list has no more.
use Rattle.std.proofs.Common.{refl, false, replicate}
use Rattle.ranges.specs.declared.group.Group.{Group}
use Rattle.ranges.specs.declared.group.Group.TheVariants as group

pub no_marks : Group
no_marks = group.Marked (record { written = replicate 8 false; all = refl })

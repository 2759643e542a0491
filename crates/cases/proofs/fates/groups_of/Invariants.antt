use Rattle.std.proofs.Common.{length}
use Rattle.cases.specs.Cases.{show_alike}
use Rattle.cases.specs.Sets.{fates_in, pieces_in}
use Rattle.cases.proofs.Grouped.{Made}
use Rattle.cases.proofs.fates.groups_of.Given as goal

abbrev pub invariant-left : goal.invariant-left
invariant-left l = Made (show_alike l.part l.unit (pieces_in l.pieces)) l.set l.rest l.groups.items

abbrev pub decreases-left : goal.decreases-left
decreases-left l = length (fates_in l.rest)

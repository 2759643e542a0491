use Rattle.std.proofs.Common.{length}
use Rattle.cases.proofs.Paths.{TakenSo}
use Rattle.cases.proofs.search.take_group.Given as goal

abbrev pub invariant-frames : goal.invariant-frames
invariant-frames l = TakenSo l.initial.sets.items l.initial.frames.items l.sets.items l.frames.items

abbrev pub decreases-frames : goal.decreases-frames
decreases-frames l = length l.frames.items

use Rattle.std.proofs.Common.{length}
use Rattle.cases.specs.Trees.{Program}
use Rattle.cases.specs.Search.{SameSearch, pending, subject_of}
use Rattle.cases.proofs.Paths.{PassedSo}
use Rattle.cases.proofs.search.Search.take_within.Given as goal

abbrev pub invariant-taking : goal.invariant-taking
invariant-taking l = SameSearch l.initial.self l.self × ((program : Program) → PassedSo (subject_of l.initial.self.asked program) l.initial.self l.self)

abbrev pub decreases-taking : goal.decreases-taking
decreases-taking l = length (pending l.self)

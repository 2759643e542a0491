use Rattle.std.proofs.Common.{◌≡◌}
use Rattle.images.specs.Changes.{changes_between}
use Rattle.images.proofs.changes.changes_of_cut.Given as goal

abbrev pub invariant-loop-number : goal.invariant-loop-number
invariant-loop-number l = l.sectors.items ≡ changes_between l.versions l.flush l.number

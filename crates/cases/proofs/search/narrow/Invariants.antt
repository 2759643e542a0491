use Rattle.std.proofs.Common.{◌≡◌, length, sum_by}
use Rattle.cases.specs.Sets.{fates_in}
use Rattle.cases.proofs.Narrowing.{NarrowedSo}
use Rattle.cases.proofs.search.narrow.Given as goal

abbrev pub invariant-deeper : goal.invariant-deeper
invariant-deeper g l = record {
  rows : l.rows ≡ l.initial.rows;
  so : NarrowedSo l.initial.rows (g.J.Judge.program l.judge) l.tears l.initial.sets.items l.initial.frames.items l.sets.items l.frames.items;
}

abbrev pub decreases-deeper : goal.decreases-deeper
decreases-deeper g l = sum_by (λ bits. length (fates_in bits)) l.sets.items

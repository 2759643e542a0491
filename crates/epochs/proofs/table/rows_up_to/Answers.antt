use Rattle.std.proofs.Common.{leb, leb-true, leb-false, arith, rules}
use Rattle.std.proofs.lemmas.List.Sorted.{IsPartitionPoint-from_clause, IsPartitionedBy-leb}
use Rattle.epochs.specs.declared.table.CutRow.{CutRow}
use Rattle.epochs.proofs.table.rows_up_to.Goals as goal

pub returns-clause-before : goal.returns-clause-before
returns-clause-before c =
    let parted = IsPartitionedBy-leb (λ (row : CutRow). row.start) _ c.args.part c.requires in
    let point = IsPartitionPoint-from_clause (λ (row : CutRow). leb row.start c.args.part) _ _ c.partition_point.ensures.partitioned parted (λ a r q k. search rules) in
    λ k d h. leb-true _ _ (point.0 k d (omega arith) h)

pub returns-clause-beyond : goal.returns-clause-beyond
returns-clause-beyond c =
    let parted = IsPartitionedBy-leb (λ (row : CutRow). row.start) _ c.args.part c.requires in
    let point = IsPartitionPoint-from_clause (λ (row : CutRow). leb row.start c.args.part) _ _ c.partition_point.ensures.partitioned parted (λ a r q k. search rules) in
    λ k d h lt. leb-false _ _ (point.1 k d h lt)

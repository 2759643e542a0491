use Rattle.std.proofs.Common.{sym, ◌∙◌, ap, take, length}
use Rattle.known.specs.Linked.{sectors_before}
use Rattle.known.proofs.Counting.{linked_more}
use Rattle.known.proofs.records.put_kept.Goals as goal

pub returns-clause-linked : goal.returns-clause-linked
returns-clause-linked c =
    let r = c.shared_of-shared.result in
    let own =
    sym (ap (take r) c.as_slice-sectors.ensures.value) ∙ c.shared_of-shared.ensures ∙ (λ i. take r (sectors_before (c.as_slice-before.ensures.value i) (length (c.as_slice-before.ensures.value i)))) in
    linked_more c.args.kept.now.items _ _ c.requires own c.in_ok-push.ensures.items

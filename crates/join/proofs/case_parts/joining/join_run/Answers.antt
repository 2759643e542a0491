use Rattle.join.proofs.CaseJoins.{slice_some, slice_few, slice_small, sorted_text, sorted_fault}
use Rattle.join.proofs.case_parts.joining.join_run.Goals as goal

pub join_row-requires-clause-some : goal.join_row-requires-clause-some
join_row-requires-clause-some c = slice_some c.args.part c.args.parts.now.items c.put_in_order.new.parts.items c.as_slice.result.now c.put_in_order.ensures.order c.as_slice.ensures.value c.requires.some

pub join_row-requires-clause-few : goal.join_row-requires-clause-few
join_row-requires-clause-few c = slice_few c.args.part c.args.parts.now.items c.put_in_order.new.parts.items c.as_slice.result.now c.put_in_order.ensures.order c.as_slice.ensures.value c.requires.few

pub join_row-requires-clause-small : goal.join_row-requires-clause-small
join_row-requires-clause-small c = slice_small c.args.part c.args.parts.now.items c.put_in_order.new.parts.items c.as_slice.result.now c.put_in_order.ensures.order c.as_slice.ensures.value c.requires.small

pub returns-in-Ok-clause-joined : goal.returns-in-Ok-clause-joined
returns-in-Ok-clause-joined c =
    sorted_text c.args.part c.args.parts.now.items c.put_in_order.new.parts.items c.as_slice.result.now c.put_in_order.ensures.order c.as_slice.ensures.value c.join_row.result c.join_row.ensures.joined

pub returns-in-Ok-clause-refused : goal.returns-in-Ok-clause-refused
returns-in-Ok-clause-refused c =
    sorted_fault c.args.part c.args.parts.now.items c.put_in_order.new.parts.items c.as_slice.result.now c.put_in_order.ensures.order c.as_slice.ensures.value c.join_row.result c.in-Ok.ensures.rising c.in-Ok.ensures.stable c.join_row.ensures.refused

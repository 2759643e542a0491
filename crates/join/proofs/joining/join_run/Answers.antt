use Rattle.join.specs.Reading.{PartRead}
use Rattle.join.proofs.Joins.{slice_some, slice_few, slice_all, sorted_text, sorted_apart}
use Rattle.join.proofs.joining.join_run.Goals as goal

pub join_row-requires-clause-some : goal.join_row-requires-clause-some
join_row-requires-clause-some c = slice_some c.args.parts.now.items c.put_in_order.new.parts.items c.as_slice.result.now c.put_in_order.ensures.order c.as_slice.ensures.value c.requires.some

pub join_row-requires-clause-few : goal.join_row-requires-clause-few
join_row-requires-clause-few c = slice_few c.args.parts.now.items c.put_in_order.new.parts.items c.as_slice.result.now c.put_in_order.ensures.order c.as_slice.ensures.value c.requires.few

pub join_row-requires-clause-lines : goal.join_row-requires-clause-lines
join_row-requires-clause-lines c =
    slice_all c.args.parts.now.items c.put_in_order.new.parts.items c.as_slice.result.now c.put_in_order.ensures.order c.as_slice.ensures.value (λ (r : PartRead). r.tally.lines) 1073741824 c.requires.lines

pub join_row-requires-clause-images : goal.join_row-requires-clause-images
join_row-requires-clause-images c =
    slice_all c.args.parts.now.items c.put_in_order.new.parts.items c.as_slice.result.now c.put_in_order.ensures.order c.as_slice.ensures.value (λ (r : PartRead). r.tally.images) 1073741824 c.requires.images

pub returns-in-Ok-clause-joined : goal.returns-in-Ok-clause-joined
returns-in-Ok-clause-joined c =
    sorted_text c.args.parts.now.items c.put_in_order.new.parts.items c.as_slice.result.now c.put_in_order.ensures.order c.as_slice.ensures.value c.args.part c.join_row.result c.join_row.ensures.joined

pub returns-in-Ok-clause-refused : goal.returns-in-Ok-clause-refused
returns-in-Ok-clause-refused c =
    sorted_apart c.args.parts.now.items c.put_in_order.new.parts.items c.as_slice.result.now c.put_in_order.ensures.order c.as_slice.ensures.value c.args.part c.join_row.result c.in-Ok.ensures.rising c.in-Ok.ensures.stable c.join_row.ensures.refused

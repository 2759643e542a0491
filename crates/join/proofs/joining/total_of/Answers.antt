use Rattle.std.proofs.Common.{◌∙◌, sym, ap, List, arith}
use Rattle.join.specs.Reading.{PartRead, none_read}
use Rattle.join.specs.Joining.{added, totalled}
use Rattle.join.specs.declared.tally.Tally.{Tally}
use Rattle.join.proofs.Joins.{totalled_none, totalled_next, item_few, take_whole_list}
use Rattle.join.proofs.joining.total_of.Goals as goal

pub loop-part-init : goal.loop-part-init
loop-part-init c =
    let is = c.none-tally.ensures in
    let lines = ap (λ (t : Tally). t.lines) is in
    let images = ap (λ (t : Tally). t.images) is in
    (is ∙ sym (totalled_none none_read), omega (arith, lines), omega (arith, images))

pub sum_of-tally-requires-clause-lines : goal.sum_of-tally-requires-clause-lines
sum_of-tally-requires-clause-lines c =
    let own = item_few (λ (r : PartRead). r.tally.lines) 1073741824 c.args.parts.now c.loop-part.part-index c.part-item.result c.requires.lines c.loop-part-test.true c.part-item.is in
    let same = ap (λ (r : PartRead). r.tally.lines) c.part.view_is in
    let before = c.loop-part.invariant.1 in
    let few = c.requires.few in
    let there = c.loop-part-test.true in
    omega (arith, own, same, before, few, there)

pub sum_of-tally-requires-clause-images : goal.sum_of-tally-requires-clause-images
sum_of-tally-requires-clause-images c =
    let own = item_few (λ (r : PartRead). r.tally.images) 1073741824 c.args.parts.now c.loop-part.part-index c.part-item.result c.requires.images c.loop-part-test.true c.part-item.is in
    let same = ap (λ (r : PartRead). r.tally.images) c.part.view_is in
    let before = c.loop-part.invariant.2 in
    let few = c.requires.few in
    let there = c.loop-part-test.true in
    omega (arith, own, same, before, few, there)

pub loop-part-preserved : goal.loop-part-preserved
loop-part-preserved c =
    let is = c.sum_of-tally.ensures ∙ ap (λ (r : PartRead). added c.loop-part.tally r.tally) c.part.view_is in
    let own_lines = item_few (λ (r : PartRead). r.tally.lines) 1073741824 c.args.parts.now c.loop-part.part-index c.part-item.result c.requires.lines c.loop-part-test.true c.part-item.is in
    let own_images = item_few (λ (r : PartRead). r.tally.images) 1073741824 c.args.parts.now c.loop-part.part-index c.part-item.result c.requires.images c.loop-part-test.true c.part-item.is in
    let lines = ap (λ (t : Tally). t.lines) is in
    let images = ap (λ (t : Tally). t.images) is in
    let before_lines = c.loop-part.invariant.1 in
    let before_images = c.loop-part.invariant.2 in (
      totalled_next c.args.parts.now c.loop-part.part-index c.part-item.result c.loop-part.tally c.sum_of-tally.result c.loop-part.invariant.0 c.loop-part-test.true c.part-item.is is,
      omega (arith, own_lines, lines, before_lines),
      omega (arith, own_images, images, before_images),
    )

pub returns : goal.returns
returns c = c.loop-part.invariant.0 ∙ ap (λ (rs : List PartRead). totalled none_read rs) (take_whole_list c.args.parts.now c.loop-part.part-index c.loop-part-test.false)

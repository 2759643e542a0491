use Rattle.std.proofs.Common.{ap, arith}
use Rattle.logfmt.specs.Bounds.{LogValue}
use Rattle.images.specs.Keys.{differs}
use Rattle.images.specs.Views.{sectors_of}
use Rattle.export.proofs.Keeping.{few_of_range, numbers_inside, sum_moves}
use Rattle.export.proofs.Weights.{sum_fits, whole_fits}
use Rattle.export.proofs.walk.KeptImages.sum_with.Goals as goal

pub sum_over-old-requires-clause-few : goal.sum_over-old-requires-clause-few
sum_over-old-requires-clause-few c = few_of_range (differs (sectors_of c.args.self.now.near) (sectors_of c.args.image.now)) c.args.self.now.near.log.sectors c.args.differing.now c.requires.differing

pub sum_over-old-requires-clause-inside : goal.sum_over-old-requires-clause-inside
sum_over-old-requires-clause-inside c = λ i n at. numbers_inside (differs (sectors_of c.args.self.now.near) (sectors_of c.args.image.now)) c.args.self.now.near.log.sectors i n c.args.differing.now c.requires.differing at

pub sum_over-new-requires-clause-few : goal.sum_over-new-requires-clause-few
sum_over-new-requires-clause-few c =
    let few = few_of_range (differs (sectors_of c.args.self.now.near) (sectors_of c.args.image.now)) c.args.self.now.near.log.sectors c.args.differing.now c.requires.differing in
    omega (arith, few, ap (λ (l : LogValue). l.sectors) c.requires.log)

pub sum_over-new-requires-clause-inside : goal.sum_over-new-requires-clause-inside
sum_over-new-requires-clause-inside c = λ i n at.
    let inside = numbers_inside (differs (sectors_of c.args.self.now.near) (sectors_of c.args.image.now)) c.args.self.now.near.log.sectors i n c.args.differing.now c.requires.differing at in
    omega (arith, inside, ap (λ (l : LogValue). l.sectors) c.requires.log)

pub overflow_add-result : goal.overflow_add-result
overflow_add-result c =
    let size = ap (λ (l : LogValue). l.sectors) c.log.ensures.value in
    let device = c.log.ensures.bounds.device in
    let own = whole_fits c.args.self.now.near c.args.self.now.sum c.requires.sum (omega (arith, device, size)) in
    let few = few_of_range (differs (sectors_of c.args.self.now.near) (sectors_of c.args.image.now)) c.args.self.now.near.log.sectors c.args.differing.now c.requires.differing in
    let new = sum_fits (sectors_of c.args.image.now) c.args.differing.now c.sum_over-new.result c.args.self.now.near.log.sectors c.sum_over-new.ensures few (omega (arith, device, size)) in
    omega (arith, own, new)

pub overflow_sub-result : goal.overflow_sub-result
overflow_sub-result c =
    let moves = sum_moves c.args.self.now.near c.args.image.now c.args.differing.now c.args.self.now.sum c.sum_over-old.result c.sum_over-new.result c.requires.log c.requires.differing
    c.requires.sum c.sum_over-old.ensures c.sum_over-new.ensures in
    omega (arith, moves)

pub returns : goal.returns
returns c =
    let moves = sum_moves c.args.self.now.near c.args.image.now c.args.differing.now c.args.self.now.sum c.sum_over-old.result c.sum_over-new.result c.requires.log c.requires.differing
    c.requires.sum c.sum_over-old.ensures c.sum_over-new.ensures in
    omega (arith, moves)

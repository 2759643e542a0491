use Rattle.std.proofs.Common.{ℕ, ◌+◌, ◌≡◌, sum_by, sym, ◌∙◌, ap, arith}
use Rattle.std.specs.List.{range_with_len}
use Rattle.std.proofs.lemmas.List.FromFn.{length-range_with_len}
use Rattle.logfmt.specs.Bounds.{LogValue}
use Rattle.images.specs.Views.{sectors_of}
use Rattle.export.specs.Kept.{weight_at}
use Rattle.export.proofs.Weights.{weight_read, weight_fits, sum_more, sum_all, sum_fits}
use Rattle.export.proofs.sums.sum_of.Goals as goal

pub overflow_add-sum : goal.overflow_add-sum
overflow_add-sum c =
    let device = c.sectors-number-end.ensures.bounds.device in
    let end = c.sectors-number-end.ensures.value in
    let lt = c.loop-number-test.true in
    let long = length-range_with_len 0 c.loop-number.number in
    let sum = sum_fits (sectors_of c.args.image.now) (range_with_len 0 c.loop-number.number) c.loop-number.sum 33554432 c.loop-number.invariant (omega (arith, long, lt, end, device)) (omega arith) in
    let weight = weight_fits _ _ c.weight-sum.result c.weight-sum.ensures in
    omega (arith, sum, weight)

pub loop-number-preserved : goal.loop-number-preserved
loop-number-preserved c =
    let f = weight_at (sectors_of c.args.image.now) in
    let n : ℕ = c.loop-number.number in
    let w : c.weight-sum.result ≡ f n = weight_read (sectors_of c.args.image.now) n c.sector.result.now c.weight-sum.result c.sector.ensures c.weight-sum.ensures in
    ap (λ s. s + c.weight-sum.result) c.loop-number.invariant ∙ ap (λ v. sum_by f (range_with_len 0 n) + v) w ∙ sym (sum_more (sectors_of c.args.image.now) n)

pub returns : goal.returns
returns c =
    let end = c.sectors-number-end.ensures.value ∙ ap (λ (l : LogValue). l.sectors) c.log.ensures.value in
    sum_all c.args.image.now c.loop-number.number c.loop-number.sum c.loop-number.invariant
    (omega (arith, end, c.loop-number-test.false, c.loop-number.auto.number-end))

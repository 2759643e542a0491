use Rattle.std.proofs.Common.{ℕ, ◌+◌, ◌≡◌, sum_by, take, get_or, sym, ◌∙◌, ap, arith}
use Rattle.std.proofs.lemmas.List.Sums.{sum_by_more}
use Rattle.logfmt.specs.Bounds.{LogValue}
use Rattle.images.specs.Views.{sectors_of}
use Rattle.export.specs.Kept.{weight_at}
use Rattle.export.proofs.Weights.{weight_read, weight_fits, sum_fits, take_short}
use Rattle.export.proofs.sums.sum_over.Goals as goal

pub overflow_add-sum : goal.overflow_add-sum
overflow_add-sum c =
    let device = c.sectors-sectors.ensures.bounds.device in
    let end = c.sectors-sectors.ensures.value in
    let few = c.requires.few in
    let log = ap (λ (l : LogValue). l.sectors) c.log.ensures.value in
    let long = take_short c.args.numbers.now c.loop-number.number-index in
    let sum = sum_fits (sectors_of c.args.image.now) (take c.loop-number.number-index c.args.numbers.now) c.loop-number.sum 33554432 c.loop-number.invariant
    (omega (arith, long, few, log, device)) (omega arith) in
    let weight = weight_fits _ _ c.weight-sum.result c.weight-sum.ensures in
    omega (arith, sum, weight)

pub loop-number-preserved : goal.loop-number-preserved
loop-number-preserved c =
    let f = weight_at (sectors_of c.args.image.now) in
    let ns = c.args.numbers.now in
    let i : ℕ = c.loop-number.number-index in
    let w : c.weight-sum.result ≡ f (get_or ns i 0) = weight_read (sectors_of c.args.image.now) (get_or ns i 0) c.sector.result.now c.weight-sum.result c.sector.ensures c.weight-sum.ensures in
    ap (λ s. s + c.weight-sum.result) c.loop-number.invariant ∙ ap (λ v. sum_by f (take i ns) + v) w ∙ sym (sum_by_more f ns i 0 c.loop-number-test.true)

use Rattle.std.proofs.Common.{◌<◌, ◌&&◌, length, false, sym, ◌∙◌, arith, refl}
use Rattle.std.specs.Prelude.{get_or}
use Rattle.std.proofs.lemmas.List.{length-set}
use Rattle.ranges.proofs.Arrays.{one_more, zip_filled_plain}
use Rattle.ranges.proofs.group.both_written.Goals as goal

-- src/group.rt:38:5
pub loop-k-init : goal.loop-k-init
loop-k-init c = (refl, λ k small. absurd (omega arith))

-- src/group.rt:38:5
pub loop-k-preserved : goal.loop-k-preserved
loop-k-preserved c =
    let inside : c.loop-k.k < length c.loop-k.marks = omega (arith, c.loop-k.invariant.0) in (
      rw (length-set c.loop-k.marks c.loop-k.k _) c.loop-k.invariant.0,
      one_more (λ b. b) (λ k. get_or c.args.x.now k false && get_or c.args.y.now k false) c.loop-k.marks c.loop-k.k _ false inside c.loop-k.invariant.1 refl,
    )

-- src/group.rt:34:1
pub returns : goal.returns
returns c =
    zip_filled_plain (λ a b. a && b) c.args.x.now c.args.y.now c.loop-k.marks false
    (c.told-y ∙ sym c.told-x) (c.loop-k.invariant.0 ∙ sym c.told-x)
    (λ k small. c.loop-k.invariant.1 k (omega arith))

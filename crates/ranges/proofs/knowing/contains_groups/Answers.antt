use Rattle.std.proofs.Common.{◌≡◌, ◌<◌, length, sym, ◌∙◌, refl, arith, true, false, IsTrue}
use Rattle.std.specs.Prelude.{get_or}
use Rattle.ranges.proofs.Arrays.{one_more_same, read_both, zip_filled, zip_not_same}
use Rattle.ranges.specs.Groups.{join_group}
use Rattle.ranges.specs.SeenStates.{group_of}
use Rattle.ranges.proofs.Nothing.{no_marks}
use Rattle.ranges.proofs.knowing.contains_groups.Goals as goal

pub loop-k-preserved : goal.loop-k-preserved
loop-k-preserved c =
    let x_inside : c.loop-k.k < length c.args.x.now = omega (arith, c.told-x) in
    let y_inside : c.loop-k.k < length c.args.y.now = omega (arith, c.told-y) in
    one_more_same group_of (λ k. join_group (group_of (get_or c.args.x.now k no_marks)) (group_of (get_or c.args.y.now k no_marks))) c.args.x.now c.loop-k.k no_marks c.loop-k.invariant
    (read_both group_of join_group c.args.x.now c.args.y.now c.loop-k.k c.index-x-k.result c.index-y-k.result no_marks x_inside y_inside (c.covers.ensures.0 c.if-not-covers.false))

pub returns-then-not-covers : goal.returns-then-not-covers
returns-then-not-covers c =
    let x_inside : c.loop-k.k < length c.args.x.now = omega (arith, c.told-x) in
    let bad : IsTrue false → ⊥ = λ t. let e : false ≡ true = t in cc in (
      λ t. absurd (bad t),
      λ e. absurd (zip_not_same group_of join_group c.args.x.now c.args.y.now no_marks (c.told-y ∙ sym c.told-x) c.loop-k.k c.index-x-k.result c.index-y-k.result x_inside
          (λ same. let t : IsTrue c.covers.result = c.covers.ensures.1 same in cc) e),
    )

pub returns : goal.returns
returns c = (
  λ t. sym (zip_filled group_of join_group c.args.x.now c.args.y.now c.args.x.now no_marks
      (c.told-y ∙ sym c.told-x) refl (λ k small. c.loop-k.invariant k (omega (arith, c.told-x)))),
  λ e. refl,
)

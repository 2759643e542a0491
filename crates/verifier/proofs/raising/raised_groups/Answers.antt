use Rattle.std.proofs.Common.{◌<◌, length, sym, ◌∙◌, arith}
use Rattle.std.specs.Prelude.{get_or}
use Rattle.std.proofs.lemmas.List.{length-set}
use Rattle.ranges.proofs.Arrays.{one_more}
use Rattle.ranges.specs.SeenStates.{group_of}
use Rattle.ranges.proofs.Nothing.{no_marks}
use Rattle.verifier.proofs.Filled.{nothing}
use Rattle.verifier.specs.SeenUnsigned.{unsigned_group}
use Rattle.verifier.proofs.Filled.{filled, read}
use Rattle.verifier.proofs.raising.raised_groups.Goals as goal

pub loop-k-preserved : goal.loop-k-preserved
loop-k-preserved c =
    let inside : c.loop-k.k < length c.loop-k.groups = omega (arith, c.loop-k.invariant.0) in
    let x_inside : c.loop-k.k < length c.args.x.now = omega (arith, c.told-x) in (
      rw (length-set c.loop-k.groups c.loop-k.k _) c.loop-k.invariant.0,
      one_more group_of (λ k. unsigned_group (get_or c.args.x.now k nothing)) c.loop-k.groups c.loop-k.k _ no_marks inside c.loop-k.invariant.1
          (read group_of unsigned_group c.args.x.now c.loop-k.k c.index-x-k.result nothing c.raised_group.result x_inside c.raised_group.ensures),
    )

pub returns : goal.returns
returns c =
    filled group_of unsigned_group c.args.x.now c.loop-k.groups no_marks nothing (c.loop-k.invariant.0 ∙ sym c.told-x)
    (λ k small. c.loop-k.invariant.1 k (omega (arith, c.told-x)))

use Rattle.std.proofs.Common.{◌<◌, length, sym, ◌∙◌, arith}
use Rattle.std.specs.Prelude.{get_or}
use Rattle.std.proofs.lemmas.List.{length-set}
use Rattle.ranges.proofs.Arrays.{one_more}
use Rattle.ranges.specs.Seen.{kind_of}
use Rattle.ranges.specs.declared.value.Value.TheVariants as value
use Rattle.verifier.specs.declared.unsigned_state.UnsignedValue.TheVariants as unsigned
use Rattle.verifier.specs.SeenUnsigned.{unsigned_kind}
use Rattle.verifier.proofs.Filled.{filled, read}
use Rattle.verifier.proofs.raising.raised_values.Goals as goal

pub loop-k-preserved : goal.loop-k-preserved
loop-k-preserved c =
    let inside : c.loop-k.k < length c.loop-k.values = omega (arith, c.loop-k.invariant.0) in
    let x_inside : c.loop-k.k < length c.args.x.now = omega (arith, c.told-x) in (
      rw (length-set c.loop-k.values c.loop-k.k _) c.loop-k.invariant.0,
      one_more kind_of (λ k. unsigned_kind (get_or c.args.x.now k unsigned.Unset)) c.loop-k.values c.loop-k.k _ value.Unset inside c.loop-k.invariant.1
          (read kind_of unsigned_kind c.args.x.now c.loop-k.k c.index-x-k.result unsigned.Unset c.raised_value.result x_inside c.raised_value.ensures),
    )

pub returns : goal.returns
returns c =
    filled kind_of unsigned_kind c.args.x.now c.loop-k.values value.Unset unsigned.Unset (c.loop-k.invariant.0 ∙ sym c.told-x)
    (λ k small. c.loop-k.invariant.1 k (omega (arith, c.told-x)))

use Rattle.std.proofs.Common.{sym, ◌∙◌, arith}
use Rattle.known.proofs.Counting.{common_read}
use Rattle.known.proofs.records.common_from.Goals as goal

pub loop-place-preserved : goal.loop-place-preserved
loop-place-preserved c = λ same.
    common_read c.args.one.now c.args.other.now c.loop-place.place _ _ (c.loop-place.invariant same) (omega arith) (omega arith) (sym c.is_same.ensures ∙ c.if-not-is_same.false)

use Rattle.std.proofs.Common.{refl}
use Rattle.lost_text.proofs.Matching.{matched_more}
use Rattle.lost_text.proofs.lost.lost_of.Goals as goal

pub loop-part-preserved : goal.loop-part-preserved
loop-part-preserved c =
    matched_more _ _ _ _ _ _ _ _ _ _ _ c.loop-part.invariant c.loop-part-test.true refl c.in_ok-put_part.ensures.set c.in_ok-put_part.ensures.departs
    c.left_after-left.ensures

use Rattle.std.proofs.lemmas.Option.{slice_get-get_or}
use Rattle.losses.proofs.Windows.{one_more}
use Rattle.losses.proofs.cure.failures.failures_of.Goals as goal

pub loop-mark-preserved : goal.loop-mark-preserved
loop-mark-preserved c =
    rw c.in_ok-push.ensures.items
    (one_more c.args.starts.now c.args.marks.now c.loop-mark.mark-index _ c.loop-mark.failures.items c.failure_at.result
    (slice_get-get_or c.args.marks.now c.loop-mark.mark-index _ c.loop-mark-test.true) c.loop-mark.invariant c.failure_at.ensures)

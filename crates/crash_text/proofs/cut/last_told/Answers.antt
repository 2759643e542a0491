use Rattle.crash_text.specs.Cut.{is_told_at}
use Rattle.crash_text.proofs.Steps.{last_step}
use Rattle.crash_text.proofs.cut.last_told.Goals as goal

pub loop-entry-preserved : goal.loop-entry-preserved
loop-entry-preserved c = last_step (is_told_at c.args.kind c.args.entries.now) c.loop-entry.entry c.loop-entry.last c.later-last.result c.loop-entry.invariant c.later-last.ensures

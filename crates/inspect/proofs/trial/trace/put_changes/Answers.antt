use Rattle.std.specs.Prelude.{string_bytes}
use Rattle.inspect.proofs.Changes.{one_more}
use Rattle.inspect.proofs.trial.trace.put_changes.Goals as goal

pub loop-number-preserved : goal.loop-number-preserved
loop-number-preserved c =
    one_more c.args.limits c.args.before.now c.args.now.now (string_bytes c.args.out.now) (string_bytes c.loop-number.out) (string_bytes c.put_change.new.out) c.loop-number.number c.loop-number.invariant
    c.in_ok-put_change.ensures

use Rattle.std.proofs.Common.{sym, append-nil}
use Rattle.workers.proofs.settling.with_left.Goals as goal

pub loop-block-init : goal.loop-block-init
loop-block-init g c = (sym (append-nil c.args.pieces.items), c.in_ok-local.ensures)

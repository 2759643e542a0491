use Rattle.std.proofs.Common.{arith}
use Rattle.workers.proofs.Safe.{may_judge}
use Rattle.workers.proofs.entries.noted_on.Goals as goal

pub judge_noted-requires : goal.judge_noted-requires
judge_noted-requires c = (
  omega arith,
  (may_judge c.args.view.now c.context-context.result c.args.checker.now c.context-context.ensures.bounds c.context-context.ensures.value c.requires.device, c.requires.served),
)

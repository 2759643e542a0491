use Rattle.workers.proofs.Safe.{may_judge}
use Rattle.workers.proofs.judging.outcome_on.Goals as goal

pub judge-requires : goal.judge-requires
judge-requires c =
    record {
      image = may_judge c.args.view.now c.context.result c.args.checker.now c.context.ensures.bounds c.context.ensures.value c.requires.device;
      served = c.requires.served;
    }

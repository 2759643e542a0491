use Rattle.known.proofs.Meeting.{stopped_so}
use Rattle.known.proofs.judge.KnownJudge.has_stopped.Goals as goal

pub returns : goal.returns
returns c = stopped_so c.args.stops c.args.self.now.leaves c.args.self.now.failing _ _ _ c.count-count.ensures c.failures-failures.ensures.count c.failures-failures.ensures.those c.stops_after.ensures

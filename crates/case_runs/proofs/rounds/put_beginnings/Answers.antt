use Rattle.case_runs.specs.Shares.{IsBegun}
use Rattle.case_runs.proofs.Lists.{all_more}
use Rattle.case_runs.proofs.rounds.put_beginnings.Goals as goal

pub loop-program-preserved : goal.loop-program-preserved
loop-program-preserved c =
    all_more (IsBegun c.args.work.now) c.loop-program.out.items c.push.new.self.items _ c.loop-program.invariant c.in_ok-pieces.ensures c.in_ok-push.ensures.items

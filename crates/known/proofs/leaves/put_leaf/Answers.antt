use Rattle.std.proofs.Common.{arith}
use Rattle.known.proofs.Meeting.{met_put}
use Rattle.known.proofs.leaves.put_leaf.Goals as goal

pub returns-clause-met : goal.returns-clause-met
returns-clause-met c =
    let runs = c.args.records.now.runs in
    met_put runs c.args.met.now.all.items _ c.args.met.now.failing.items _ c.args.met.now.open_cases.items _ c.args.sets.now c.args.place _ _ c.requires (omega arith)
    c.run-run.ensures (c.in_ok-put_met.ensures runs) c.in_ok-put_one.ensures.failing c.in_ok-put_one.ensures.those

pub returns-clause-put : goal.returns-clause-put
returns-clause-put c = c.in_ok-put_met.ensures c.args.records.now.runs

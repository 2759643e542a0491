use Rattle.request.proofs.Stamps.{one_is_not}
use Rattle.request.proofs.facts.promises.has_stamp.Goals as goal

pub returns-then-stamps-entry-clause-not : goal.returns-then-stamps-entry-clause-not
returns-then-stamps-entry-clause-not c = λ _. one_is_not c.args.stamps.now c.args.stamp c.args.entry.now.sector c.args.entry.now.count c.loop-place.place c.loop-place-test.true c.if-stamps-entry.true

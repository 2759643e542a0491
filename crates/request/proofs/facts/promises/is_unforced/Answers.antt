use Rattle.request.proofs.Stamps.{unforced_by}
use Rattle.request.proofs.facts.promises.is_unforced.Goals as goal

pub returns-then-not-entry-clause-value : goal.returns-then-not-entry-clause-value
returns-then-not-entry-clause-value c = λ es e m here tell. unforced_by es e m c.args.entry.now c.args.stamp c.args.stamps.now c.has_stamp.result here c.if-entry.false c.if-not-entry.true c.requires tell c.has_stamp.ensures.all c.has_stamp.ensures.not

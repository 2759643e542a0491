use Rattle.epochs.proofs.Touching.{Puts}
use Rattle.epochs.proofs.plan.Plan.put_touching.Given as goal

abbrev pub invariant-loop-entry : goal.invariant-loop-entry
invariant-loop-entry l = Puts l.self.by l.self.log.entries l.sectors l.initial.parts.items l.parts.items l.row.durable l.entry l.cut l.most

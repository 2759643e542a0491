use Rattle.epochs.specs.Parts.{volatile_parts}
use Rattle.choices.proofs.Naming.{Picking}
use Rattle.choices.proofs.named.picks_named.Given as goal

abbrev pub invariant-loop-name : goal.invariant-loop-name
invariant-loop-name l = Picking (volatile_parts l.plan.by l.plan.log.entries l.cut) l.fates l.names l.name-index l.begin l.picks.items

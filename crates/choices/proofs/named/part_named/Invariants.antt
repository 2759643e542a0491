use Rattle.std.proofs.Common.{◌≤◌}
use Rattle.epochs.specs.Parts.{volatile_parts}
use Rattle.choices.specs.Seeking.{NoneNamed}
use Rattle.choices.proofs.named.part_named.Given as goal

abbrev pub invariant-loop-number : goal.invariant-loop-number
invariant-loop-number l = (l.begin ≤ l.number) × NoneNamed (volatile_parts l.plan.by l.plan.log.entries l.cut) l.name l.begin l.number

use Rattle.std.proofs.Common.{Bool, sym, subst}
use Rattle.checker.specs.Memory.{IsServed}
use Rattle.workers.proofs.entries.Entries.find.Goals as goal

pub entry_known-requires-clause-served : goal.entry_known-requires-clause-served
entry_known-requires-clause-served c =
    subst (λ (b : Bool). IsServed b c.args.checker.now.guards) (sym c.loop-turn.invariant.1) c.requires.served

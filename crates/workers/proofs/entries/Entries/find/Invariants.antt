use Rattle.std.proofs.Common.{◌≡◌}
use Rattle.workers.specs.Reuse.{AreKnown}
use Rattle.workers.proofs.entries.Entries.find.Given as goal

abbrev pub invariant-loop-turn : goal.invariant-loop-turn
invariant-loop-turn l = AreKnown l.input l.picked.place l.checker l.self × (l.memory ≡ l.initial.memory)

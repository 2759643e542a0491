use Rattle.std.proofs.Common.{ℕ, ◌≡◌, ◌<◌, ◌≤◌}
use Rattle.workers.specs.Local.{IsTrueOf, Reaches, AreGood}
use Rattle.workers.proofs.reuse.Reuse.look.Given as goal

abbrev pub invariant-loop-number : goal.invariant-loop-number
invariant-loop-number l = IsTrueOf l.input l.self × (l.self.place ≡ l.initial.self.place) × (1 ≤ l.good) × (l.good ≤ l.most) × Reaches l.input l.picked l.good
    × ((i : ℕ) → i < l.number → AreGood l.input l.picked l.good i) × (l.memory ≡ l.initial.memory)

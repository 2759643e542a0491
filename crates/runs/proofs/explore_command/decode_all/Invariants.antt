use Rattle.std.proofs.Common.{◌≡◌, length, map}
use Rattle.runs.specs.Programs.{AreFirstOf}
use Rattle.runs.proofs.explore_command.decode_all.Given as goal

abbrev pub invariant-loop-number : goal.invariant-loop-number
invariant-loop-number l = AreFirstOf (map (λ f. f.items) l.files) l.programs.items × (length l.programs.items ≡ l.number)

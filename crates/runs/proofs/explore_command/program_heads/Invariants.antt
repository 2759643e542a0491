use Rattle.std.proofs.Common.{◌≡◌, map, take}
use Rattle.runs.specs.Explore.{program_head}
use Rattle.runs.proofs.explore_command.program_heads.Given as goal

abbrev pub invariant-loop-checker : goal.invariant-loop-checker
invariant-loop-checker l = l.heads.items ≡ map program_head (take l.checker-index l.checkers)

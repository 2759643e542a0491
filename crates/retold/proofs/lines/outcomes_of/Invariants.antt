use Rattle.std.proofs.Common.{◌≡◌, take, map}
use Rattle.join.specs.Given.{line_told}
use Rattle.retold.specs.Told.{outcomes_told_of}
use Rattle.retold.proofs.lines.outcomes_of.Given as goal

abbrev pub invariant-loop-line : goal.invariant-loop-line
invariant-loop-line l = map (λ o. o.now) l.outcomes.items ≡ outcomes_told_of l.program (map line_told (take l.line-index l.lines))

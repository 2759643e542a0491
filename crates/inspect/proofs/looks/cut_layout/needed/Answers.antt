use Rattle.std.proofs.Common.{ℕ, drop, arith}
use Rattle.inspect.proofs.CutParts.{needed_none}
use Rattle.inspect.proofs.looks.cut_layout.needed.Goals as goal

pub returns-then-left-eq0 : goal.returns-then-left-eq0
returns-then-left-eq0 c =
    let count : ℕ = c.loop-count.count in
    let none = needed_none c.loop-count.left (drop count c.args.risks.now) c.if-left-eq0.true in
    omega (arith, c.loop-count.invariant, none)

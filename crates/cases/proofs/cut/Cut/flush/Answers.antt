use Rattle.std.proofs.Common.{◌≡◌, ap, arith}
use Rattle.epochs.specs.Laws.{last_flush}
use Rattle.epochs.proofs.Runs.{last_flush_le}
use Rattle.cases.specs.AtCut.{CutValue}
use Rattle.cases.proofs.cut.Cut.flush.Goals as goal

pub returns-clause-low : goal.returns-clause-low
returns-clause-low c =
    let low = last_flush_le c.self.inside.log.now.entries c.self.inside.number in
    let same : c.self.inside.number ≡ c.args.self.now.cut = ap (λ (v : CutValue). v.cut) c.self.view_is in
    let flushed : c.self.inside.flush ≡ last_flush c.self.inside.log.now.entries c.self.inside.number = c.self.invariant.flushed in
    omega (arith, low, same, flushed)

use Rattle.std.proofs.Common.{arith}
use Rattle.choices.proofs.Ranks.{search_begins}
use Rattle.choices.proofs.rank.reaching.Goals as goal

pub loop-low-init : goal.loop-low-init
loop-low-init c =
    let start = search_begins c.args.fates c.args.size c.args.parts c.args.left c.requires.some c.requires.low c.requires.high in
    (start.0, omega arith, start.1, c.requires.high)

use Rattle.losses.proofs.Between.{between_is, below_is}
use Rattle.losses.proofs.why.cuts.between.Goals as goal

pub returns-clause-before : goal.returns-clause-before
returns-clause-before c =
    below_is c.args.numbers.now c.args.first c.below-begin.result
    (record { within = c.below-begin.ensures.bound; before = c.below-begin.ensures.before; beyond = c.below-begin.ensures.beyond })

pub returns-clause-own : goal.returns-clause-own
returns-clause-own c =
    between_is c.args.numbers.now c.args.first c.args.end c.below-begin.result c.below-beyond.result c.requires.rising
    (record { within = c.below-begin.ensures.bound; before = c.below-begin.ensures.before; beyond = c.below-begin.ensures.beyond })
    (record { within = c.below-beyond.ensures.bound; before = c.below-beyond.ensures.before; beyond = c.below-beyond.ensures.beyond })

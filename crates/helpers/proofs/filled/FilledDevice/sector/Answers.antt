use Rattle.std.proofs.Common.{sym, ap, ◌∙◌, Some}
use Rattle.helpers.specs.Filled.{filled_inside, filled_past}
use Rattle.helpers.proofs.filled.FilledDevice.sector.Goals as goal

pub returns-then-n-self : goal.returns-then-n-self
returns-then-n-self c =
    rw (← c.self.view_is) (ap Some c.self.invariant ∙ sym (filled_inside c.self.inside.count c.self.inside.byte c.args.n c.if-n-self.true))

pub returns-else-n-self : goal.returns-else-n-self
returns-else-n-self c =
    rw (← c.self.view_is) (sym (filled_past c.self.inside.count c.self.inside.byte c.args.n c.if-n-self.false))

use Rattle.std.proofs.Common.{◌↔◌, IsTrue, Bool, sym, subst}
use Rattle.join.specs.Given.{IsOutcome}
use Rattle.join.proofs.given.outcome.is_outcome.Goals as goal

pub returns-then-outside : goal.returns-then-outside
returns-then-outside c = subst (λ (o : Bool). IsTrue c.is_outside.result ↔ IsOutcome o c.args.text.now) (sym c.if-outside.true) c.is_outside.ensures

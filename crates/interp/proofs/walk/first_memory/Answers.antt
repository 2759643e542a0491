use Rattle.std.proofs.Common.{◌≡◌, true, Bool, sym, subst, IfOk}
use Rattle.machine.specs.OwnMemory.{zero_memory}
use Rattle.interp.specs.Walks.{memory_as}
use Rattle.interp.proofs.walk.first_memory.Goals as goal

pub returns-then-guards : goal.returns-then-guards
unfolding zero_memory
returns-then-guards c = subst (λ (b : Bool). IfOk c.zeros.result (λ memory. memory.items ≡ memory_as b)) (sym c.if-guards.true) c.zeros.ensures

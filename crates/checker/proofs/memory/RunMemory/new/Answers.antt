use Rattle.std.proofs.Common.{◌≡◌, Bool, sym, subst, ◌∙◌}
use Rattle.std.proofs.lemmas.Result.{IfOk-weaker}
use Rattle.checker.specs.Memory.{AreServed}
use Rattle.checker.proofs.Serving.{served_where_some}
use Rattle.checker.proofs.memory.RunMemory.new.Goals as goal

pub returns : goal.returns
returns c =
    IfOk-weaker c.memory_if.result (λ memory. memory ≡ c.some_guards.result) (λ memory. AreServed memory c.args.checkers.now)
    (λ memory is. subst (λ (b : Bool). AreServed b c.args.checkers.now) (sym (is ∙ c.some_guards.ensures)) (served_where_some c.args.checkers.now)) c.memory_if.ensures

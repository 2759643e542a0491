use Rattle.std.proofs.Common.{◌≡◌, Bool, sym, subst, ◌∙◌}
use Rattle.std.proofs.lemmas.Result.{IfOk-weaker}
use Rattle.checker.specs.Memory.{IsServed}
use Rattle.checker.proofs.Serving.{served_if}
use Rattle.checker.proofs.memory.RunMemory.of.Goals as goal

pub returns : goal.returns
returns c =
    IfOk-weaker c.memory_if.result (λ memory. memory ≡ c.has_guards.result) (λ memory. IsServed memory c.args.checker.now.guards)
    (λ memory is. subst (λ (b : Bool). IsServed b c.args.checker.now.guards) (sym (is ∙ c.has_guards.ensures)) (served_if c.args.checker.now.guards)) c.memory_if.ensures

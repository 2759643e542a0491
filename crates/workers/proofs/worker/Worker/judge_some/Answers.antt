use Rattle.std.proofs.Common.{◌∙◌, Bool, sym, ap, subst, arith}
use Rattle.checker.specs.Memory.{AreServed}
use Rattle.workers.specs.Local.{LocalValue}
use Rattle.workers.proofs.worker.Worker.judge_some.Goals as goal

pub is_on-requires-clause-member : goal.is_on-requires-clause-member
is_on-requires-clause-member g c =
    (c.args.row.now.image, c.requires.row.member (omega (arith, c.requires.some, c.requires.row.within)))

pub judge_next-requires-clause-served : goal.judge_next-requires-clause-served
judge_next-requires-clause-served g c =
    subst (λ (b : Bool). AreServed b c.args.self.now.input.now.checkers) (sym (ap (λ (l : LocalValue). l.memory) c.local.view_is)) c.requires.local.served

pub judge_cut-requires-clause-served : goal.judge_cut-requires-clause-served
judge_cut-requires-clause-served g c =
    subst (λ (b : Bool). AreServed b c.args.self.now.input.now.checkers) (sym (ap (λ (l : LocalValue). l.memory) c.local.view_is)) c.requires.local.served

pub returns-then-is_on-clause-local : goal.returns-then-is_on-clause-local
returns-then-is_on-clause-local g c =
    record {
      log = ap (λ (l : LocalValue). l.log) c.local.view_is ∙ c.requires.local.log;
      reuse = c.judge_next.ensures.known;
      served = subst (λ (b : Bool). AreServed b c.args.self.now.input.now.checkers)
          (sym (c.judge_next.ensures.memory ∙ ap (λ (l : LocalValue). l.memory) c.local.view_is)) c.requires.local.served;
    }

pub returns-else-is_on-clause-local : goal.returns-else-is_on-clause-local
returns-else-is_on-clause-local g c =
    record {
      log = c.judge_cut.ensures.changes ∙ ap (λ (l : LocalValue). l.log) c.local.view_is ∙ c.requires.local.log;
      reuse = c.is_on.ensures.known;
      served = subst (λ (b : Bool). AreServed b c.args.self.now.input.now.checkers)
          (sym (c.judge_cut.ensures.memory ∙ ap (λ (l : LocalValue). l.memory) c.local.view_is)) c.requires.local.served;
    }

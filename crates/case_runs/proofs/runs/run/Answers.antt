use Rattle.std.proofs.Common.{◌∙◌, Bool, refl, sym, subst}
use Rattle.checker.specs.Memory.{IsServed}
use Rattle.case_runs.proofs.Running.{runs_all, run_long}
use Rattle.case_runs.proofs.runs.run.Goals as goal

pub run_within-requires-2-clause-served : goal.run_within-requires-2-clause-served
run_within-requires-2-clause-served c = subst (λ (b : Bool). IsServed b c.args.checker.now.guards) (sym c.run_within.ensures.memory) c.requires.served

pub run_within-requires-3-clause-served : goal.run_within-requires-3-clause-served
run_within-requires-3-clause-served c =
    subst (λ (b : Bool). IsServed b c.args.checker.now.guards) (sym (c.run_within-2.ensures.memory ∙ c.run_within.ensures.memory)) c.requires.served

pub judge-requires-clause-served : goal.judge-requires-clause-served
judge-requires-clause-served c =
    subst (λ (b : Bool). IsServed b c.args.checker.now.guards) (sym (c.run_within-3.ensures.memory ∙ c.run_within-2.ensures.memory ∙ c.run_within.ensures.memory)) c.requires.served

pub returns-clause-runs : goal.returns-clause-runs
returns-clause-runs c =
    runs_all c.args.checker.now c.args.context.now c.args.image.now _ _ c.judge.ensures.ends
    (run_long c.args.checker.now c.args.context.now c.args.image.now c.in_ok-outcome-3.field-0 c.run_within-3.new.looked c.in_default-3.is c.in_ok-outcome-3.ensures.found) refl

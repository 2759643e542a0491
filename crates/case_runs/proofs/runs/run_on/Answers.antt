use Rattle.std.proofs.Common.{IfOk, refl, sym, subst, ◌∙◌}
use Rattle.std.proofs.lemmas.Result.{IfOk-weaker}
use Rattle.checker.specs.Checker.{Suits}
use Rattle.case_runs.specs.Images.{ImageValue, sectors_in}
use Rattle.case_runs.specs.Judges.{program_of, looked_in, RunsSo, JudgesSo}
use Rattle.case_runs.proofs.Running.{suits, judges_so, judges_none}
use Rattle.case_runs.proofs.runs.run_on.Goals as goal

pub returns-then-sectors-context-clause-judges : goal.returns-then-sectors-context-clause-judges
returns-then-sectors-context-clause-judges c =
    judges_none c.args.checker.now c.args.context.now (record { at = c.args.rows.now; tears = c.args.tears; sets = c.args.sets.now }) _ _
    (λ e. c.if-sectors-context.true (c.sectors.ensures.value ∙ e)) refl c.clear.ensures.items

pub run-requires-clause-suits : goal.run-requires-clause-suits
run-requires-clause-suits c =
    subst (λ (v : ImageValue). Suits c.args.checker.now.verified (sectors_in v) c.args.context.now) (sym c.in_ok-image.ensures)
    (suits c.args.checker.now c.args.context.now (record { at = c.args.rows.now; tears = c.args.tears; sets = c.args.sets.now }) c.sectors.ensures.bounds
    (sym c.sectors.ensures.value ∙ c.if-sectors-context.false) c.requires.fit)

pub returns-clause-judges : goal.returns-clause-judges
returns-clause-judges c =
    let v : ImageValue = record { at = c.args.rows.now; tears = c.args.tears; sets = c.args.sets.now } in
    IfOk-weaker c.run.result (λ outcome. RunsSo c.args.checker.now c.args.context.now v outcome c.run.new.looked)
    (λ outcome. JudgesSo (program_of c.args.checker.now c.args.context.now) c.args.rows.now c.args.tears c.args.sets.now outcome (looked_in c.args.context.now.sectors c.run.new.looked))
    (λ outcome own. judges_so c.args.checker.now c.args.context.now v outcome c.run.new.looked (sym c.sectors.ensures.value ∙ c.if-sectors-context.false) own)
    (subst (λ (w : ImageValue). IfOk c.run.result (λ outcome. RunsSo c.args.checker.now c.args.context.now w outcome c.run.new.looked)) c.in_ok-image.ensures c.run.ensures.runs)

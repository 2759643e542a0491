use Rattle.std.proofs.Common.{◌≡◌, true, false, sym, ◌∙◌}
use Rattle.std.proofs.lemmas.Result.{IfErr-weaker}
use Rattle.case_runs.specs.Found.{StopsAtOne}
use Rattle.case_runs.specs.Shares.{cut_in}
use Rattle.case_runs.specs.Walk.{EndsAtOne}
use Rattle.case_runs.proofs.Seeking.{ends_stops}
use Rattle.case_runs.proofs.walk.met_with.Goals as goal

pub returns-then-work-clause-many : goal.returns-then-work-clause-many
returns-then-work-clause-many g c =
    let at = cut_in c.args.work.now c.args.number in
    IfErr-weaker c.first_with.result (EndsAtOne c.args.work.now.asked at c.args.checker.now c.args.left) (StopsAtOne c.args.work.now.asked at c.args.checker.now c.args.left)
    (λ why. ends_stops c.args.work.now.asked at c.args.checker.now c.args.left why) c.first_with.ensures.passing

pub returns-in_err-found-clause-passing : goal.returns-in_err-found-clause-passing
returns-in_err-found-clause-passing g c = λ first. absurd (let bad : true ≡ false = sym first ∙ c.if-work.false in cc)

pub returns-clause-met : goal.returns-clause-met
returns-clause-met g c =
    (c.in_ok-found.ensures.found, (λ first. absurd (let bad : true ≡ false = sym first ∙ c.if-work.false in cc)), c.in_ok-found.ensures.few)

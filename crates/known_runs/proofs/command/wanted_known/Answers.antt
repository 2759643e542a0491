use Rattle.std.proofs.lemmas.Result.{IfOk-weaker, IfErr-weaker}
use Rattle.request.specs.Source.{for_plan}
use Rattle.known_runs.specs.Asked.{asked_of}
use Rattle.known_runs.specs.Told.{for_source}
use Rattle.known_runs.proofs.Telling.{wants_known, refuses_known}
use Rattle.known_runs.proofs.command.wanted_known.Goals as goal

pub returns-in-Err-plan_of-clause-refused : goal.returns-in-Err-plan_of-clause-refused
returns-in-Err-plan_of-clause-refused c = for_source _ c.in-Ok.ensures.short (for_plan _ c.in-Ok.logs.log c.in-Ok.ensures.log c.in-Err-plan_of.ensures.refused)

pub returns-clause-wanted : goal.returns-clause-wanted
returns-clause-wanted c =
    IfOk-weaker c.wanted_of.result _ _
    (λ bytes wants.
    wants_known (asked_of c.args.question.now) c.in-Ok.logs.log c.in-Ok.logs.plain _ bytes.items c.text_of_one_log.ensures c.in-Ok.ensures.short c.in-Ok.ensures.log c.in-Ok.ensures.plain
    c.in-Ok-plan_of.ensures.count c.in-Ok-plan_of.ensures.few c.in-Ok-plan_of.ensures.within wants)
    c.wanted_of.ensures.wants

pub returns-clause-refused : goal.returns-clause-refused
returns-clause-refused c =
    IfErr-weaker c.wanted_of.result _ _
    (λ f why.
    refuses_known (asked_of c.args.question.now) c.in-Ok.logs.log c.in-Ok.logs.plain _ f c.text_of_one_log.ensures c.in-Ok.ensures.short c.in-Ok.ensures.log c.in-Ok.ensures.plain
    c.in-Ok-plan_of.ensures.count c.in-Ok-plan_of.ensures.few c.in-Ok-plan_of.ensures.within why)
    c.wanted_of.ensures.refused

use Rattle.std.proofs.Common.{inl}
use Rattle.request.specs.Source.{no_plan_memory}
use Rattle.request.proofs.Results.{one_err}
use Rattle.runs.proofs.Judging.{judged_whole}
use Rattle.runs.proofs.Tried.{cases_refused, few_images}
use Rattle.runs.proofs.curing.run_by.Goals as goal

pub invariant_of-task : goal.invariant_of-task
invariant_of-task g c =
    record {
      plan_is = c.requires.plan;
      device = c.requires.device;
      judged = judged_whole _ _ c.args.images 0 c.requires.whole c.requires.count c.requires.few;
    }

pub returns-in-None-clause-found : goal.returns-in-None-clause-found
returns-in-None-clause-found g c = rw c.in-None.is c.images_found.ensures.found

pub returns-in-None-clause-refused : goal.returns-in-None-clause-refused
returns-in-None-clause-refused g c = one_err c.images_found.result _ _ c.images_found.ensures.refused (λ r memory. rw memory (inl no_plan_memory))

pub returns-in-Some-clause-found : goal.returns-in-Some-clause-found
returns-in-Some-clause-found g c = rw c.in-Some.is c.cases_found.ensures.found

pub returns-in-Some-clause-refused : goal.returns-in-Some-clause-refused
returns-in-Some-clause-refused g c = rw c.in-Some.is (one_err c.cases_found.result _ _ c.cases_found.ensures.refused (λ r refused. cases_refused c.in-Some.losses c.args.judges.now.options.now c.args.log.now c.args.judges.now.checkers.now r (few_images _ _ c.args.images c.requires.whole c.requires.count c.requires.few) refused))

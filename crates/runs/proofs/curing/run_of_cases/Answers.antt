use Rattle.runs.proofs.Casing.{found_within, found_few}
use Rattle.runs.proofs.Judging.{few_judged}
use Rattle.runs.proofs.Tried.{by_cases}
use Rattle.runs.proofs.curing.run_of_cases.Goals as goal

pub cure_of_cases-requires-clause-few : goal.cure_of_cases-requires-clause-few
cure_of_cases-requires-clause-few c = found_few _ _ _ _ _ _ c.requires.found c.requires.small

pub cure_of_cases-requires-clause-cuts : goal.cure_of_cases-requires-clause-cuts
cure_of_cases-requires-clause-cuts c = found_within _ _ _ _ _ _ _ c.requires.found c.requires.within

pub returns : goal.returns
returns c =
    by_cases c.args.losses c.args.task.now c.args.cuts.now c.args.found.now c.in_ok-head.head c.losses_of-asked.result c.in_ok-cure.cure.failures.items c.in_ok-cure.cure.begin.items _ c.requires.cuts
    c.requires.found c.requires.few (few_judged _ _ c.args.task.now.span c.requires.whole c.args.task.now.judged) c.in_ok-head.ensures c.losses_of-asked.ensures c.in_ok-cure.ensures.failures c.in_ok-cure.ensures.begin c.in_ok-cure.ensures.last c.in_ok-cure.ensures.inside
    c.in_ok-cure.ensures.calm

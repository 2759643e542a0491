use Rattle.inspect.proofs.Risks.{few_risks, within_log}
use Rattle.inspect.proofs.looks.risks.risks_of.Goals as goal

pub returns-clause-few : goal.returns-clause-few
returns-clause-few c =
    few_risks _ c.args.losses c.cuts.result c.args.log.now.entries c.in_ok-cuts.cuts.items c.as_slice.result.now c.in_ok-risks.risks.items c.in_ok-risks.ensures
    c.as_slice.ensures.value c.in_ok-cuts.ensures.value c.entries-entries.ensures.bounds.count

pub returns-clause-within : goal.returns-clause-within
returns-clause-within c =
    within_log c.by.result c.args.log.now c.in_ok-cuts.cuts.items c.as_slice.result.now c.in_ok-risks.risks.items c.in_ok-risks.ensures c.as_slice.ensures.value
    c.in_ok-cuts.ensures.within

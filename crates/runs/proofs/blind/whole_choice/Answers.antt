use Rattle.runs.proofs.Unseeing.{first_inside, whole_view}
use Rattle.runs.proofs.blind.whole_choice.Goals as goal

pub nth-requires : goal.nth-requires
nth-requires c =
    let starts = c.args.starts.now in
    first_inside starts.plan starts.bound starts.tears c.args.place c.range_of-first.result.0 c.requires c.range_of-first.ensures.first

pub returns-clause-whole : goal.returns-clause-whole
returns-clause-whole c =
    λ cut wanted.
    let starts = c.args.starts.now in
    whole_view starts.plan starts.bound starts.tears c.args.place c.range_of-first.result.0 cut c.nth.result c.range_of-first.ensures.first c.nth.ensures wanted

use Rattle.std.proofs.Common.{sym, ◌∙◌, ap, arith, slice_get, suc}
use Rattle.choices.specs.Picks.{fewer}
use Rattle.choices.proofs.Ranks.{at_fewer}
use Rattle.choices.proofs.rank.nth_within.Goals as goal

pub returns : goal.returns
returns c =
    let told = c.size_of-size.ensures in
    ap (slice_get (fewer c.args.fates (suc c.args.bound) c.args.parts)) (sym c.from.ensures ∙ told.sum)
    ∙ at_fewer c.args.fates (suc c.args.bound) c.args.parts c.size_of-size.result.0 c.size_of-size.result.1 (omega (arith, told.bound)) told.rest
    ∙ c.nth_of_size.ensures

use Rattle.std.proofs.Common.{sym}
use Rattle.choices.proofs.Plans.{ranked_at-ways}
use Rattle.choices.proofs.ranked.ways_at.Goals as goal

pub returns-clause-value : goal.returns-clause-value
returns-clause-value c =
    rw (c.ways_within.ensures.value, c.fates_of.ensures.value, c.volatile.ensures.value) (sym (ranked_at-ways c.args.plan.now c.args.bound c.args.tears c.args.cut))

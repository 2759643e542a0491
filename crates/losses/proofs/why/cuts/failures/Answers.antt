use Rattle.std.proofs.Common.{map}
use Rattle.losses.proofs.Collected.{one_more}
use Rattle.losses.proofs.Shown.{first_numbered}
use Rattle.losses.proofs.why.cuts.failures.Goals as goal

pub loop-place-preserved : goal.loop-place-preserved
loop-place-preserved c = one_more _ _ _ _ _ _ _ c.loop-place.invariant c.in_ok-cut_failures.ensures c.in_ok-push.ensures.items

pub returns-clause-numbered : goal.returns-clause-numbered
returns-clause-numbered c =
    first_numbered c.args.starts.now c.args.failing.now (map (λ o. o.now) c.args.outcomes.now) c.loop-place.place c.loop-place.found.items c.requires.images c.loop-place.invariant

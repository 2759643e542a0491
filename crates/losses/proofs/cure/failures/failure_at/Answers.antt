use Rattle.losses.proofs.Windows.{cut_inside, departs_before, failure_is}
use Rattle.std.proofs.Common.{ap}
use Rattle.logfmt.specs.Bounds.{LogValue}
use Rattle.losses.proofs.cure.failures.failure_at.Goals as goal

pub window_of-requires-clause-cut : goal.window_of-requires-clause-cut
window_of-requires-clause-cut c =
    cut_inside c.ranked_is_model.ensures c.args.starts.now c.args.mark.image _ _ _ c.nth-choice.ensures c.cut.ensures (ap (λ (l : LogValue). l.entries) c.requires.log)

pub window_of-requires-clause-before : goal.window_of-requires-clause-before
window_of-requires-clause-before c =
    departs_before c.ranked_is_model.ensures c.args.starts.now c.args.mark.image _ _ _ c.nth-choice.ensures c.cut.ensures c.departures.ensures.value

pub returns : goal.returns
returns c =
    failure_is c.ranked_is_model.ensures c.args.starts.now c.args.mark _ _ _ _ _ _ c.nth-choice.ensures c.requires.by (ap (λ (l : LogValue). l.entries) c.requires.log)
    c.cut.ensures c.departures.ensures.value c.window_of.ensures.found c.window_of.ensures.none

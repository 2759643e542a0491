use Rattle.std.proofs.Common.{true}
use Rattle.lost_text.specs.Said.{NoneIsSaid, IsLostSo}
use Rattle.lost_text.proofs.Matching.{at_some}
use Rattle.known_text.proofs.Recorded.{are_sets}
use Rattle.known_text.proofs.record.sets_said.Goals as goal

pub returns-in-Some : goal.returns-in-Some
returns-in-Some c =
    are_sets c.in_ok-at.at c.args.log.now c.args.way c.args.cut c.args.choice.now c.in-Some.lost.sets.items c.in-Some.lost.departures.items c.in_ok-at.ensures
    (at_some _ c.in-Some.lost (NoneIsSaid c.in_ok-at.at true c.args.choice.now) (λ x. IsLostSo c.in_ok-at.at true c.args.choice.now x.sets.items x.departures.items) c.in-Some.is c.in_ok-lost.ensures)

use Rattle.std.proofs.lemmas.Option.{slice_get-get_or}
use Rattle.choices.proofs.Departing.{departs_as, departs_next}
use Rattle.choices.proofs.choice.departures_of.Goals as goal

pub loop-pick-preserved : goal.loop-pick-preserved
loop-pick-preserved c =
    departs_next _ _ _ _ _ _ _ (slice_get-get_or c.args.picks.now c.loop-pick.pick-index _ c.loop-pick-test.true) c.loop-pick.invariant c.push.ensures.items
    (departs_as _ _ _ _ c.part.ensures.value c.of.ensures)

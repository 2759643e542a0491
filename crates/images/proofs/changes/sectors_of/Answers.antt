use Rattle.std.proofs.Common.{refl, arith}
use Rattle.std.proofs.lemmas.Option.{slice_get_read}
use Rattle.images.proofs.Departing.{one_count_more}
use Rattle.images.proofs.changes.sectors_of.Goals as goal

pub loop-departure-preserved : goal.loop-departure-preserved
loop-departure-preserved c =
    let there = slice_get_read c.args.departures.now _ c.loop-departure.departure-index _ refl c.loop-departure-test.true c.departure-item.is in
    let small = c.requires.device c.loop-departure.departure-index c.departure-item.result there in
    let so = c.loop-departure.invariant.1 in (
      one_count_more c.args.departures.now c.loop-departure.departure-index c.departure-item.result c.loop-departure.sum there c.loop-departure.invariant.0,
      omega (arith, small, so),
    )

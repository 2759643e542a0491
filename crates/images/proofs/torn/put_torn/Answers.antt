use Rattle.std.proofs.Common.{refl, sym, ◌∙◌, ap, arith}
use Rattle.std.proofs.lemmas.Option.{slice_get_read}
use Rattle.epochs.specs.Units.{units_before}
use Rattle.images.specs.Images.{sector_after}
use Rattle.images.proofs.Tears.{not_torn, one_torn, all_torn}
use Rattle.images.proofs.torn.put_torn.Goals as goal
use Rattle.images.proofs.torn.put_torn.Goals.{then-tears, else-tears}

pub tear-number-requires-clause-some : goal.tear-number-requires-clause-some
tear-number-requires-clause-some c =
    let there = slice_get_read c.args.departures.now _ c.loop-departure.departure-index _ refl c.loop-departure-test.true c.departure-item.is in
    (c.requires.parts c.loop-departure.departure-index _ there).some

pub tear-number-requires-clause-device : goal.tear-number-requires-clause-device
tear-number-requires-clause-device c =
    let there = slice_get_read c.args.departures.now _ c.loop-departure.departure-index _ refl c.loop-departure-test.true c.departure-item.is in
    let on = (c.requires.parts c.loop-departure.departure-index _ there).device in
    let small = c.requires.bounds.device in
    omega (arith, on, small)

pub form_sector-requires-clause-number : goal.form_sector-requires-clause-number
form_sector-requires-clause-number c =
    let there = slice_get_read c.args.departures.now _ c.loop-departure.departure-index _ refl c.loop-departure-test.true c.departure-item.is in
    let on = (c.requires.parts c.loop-departure.departure-index _ there).device in
    let inside = c.tear-number.ensures.inside in
    omega (arith, on, inside)

pub loop-departure-preserved : goal.loop-departure-preserved
loop-departure-preserved c =
    let log = c.args.versions.now in
    let ds = c.args.departures.now in
    let there = slice_get_read ds _ c.loop-departure.departure-index _ refl c.loop-departure-test.true c.departure-item.is in
    elim c.if-tears.branch [
      | then-tears w ↦
          rw w.torn-is (one_torn log c.args.cut ds c.loop-departure.departure-index c.loop-departure.torn.items _ c.departure-item.result _ c.loop-departure.invariant there w.push.ensures.items w.tear-number.ensures.value (w.form_sector.ensures ∙ ap (sector_after log (units_before log.entries c.args.cut) ds) w.tear-number.ensures.value))
      | else-tears w ↦
          rw w.torn-is (not_torn log c.args.cut ds c.loop-departure.departure-index c.loop-departure.torn.items c.departure-item.result c.loop-departure.invariant there
          (sym c.tears.ensures ∙ w.if-tears.false))
    ]

pub returns : goal.returns
returns c =
    all_torn c.args.versions.now c.args.cut c.args.departures.now c.loop-departure.departure-index c.loop-departure.torn.items
    c.requires.bounds c.requires.cut c.requires.parts c.loop-departure-test.false c.loop-departure.invariant

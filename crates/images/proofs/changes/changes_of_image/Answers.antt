use Rattle.std.proofs.Common.{◌≡◌, refl, sym, ◌∙◌, ap, arith, length, slice_get, rules}
use Rattle.std.specs.Prelude.{sum_by}
use Rattle.std.proofs.lemmas.Option.{slice_get_read}
use Rattle.base.specs.Sizes.{most_sectors}
use Rattle.epochs.specs.Units.{units_before}
use Rattle.choices.specs.declared.choice.Departure.{Departure}
use Rattle.images.specs.Changes.{whole_image, image_of}
use Rattle.images.proofs.Sectors.{flush_within}
use Rattle.images.proofs.Departing.{begins, goes_on, ends, few_left, few_sectors, list_of_key}
use Rattle.images.proofs.Growing.{between_is}
use Rattle.images.proofs.changes.changes_of_image.Goals as goal

pub sectors_of-requires-clause-device : goal.sectors_of-requires-clause-device
sectors_of-requires-clause-device c = λ i d there.
    let own = c.departures-departures.ensures in
    let on = (own.parts i d (ap (λ ds. slice_get ds i) (sym own.value) ∙ there)).device in
    let small = own.bounds.device in
    omega (arith, on, small)

pub overflow_add-sectors_of : goal.overflow_add-sectors_of
overflow_add-sectors_of c =
    let own = c.departures-departures.ensures in
    let few = own.few in
    let most = few_sectors c.departures-departures.result.now most_sectors (λ i d there.
    let on = (own.parts i d (ap (λ ds. slice_get ds i) (sym own.value) ∙ there)).device in
    let small = own.bounds.device in
    omega (arith, on, small)) in
    omega (arith, few, most, c.sectors_of.ensures)

pub returns-then-whole-sectors_of : goal.returns-then-whole-sectors_of
returns-then-whole-sectors_of c =
    let view = c.args.view.now in
    let own = c.departures-departures.ensures in
    let base = whole_image view.log c.args.flush in
    let start = begins view base c.args.whole.now own.bounds own.within own.parts
    (c.requires.whole ∙ sym (between_is view.log c.args.flush view.cut (units_before view.log.entries view.cut) refl)) in
    let left = few_left base (image_of view) view.log.sectors view.departures (length view.departures) 0 c.args.whole.now
    (λ i d there. (own.parts i d there).device) start (omega arith) in
    let key = ap length (list_of_key view c.args.flush c.requires.flush) in
    let many = c.if-whole-sectors_of.true in
    let count = c.sectors_of.ensures ∙ ap (sum_by (λ (d : Departure). d.part.count)) own.value in
    omega (arith, left, key, many, count)

pub loop-departure-init : goal.loop-departure-init
loop-departure-init c =
    let view = c.args.view.now in
    let own = c.departures-departures.ensures in
    begins view (whole_image view.log c.args.flush) c.in_ok-sectors.sectors.items own.bounds own.within own.parts
    (c.in_ok-sectors.ensures ∙ c.requires.whole ∙ sym (between_is view.log c.args.flush view.cut (units_before view.log.entries view.cut) refl))

pub put_part-requires-clause-flush : goal.put_part-requires-clause-flush
put_part-requires-clause-flush c =
    let within = c.departures-departures.ensures.within in
    let flush = c.requires.flush in
    let low = flush_within c.args.view.now.log.entries c.args.view.now.cut in
    omega (arith, within, flush, low)

pub put_part-requires-clause-device : goal.put_part-requires-clause-device
put_part-requires-clause-device c =
    let own = c.departures-departures.ensures in
    let there = slice_get_read c.departures-departures.result.now _ c.loop-departure.departure-index _ refl c.loop-departure-test.true c.departure-item.is in
    let here = ap (λ ds. slice_get ds c.loop-departure.departure-index) (sym own.value) ∙ there in
    (own.parts c.loop-departure.departure-index c.departure-item.result here).device

pub put_part-requires-clause-small : goal.put_part-requires-clause-small
put_part-requires-clause-small c = c.departures-departures.ensures.bounds.device

pub put_part-requires-clause-known : goal.put_part-requires-clause-known
put_part-requires-clause-known c = (c.loop-departure.invariant.image, c.loop-departure.invariant.listed)

pub loop-departure-preserved : goal.loop-departure-preserved
loop-departure-preserved c =
    let view = c.args.view.now in
    let own = c.departures-departures.ensures in
    let was = c.loop-departure.invariant in
    let there = slice_get_read c.departures-departures.result.now _ c.loop-departure.departure-index _ refl c.loop-departure-test.true c.departure-item.is in
    let here = ap (λ ds. slice_get ds c.loop-departure.departure-index) (sym own.value) ∙ there in
    goes_on (whole_image view.log c.args.flush) (image_of view) view.log.sectors view.departures c.loop-departure.departure-index _ _ c.departure-item.result was here
    (c.in_ok-put_part.ensures was.image was.listed)

pub returns-then-len-gt-MOST_CHANGED : goal.returns-then-len-gt-MOST_CHANGED
returns-then-len-gt-MOST_CHANGED c =
    let view = c.args.view.now in
    let all = c.loop-departure-test.false in
    let count = ap length c.departures-departures.ensures.value in
    let end = ends _ _ _ _ _ _ c.loop-departure.invariant (omega (arith, all, count)) ∙ list_of_key view c.args.flush c.requires.flush in
    let long = ap length end in
    let many = c.if-len-gt-MOST_CHANGED.true in
    let size : c.len.result ≡ length c.loop-departure.sectors.items = search rules in
    omega (arith, long, many, size)

pub returns : goal.returns
returns c =
    let view = c.args.view.now in
    let all = c.loop-departure-test.false in
    let count = ap length c.departures-departures.ensures.value in
    let end = ends _ _ _ _ _ _ c.loop-departure.invariant (omega (arith, all, count)) ∙ list_of_key view c.args.flush c.requires.flush in
    let few = c.if-len-gt-MOST_CHANGED.false in
    let size : c.len.result ≡ length c.loop-departure.sectors.items = search rules in
    (end, omega (arith, few, size))

use Rattle.std.proofs.Common.{get_or, refl, arith}
use Rattle.std.proofs.lemmas.List.{take_more}
use Rattle.known_runs.specs.declared.totals.KnownTotals.{KnownTotals}
use Rattle.known_runs.proofs.Counting.{no_totals, totals_next, totals_all}
use Rattle.known_runs.proofs.totals.totals_of.Goals as goal

pub loop-one-init : goal.loop-one-init
loop-one-init c =
    let none : KnownTotals = record { told = 0; failing = 0; torn = 0; lost = 0; untold = 0; stopped = 0 } in
    no_totals none refl refl refl refl refl refl

pub loop-one-preserved : goal.loop-one-preserved
loop-one-preserved c =
    let one = c.one-item.result in
    totals_next c.args.found.now c.loop-one.one-index (get_or c.args.found.now c.loop-one.one-index one) one c.loop-one.all c.with_one-all.result
    (take_more c.args.found.now c.loop-one.one-index one c.loop-one-test.true) c.one-item.is c.loop-one.invariant c.with_one-all.ensures

pub returns : goal.returns
returns c =
    let high = c.loop-one-test.false in
    totals_all c.args.found.now c.loop-one.one-index c.loop-one.all (omega (arith, high)) c.loop-one.invariant

use Rattle.std.proofs.Common.{◌+◌, refl, arith}
use Rattle.case_runs.specs.Cuts.{is_explored}
use Rattle.case_runs.proofs.Cutting.{kept_more, explored_told}
use Rattle.case_runs.proofs.cuts.explored_cuts.Goals as goal

pub loop-place-preserved : goal.loop-place-preserved
loop-place-preserved c =
    kept_more (is_explored c.entries-entries.result.now c.args.to) c.args.from c.loop-place.place (c.args.from + c.loop-place.place) c.loop-place.out.items c.put_cut.new.out.items refl c.loop-place.invariant c.in_ok-put_cut.ensures

pub returns : goal.returns
returns c =
    let count = c.saturating_sub-place-end.ensures in
    let low = c.loop-place.auto.place-end in
    let high = c.loop-place-test.false in
    let it = explored_told c.args.log.now.entries c.entries-entries.result.now c.args.from c.args.to c.loop-place.place c.loop-place.out.items c.entries-entries.ensures.value
    (omega (arith, count, low, high)) c.loop-place.invariant c.requires in
    record { value = it.value; within = it.within }

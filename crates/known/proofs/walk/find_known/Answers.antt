use Rattle.std.proofs.Common.{get_or, arith}
use Rattle.std.proofs.lemmas.Option.{slice_get-get_or}
use Rattle.std.proofs.lemmas.Result.{err_from_is_err_and}
use Rattle.known.proofs.Reaching.{known_more, known_all, counted_more, stops_there}
use Rattle.known.proofs.walk.find_known.Goals as goal

pub returns-in_err-found-clause-refused : goal.returns-in_err-found-clause-refused
returns-in_err-found-clause-refused c =
    let p = err_from_is_err_and c.from_residual.result c.from_residual.ensures.1 in
    rw (p.1, p.2)
    (stops_there c.args.asked c.args.log.now c.args.way c.args.cuts.now c.args.records.now c.args.stops c.loop-number.number-index _ _ c.loop-number.out.items _ c.loop-number.invariant.0
    (slice_get-get_or c.args.cuts.now c.loop-number.number-index 0 c.loop-number-test.true) c.loop-number.invariant.1 c.in_err-found.ensures.many)

pub loop-number-preserved : goal.loop-number-preserved
loop-number-preserved c =
    let at = c.loop-number in
    let k = get_or c.args.cuts.now at.number-index 0 in (
      known_more c.args.asked c.args.log.now c.args.way c.args.cuts.now c.args.records.now c.args.stops at.number-index at.out.items c.push.new.self.items k c.in_ok-found.found at.invariant.0 c.in_ok-push.ensures.items
          (slice_get-get_or c.args.cuts.now at.number-index 0 c.loop-number-test.true) c.in_ok-found.ensures.found,
      counted_more at.left _ at.out.items c.push.new.self.items c.in_ok-found.found at.invariant.1 c.in_ok-found.ensures.few (omega arith) c.in_ok-push.ensures.items,
    )

pub returns-clause-found : goal.returns-clause-found
returns-clause-found c =
    known_all c.args.asked c.args.log.now c.args.way c.args.cuts.now c.args.records.now c.args.stops c.loop-number.number-index c.loop-number.out.items c.loop-number.invariant.0 (omega arith)

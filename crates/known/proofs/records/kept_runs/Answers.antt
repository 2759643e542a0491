use Rattle.std.proofs.Common.{length, map, refl, sym, subst, ap}
use Rattle.std.proofs.lemmas.Option.{slice_get_read}
use Rattle.known.specs.Records.{kept_value}
use Rattle.known.specs.Linked.{AreLinked}
use Rattle.known.proofs.Counting.{kept_next, linked_none}
use Rattle.known.proofs.records.kept_runs.Goals as goal

pub loop-run-init : goal.loop-run-init
loop-run-init c = (ap (map kept_value) c.new-kept.ensures.items, subst AreLinked (sym c.new-kept.ensures.items) linked_none)

pub loop-run-preserved : goal.loop-run-preserved
loop-run-preserved c = (
  kept_next c.args.log.now c.args.way c.args.runs.now c.loop-run.run-index c.run-item.result c.loop-run.kept.items c.put_kept.new.kept.items c.in_ok-one.one c.loop-run.invariant.0 c.in_ok-put_kept.ensures.put
      c.in_ok-one.ensures
      (slice_get_read c.args.runs.now (length c.args.runs.now) c.loop-run.run-index c.run-item.result refl c.loop-run-test.true c.run-item.is),
  c.in_ok-put_kept.ensures.linked,
)

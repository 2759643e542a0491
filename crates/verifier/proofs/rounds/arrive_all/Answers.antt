use Rattle.std.proofs.Common.{◌≡◌, ◌<◌, ◌∙◌, ap, length, map, take, true, false, [], ◌∷◌}
use Rattle.verifier.specs.Passing.{Arrived}
use Rattle.ranges.specs.Order.{IsState}
use Rattle.verifier.specs.Seen.{arrival_of}
use Rattle.verifier.proofs.Arriving.{all_long, each_at, mapped_more, arrived_new, arrived_known}
use Rattle.verifier.proofs.Marks.{kept_more}
use Rattle.verifier.proofs.rounds.arrive_all.Goals as goal
use Rattle.verifier.proofs.rounds.arrive_all.Goals.{then-arrive, else-arrive}

pub arrive-requires-clause-slot : goal.arrive-requires-clause-slot
arrive-requires-clause-slot c =
    let here = each_at (λ p. (p.0 < length c.args.table.now) × IsState p.1) arrival_of c.args.waiting.now c.loop-arrival.arrival-index c.arrival-item.result
    c.loop-arrival-test.true c.arrival-item.is c.requires.waiting in
    let long : length c.loop-arrival.table ≡ length c.args.table.now =
    ap (λ t. length t) c.loop-arrival.invariant.0.table ∙ all_long c.args.table.now (map arrival_of (take c.loop-arrival.arrival-index c.args.waiting.now)) in
    rw long here.0

pub arrive-requires-clause-marks : goal.arrive-requires-clause-marks
arrive-requires-clause-marks c =
    let long : length c.loop-arrival.table ≡ length c.args.table.now =
    ap (λ t. length t) c.loop-arrival.invariant.0.table ∙ all_long c.args.table.now (map arrival_of (take c.loop-arrival.arrival-index c.args.waiting.now)) in
    rw long (c.loop-arrival.invariant.1.long ∙ c.requires.marks)

pub loop-arrival-preserved : goal.loop-arrival-preserved
loop-arrival-preserved c =
    let kept = kept_more c.args.table.now c.loop-arrival.table c.arrive.new.table c.args.marks.now.items c.loop-arrival.marks.items c.arrive.new.marks.items c.loop-arrival.invariant.1 c.arrive.ensures.kept in
    rw (mapped_more arrival_of c.args.waiting.now c.loop-arrival.arrival-index c.arrival-item.result c.loop-arrival-test.true c.arrival-item.is)
    (elim c.if-arrive.branch [
      | then-arrive w ↦
          let new : Arrived c.loop-arrival.table (arrival_of c.arrival-item.result ∷ []) c.arrive.new.table true = rw w.if-arrive.true at c.arrive.ensures.arrived in
          rw w.changed-is (arrived_new c.args.table.now c.loop-arrival.table c.arrive.new.table (map arrival_of (take c.loop-arrival.arrival-index c.args.waiting.now)) (arrival_of c.arrival-item.result) c.loop-arrival.changed c.loop-arrival.invariant.0 new, kept)
      | else-arrive w ↦
          let known : Arrived c.loop-arrival.table (arrival_of c.arrival-item.result ∷ []) c.arrive.new.table false = rw w.if-arrive.false at c.arrive.ensures.arrived in
          rw w.changed-is (arrived_known c.args.table.now c.loop-arrival.table c.arrive.new.table (map arrival_of (take c.loop-arrival.arrival-index c.args.waiting.now)) (arrival_of c.arrival-item.result) c.loop-arrival.changed c.loop-arrival.invariant.0 known, kept)
    ])

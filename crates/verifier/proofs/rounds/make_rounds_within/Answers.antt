use Rattle.std.proofs.Common.{rules, ◌≡◌, ◌-◌, arith, refl, length, replicate, true}
use Rattle.verifier.specs.Rounds.{first_table}
use Rattle.verifier.specs.Visits.{count_set}
use Rattle.verifier.proofs.Settled.{each_round}
use Rattle.verifier.proofs.Marks.{first_marks}
use Rattle.verifier.proofs.Rising.{falls_at}
use Rattle.verifier.proofs.Counting.{counted_first, counted_next, counted_more}
use Rattle.verifier.proofs.rounds.make_rounds_within.Goals as goal

pub loop-marks-init : goal.loop-marks-init
loop-marks-init c =
    let table : c.in_ok-table.table ≡ first_table (length c.args.scene.now.program.now) = search rules in
    let marks : c.in_ok-marks.marks.items ≡ replicate (length c.args.scene.now.program.now) true = search rules in
    counted_first c.args.scene.now.guards c.args.scene.now.program.now c.args.scene.now.sectors c.args.most c.in_ok-table.table c.in_ok-marks.marks.items table
    (first_marks c.args.scene.now.guards c.args.scene.now.program.now c.args.scene.now.sectors c.in_ok-table.table c.in_ok-marks.marks.items marks)

pub make_round-requires-clause-round : goal.make_round-requires-clause-round
make_round-requires-clause-round c =
    rw c.loop-marks.invariant.is
    (each_round c.args.scene.now.guards c.args.scene.now.program.now c.args.scene.now.sectors c.loop-marks.invariant.turns (omega (arith, c.args.scene.now.few)) c.slots-slots.ensures.program c.args.scene.now.rules)

pub loop-marks-smaller : goal.loop-marks-smaller
loop-marks-smaller c =
    falls_at c.args.scene.now.guards c.args.scene.now.program.now c.args.scene.now.sectors c.loop-marks.table c.make_round.new.table c.make_round.new.marks.items c.in_ok-make_round.field-0
    (omega (arith, c.args.scene.now.few)) c.slots-slots.ensures.program c.args.scene.now.rules (c.loop-marks.invariant.turns, c.loop-marks.invariant.is) c.in_ok-make_round.ensures c.if-not-branch.false

pub returns-then-left-visits-clause-more : goal.returns-then-left-visits-clause-more
returns-then-left-visits-clause-more c =
    let count : c.count_set-visits.result ≡ count_set c.make_round.new.marks.items = rw (← c.as_slice.ensures.value) c.count_set-visits.ensures in
    counted_more c.args.scene.now.guards c.args.scene.now.program.now c.args.scene.now.sectors c.args.most c.loop-marks.table c.make_round.new.table c.loop-marks.marks.items c.make_round.new.marks.items
    c.loop-marks.left c.count_set-visits.result c.in_ok-make_round.field-0 c.loop-marks.invariant c.in_ok-make_round.ensures count (omega (arith, c.if-left-visits.true))

pub loop-marks-preserved : goal.loop-marks-preserved
loop-marks-preserved c =
    let count : c.count_set-visits.result ≡ count_set c.make_round.new.marks.items = rw (← c.as_slice.ensures.value) c.count_set-visits.ensures in
    counted_next c.args.scene.now.guards c.args.scene.now.program.now c.args.scene.now.sectors c.args.most c.loop-marks.table c.make_round.new.table c.loop-marks.marks.items c.make_round.new.marks.items
    c.loop-marks.left c.count_set-visits.result (c.loop-marks.left - c.count_set-visits.result) c.in_ok-make_round.field-0 c.loop-marks.invariant c.in_ok-make_round.ensures count
    (omega (arith, c.if-left-visits.false)) refl

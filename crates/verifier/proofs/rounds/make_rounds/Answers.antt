use Rattle.std.proofs.Common.{rules, ◌≡◌, arith, length, replicate, true}
use Rattle.verifier.specs.Rounds.{first_table}
use Rattle.verifier.proofs.Settled.{each_round}
use Rattle.verifier.proofs.Marks.{first_marks}
use Rattle.verifier.proofs.Rising.{falls_at, next_turn}
use Rattle.verifier.proofs.rounds.make_rounds.Goals as goal

pub loop-marks-init : goal.loop-marks-init
loop-marks-init c =
    let table : c.in_ok-table.table ≡ first_table (length c.args.scene.now.program.now) = search rules in
    let marks : c.in_ok-marks.marks.items ≡ replicate (length c.args.scene.now.program.now) true = search rules in
    ((0, table), first_marks c.args.scene.now.guards c.args.scene.now.program.now c.args.scene.now.sectors c.in_ok-table.table c.in_ok-marks.marks.items marks)

pub make_round-requires-clause-round : goal.make_round-requires-clause-round
make_round-requires-clause-round c =
    rw c.loop-marks.invariant.0.1
    (each_round c.args.scene.now.guards c.args.scene.now.program.now c.args.scene.now.sectors c.loop-marks.invariant.0.0 (omega (arith, c.args.scene.now.few)) c.slots-slots.ensures.program c.args.scene.now.rules)

pub loop-marks-smaller : goal.loop-marks-smaller
loop-marks-smaller c =
    falls_at c.args.scene.now.guards c.args.scene.now.program.now c.args.scene.now.sectors c.loop-marks.table c.make_round.new.table c.make_round.new.marks.items c.in_ok-make_round.field-0
    (omega (arith, c.args.scene.now.few)) c.slots-slots.ensures.program c.args.scene.now.rules c.loop-marks.invariant.0 c.in_ok-make_round.ensures c.if-not-branch.false

pub loop-marks-preserved : goal.loop-marks-preserved
loop-marks-preserved c =
    next_turn c.args.scene.now.guards c.args.scene.now.program.now c.args.scene.now.sectors c.loop-marks.table c.make_round.new.table c.make_round.new.marks.items c.in_ok-make_round.field-0
    c.loop-marks.invariant.0 c.in_ok-make_round.ensures

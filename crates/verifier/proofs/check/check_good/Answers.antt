use Rattle.std.proofs.Common.{◌≡◌, ◌∙◌, sym, length, rules, true, false}
use Rattle.ranges.specs.SeenStates.{state_of}
use Rattle.std.proofs.lemmas.Result.{IfErr-weaker}
use Rattle.ranges.specs.States.{start}
use Rattle.verifier.specs.Tables.{Covers, state_at}
use Rattle.verifier.specs.Breaches.{FirstSlot, FirstBreach, wrong_length, no_start, at_slot}
use Rattle.verifier.proofs.check.check_good.Goals as goal

pub returns-then-slots-clause-breach : goal.returns-then-slots-clause-breach
returns-then-slots-clause-breach c = rw c.fault_at.ensures (wrong_length (λ e. c.if-slots.true (c.slots.ensures.slots ∙ e ∙ sym c.slots-2.ensures.number)))

pub returns-then-not-covers-clause-breach : goal.returns-then-not-covers-clause-breach
returns-then-not-covers-clause-breach c =
    let long : length c.args.table.now ≡ length c.args.scene.now.program.now = search rules in
    rw c.fault_at-then-not-covers.ensures (no_start long (λ h.
    let there : Covers (state_at c.args.table.now 0) (state_of c.start-room.result) = rw c.start-room.ensures h in
    let bad : false ≡ true = sym c.if-not-covers.true ∙ c.covers.ensures.1 there in
    cc))

pub returns-clause-breach : goal.returns-clause-breach
returns-clause-breach c =
    let long : length c.args.table.now ≡ length c.args.scene.now.program.now = search rules in
    let starts : Covers (state_at c.args.table.now 0) start = search rules in
    IfErr-weaker c.check_slots.result (λ f. FirstSlot c.args.scene.now.guards c.args.scene.now.program.now c.args.scene.now.sectors c.args.table.now f.code f.slot)
    (λ f. FirstBreach c.args.scene.now.guards c.args.scene.now.program.now c.args.scene.now.sectors c.args.table.now f.code f.slot) (λ f h. at_slot f.code f.slot long starts h) c.check_slots.ensures.breach

use Rattle.std.proofs.Common.{ℕ, ◌≡◌, ◌-◌, ◌+◌, ◌*◌, ◌%◌, ◌^◌, List, None, refl, sym, ◌∙◌, arith, rules}
use Rattle.machine.specs.State.{Frame, stack_start}
use Rattle.interp.specs.declared.memory.Spot.{Spot}
use Rattle.interp.proofs.Regions.{stack_written}
use Rattle.interp.proofs.Opened.{not_in_first, spot_fault, spot_lies}
use Rattle.interp.proofs.state.CheckedMachine.writable.Goals as goal

pub returns-then-place-lt-BLOCK-clause-fault : goal.returns-then-place-lt-BLOCK-clause-fault
returns-then-place-lt-BLOCK-clause-fault g c =
    let device : List (List ℕ) = g.D.Device.content c.args.world.now.device.now in
    let first : Frame = record { stack = c.self.inside.stack; caller = None } in
    let place : ℕ = (c.args.address + (2 ^ 64 - stack_start)) % 2 ^ 64 in
    let spot : Spot = record { frame = 0; place = place } in
    let start : c.args.address ≡ stack_start + (1024 * 0 + place) = omega (arith, c.ranges.address, c.if-place-lt-BLOCK.true) in
    spot_fault c.spot_within.result spot c.args.count c.spot_within.ensures
    ∙ sym (stack_written c.args.world.now.context device c.args.self.now.frames first c.args.address 0 place c.args.count
    (rw (← c.self.view_is) refl) (omega arith) c.self.invariant start c.if-place-lt-BLOCK.true c.requires.few)

pub returns-then-place-lt-BLOCK-clause-spot : goal.returns-then-place-lt-BLOCK-clause-spot
returns-then-place-lt-BLOCK-clause-spot g c =
    let first : Frame = record { stack = c.self.inside.stack; caller = None } in
    let place : ℕ = (c.args.address + (2 ^ 64 - stack_start)) % 2 ^ 64 in
    let spot : Spot = record { frame = 0; place = place } in
    let start : c.args.address ≡ stack_start + (1024 * 0 + place) = omega (arith, c.ranges.address, c.if-place-lt-BLOCK.true) in
    spot_lies c.spot_within.result spot c.args.self.now.frames first c.args.address c.args.count
    (rw (← c.self.view_is) refl) c.self.invariant (omega arith) start c.spot_within.ensures

pub fault_outside-requires : goal.fault_outside-requires
fault_outside-requires g c = (
  search rules,
  (c.requires.some, (c.requires.few, (not_in_first c.args.address c.ranges.address.fits c.if-place-lt-BLOCK.false, c.if-this-eq0.true))),
)

pub writable_outside-requires : goal.writable_outside-requires
writable_outside-requires g c = (search rules, (c.requires.some, (c.requires.few, not_in_first c.args.address c.ranges.address.fits c.if-place-lt-BLOCK.false)))

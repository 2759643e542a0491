use Rattle.std.proofs.Common.{ℕ, ◌≡◌, ◌-◌, ◌+◌, ◌%◌, ◌^◌, List, Some, length, sym, ap, ◌∙◌, arith, rules}
use Rattle.base.specs.declared.causes.MachineFault.{MachineFault}
use Rattle.machine.specs.State.{context_start}
use Rattle.interp.proofs.Regions.{context_written}
use Rattle.interp.proofs.memory.block_fault.Goals as goal

pub returns-then-place-lt-CONTEXT-clause-fault : goal.returns-then-place-lt-CONTEXT-clause-fault
returns-then-place-lt-CONTEXT-clause-fault g c =
    let device : List (List ℕ) = g.D.Device.content c.args.world.now.device.now in
    let long : length c.args.world.now.context ≡ 32 = search rules in
    ap (λ (f : MachineFault). Some f) c.plain_fault.ensures
    ∙ sym (context_written c.args.world.now.context device c.args.machine.now.frames c.args.address ((c.args.address + (2 ^ 64 - context_start)) % 2 ^ 64) c.args.count
    long (omega (arith, c.ranges.address, c.if-place-lt-CONTEXT.true)) c.if-place-lt-CONTEXT.true c.requires.some c.requires.few)

use Rattle.std.proofs.Common.{ℕ, ◌≡◌, List, length, rules}
use Rattle.interp.proofs.state.CheckedMachine.writable_outside.Goals as goal

pub writable_above-requires : goal.writable_above-requires
writable_above-requires g c =
    let below = rw c.in-None.is at c.block_fault.ensures.below in
    let context = rw c.in-None.is at c.block_fault.ensures.context in
    (search rules, (c.requires.some, (c.requires.few, (below, (context, c.requires.first)))))

pub returns-in-None-clause-fault : goal.returns-in-None-clause-fault
returns-in-None-clause-fault g c =
    let device : List (List ℕ) = g.D.Device.content c.args.world.now.device.now in
    let long : length c.args.world.now.context ≡ 32 = search rules in
    c.writable_above.ensures.fault c.args.world.now.context device long

use Rattle.std.proofs.Common.{◌≡◌, rules}
use Rattle.machine.specs.Memory.{byte_count, plain_size}
use Rattle.machine.specs.Step.{address}
use Rattle.machine.specs.Guards.{memory_step}
use Rattle.interp.specs.Going.{at_slot}
use Rattle.interp.proofs.Reached.{load_inside, loads_signed, store_inside, stored_inside, copies_there, call_made}
use Rattle.interp.proofs.state.CheckedMachine.go_own.Goals as goal

pub load_own-requires : goal.load_own-requires
load_own-requires g c =
    let own = rw c.in-Load.is at c.requires.reaches in
    let same : c.address-address.result ≡ address c.args.self.now c.in-Load.base c.in-Load.offset = search rules in
    (search rules, (c.requires.slot, (c.requires.long, rw same (load_inside (g.D.Device.content c.args.world.now.device.now) c.args.self.now c.in-Load.dst c.in-Load.base c.in-Load.offset (byte_count c.in-Load.size) own))))

pub load_own-requires-in-LoadSigned : goal.load_own-requires-in-LoadSigned
load_own-requires-in-LoadSigned g c =
    let own = rw c.in-LoadSigned.is at c.requires.reaches in
    let same : c.address-address-in-LoadSigned.result ≡ address c.args.self.now c.in-LoadSigned.base c.in-LoadSigned.offset = search rules in
    (search rules, (c.requires.slot, (c.requires.long, rw (same, c.plain_size.ensures) (load_inside (g.D.Device.content c.args.world.now.device.now) c.args.self.now c.in-LoadSigned.dst c.in-LoadSigned.base c.in-LoadSigned.offset (byte_count (plain_size c.in-LoadSigned.size)) own))))

pub store_own-requires : goal.store_own-requires
store_own-requires g c =
    let own = rw c.in-StoreImmediate.is at c.requires.reaches in
    let same : c.address-address-in-StoreImmediate.result ≡ address c.args.self.now c.in-StoreImmediate.base c.in-StoreImmediate.offset = search rules in
    (search rules, (c.requires.slot, (c.requires.long, rw same (store_inside (g.D.Device.content c.args.world.now.device.now) c.args.self.now c.in-StoreImmediate.base c.in-StoreImmediate.offset (byte_count c.in-StoreImmediate.size) own))))

pub store_own-requires-in-Store : goal.store_own-requires-in-Store
store_own-requires-in-Store g c =
    let own = rw c.in-Store.is at c.requires.reaches in
    let same : c.address-address-in-Store.result ≡ address c.args.self.now c.in-Store.base c.in-Store.offset = search rules in
    (search rules, (c.requires.slot, (c.requires.long, rw same (stored_inside (g.D.Device.content c.args.world.now.device.now) c.args.self.now c.in-Store.src c.in-Store.base c.in-Store.offset (byte_count c.in-Store.size) own))))

pub copy_own-requires : goal.copy_own-requires
copy_own-requires g c =
    let own = rw c.in-CallHelper.is at c.requires.reaches in
    let there = copies_there (g.D.Device.content c.args.world.now.device.now) c.args.self.now _ own in
    (search rules, (c.requires.slot, (c.requires.long, (there.1.count, there.1.inside))))

pub returns-in-CallHelper-clause-made : goal.returns-in-CallHelper-clause-made
unfolding memory_step
returns-in-CallHelper-clause-made g c =
    let own = rw c.in-CallHelper.is at c.requires.reaches in
    rw c.in-CallHelper.is
    (call_made c.args.world.now.program.now (g.D.Device.content c.args.world.now.device.now) c.args.memory.now (at_slot c.args.slot c.args.self.now) _ _ (copies_there (g.D.Device.content c.args.world.now.device.now) c.args.self.now _ own).0 c.copy_own.ensures.made)

pub returns-in-LoadSigned-clause-made : goal.returns-in-LoadSigned-clause-made
unfolding memory_step
returns-in-LoadSigned-clause-made g c =
    let same : c.address-address-in-LoadSigned.result ≡ address c.args.self.now c.in-LoadSigned.base c.in-LoadSigned.offset = search rules in
    rw c.in-LoadSigned.is
    (loads_signed c.args.world.now.program.now (g.D.Device.content c.args.world.now.device.now) c.args.memory.now (at_slot c.args.slot c.args.self.now) c.in-LoadSigned.dst _ _ c.plain_size.result c.in-LoadSigned.size _
    c.plain_size.ensures same c.load_own-in-LoadSigned.ensures.made)

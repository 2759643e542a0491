use Rattle.std.proofs.Common.{ℕ, ◌≡◌, ◌-◌, ◌/◌, List, Some, None, slice_get, sym, ap, ◌∙◌}
use Rattle.base.specs.declared.causes.MachineFault.{MachineFault}
use Rattle.helpers.specs.Answers.{sector_start}
use Rattle.interp.proofs.Regions.{sector_written, no_sector_written}
use Rattle.interp.proofs.memory.sector_fault.Goals as goal

pub returns-in-Some : goal.returns-in-Some
returns-in-Some g c =
    let device : List (List ℕ) = g.D.Device.content c.args.world.now.device.now in
    let there : slice_get device ((c.args.address - sector_start) / 1024) ≡ Some c.in-Some.field-0.now = sym (rw c.in-Some.is at c.sector_at.ensures.sector) in
    let small = rw c.in-Some.is at c.sector_at.ensures.number in
    ap (λ (f : MachineFault). Some f) c.plain_fault.ensures
    ∙ sym (sector_written c.args.world.now.context device c.args.machine.now.frames c.in-Some.field-0.now c.args.address c.args.count c.requires.some c.requires.few
    c.requires.from small there (g.met.D.Device.whole c.args.world.now.device.now ((c.args.address - sector_start) / 1024) c.in-Some.field-0.now there))

pub returns-in-None : goal.returns-in-None
returns-in-None g c =
    let device : List (List ℕ) = g.D.Device.content c.args.world.now.device.now in
    let none : slice_get device ((c.args.address - sector_start) / 1024) ≡ None = sym (rw c.in-None.is at c.sector_at.ensures.sector) in
    sym (no_sector_written c.args.world.now.context device c.args.machine.now.frames c.args.address c.args.count c.requires.some c.requires.from none)

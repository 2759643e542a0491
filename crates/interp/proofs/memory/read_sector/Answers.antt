use Rattle.std.proofs.Common.{ℕ, ◌≡◌, ◌-◌, ◌/◌, ◌%◌, List, Some, None, slice_get, sym, ◌∙◌, arith}
use Rattle.helpers.specs.Answers.{sector_start}
use Rattle.machine.specs.Memory.{byte_count}
use Rattle.interp.proofs.Regions.{some_bytes, few_bytes, sector_reading, no_sector_read, past_sector_read}
use Rattle.interp.proofs.memory.read_sector.Goals as goal

pub returns-in-Some : goal.returns-in-Some
returns-in-Some g c =
    let device : List (List ℕ) = g.D.Device.content c.args.world.now.device.now in
    let there : slice_get device ((c.args.address - sector_start) / 1024) ≡ Some c.in-Some.sector.now = sym (rw c.in-Some.is at c.sector_at.ensures.sector) in
    let small = rw c.in-Some.is at c.sector_at.ensures.number in
    c.read_plain.ensures
    ∙ sym (sector_reading c.args.world.now.context device c.args.machine.now.frames c.in-Some.sector.now c.args.address ((c.args.address - sector_start) / 1024)
    ((c.args.address - sector_start) % 1024) (byte_count c.args.size) (omega (arith, c.requires)) small c.if-place-lt-BLOCK.true (few_bytes c.args.size) there)

pub returns-in_default : goal.returns-in_default
returns-in_default g c =
    let device : List (List ℕ) = g.D.Device.content c.args.world.now.device.now in
    let there : slice_get device ((c.args.address - sector_start) / 1024) ≡ Some c.in-Some.sector.now = sym (rw c.in-Some.is at c.sector_at.ensures.sector) in
    sym (past_sector_read c.args.world.now.context device c.args.machine.now.frames c.in-Some.sector.now c.args.address (byte_count c.args.size)
    (some_bytes c.args.size) c.requires there (g.met.D.Device.whole c.args.world.now.device.now ((c.args.address - sector_start) / 1024) c.in-Some.sector.now there)
    c.if-place-lt-BLOCK.false)

pub returns-in_default-2 : goal.returns-in_default-2
returns-in_default-2 g c =
    let device : List (List ℕ) = g.D.Device.content c.args.world.now.device.now in
    let none : slice_get device ((c.args.address - sector_start) / 1024) ≡ None = sym (rw c.in_default.is at c.sector_at.ensures.sector) in
    sym (no_sector_read c.args.world.now.context device c.args.machine.now.frames c.args.address (byte_count c.args.size) (some_bytes c.args.size) c.requires none)

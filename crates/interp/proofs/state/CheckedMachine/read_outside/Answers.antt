use Rattle.std.proofs.Common.{ℕ, ◌≡◌, List, length, rules}
use Rattle.interp.proofs.state.CheckedMachine.read_outside.Goals as goal

pub returns-then-address-lt-SECTOR_START : goal.returns-then-address-lt-SECTOR_START
returns-then-address-lt-SECTOR_START g c =
    let device : List (List ℕ) = g.D.Device.content c.args.world.now.device.now in
    let long : length c.args.world.now.context ≡ 32 = search rules in
    c.read_above.ensures c.args.world.now.context device long

use Rattle.std.proofs.Common.{◌+◌, ◌/◌, ◌%◌, length, arith}
use Rattle.helpers.proofs.Summed.{part_is}
use Rattle.helpers.proofs.copying.bytes_from.Goals as goal

pub returns-clause-bytes : goal.returns-clause-bytes
returns-clause-bytes g c =
    let place = c.args.position % 512 + c.args.distance in
    part_is (g.D.Device.content c.args.device.now) c.args.position c.args.distance (c.args.position / 512 + place / 512) (place % 512) (length c.part.result.now) c.sector_or_zeros-sector.result.now c.part.result.now
    (g.met.D.Device.whole c.args.device.now) (omega arith) (omega arith) c.part.ensures.inside c.sector_or_zeros-sector.ensures c.part.ensures.bytes

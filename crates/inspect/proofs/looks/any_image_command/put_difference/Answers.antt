use Rattle.std.proofs.Common.{arith}
use Rattle.inspect.proofs.AnyShown.{put_both}
use Rattle.inspect.proofs.looks.any_image_command.put_difference.Goals as goal

pub put_sector-requires : goal.put_sector-requires
put_sector-requires c =
    let device = c.sectors-sectors.ensures.bounds.device in
    omega (arith, device, c.requires.device)

pub returns : goal.returns
returns c = λ tears. put_both c.put_sector.result _ _ _ _ _ _ _ c.put_sector.ensures (c.sector-left.ensures tears) (c.sector-right.ensures tears)

use Rattle.std.proofs.Common.{◌∙◌, length, ap}
use Rattle.inspect.proofs.AnyTold.{lost_sectors}
use Rattle.inspect.proofs.looks.any_image_command.lost_bytes.Goals as goal

pub bytes_of-requires : goal.bytes_of-requires
bytes_of-requires c = ap length c.as_slice.ensures.value ∙ c.requires.each

pub returns : goal.returns
returns c = lost_sectors c.args.at.now _ _ _ _ c.requires c.as_slice.ensures.value c.in_ok-bytes.ensures

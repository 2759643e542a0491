use Rattle.images.proofs.Devices.{images_are_devices}
use Rattle.images.proofs.laws.images_are_devices.Goals as goal

pub returns : goal.returns
returns c = images_are_devices

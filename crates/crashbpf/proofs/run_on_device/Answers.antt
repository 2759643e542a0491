use Rattle.crashbpf.proofs.Ending.{ends_meant}
use Rattle.crashbpf.proofs.run_on_device.Goals as goal

pub returns : goal.returns
returns g c = ends_meant c.args.words.now _ _ c.args.inputs.now _ _ _ _ c.set_size.ensures c.base_sectors.ensures c.run.ensures

use Rattle.runs.proofs.Unseeing.{blind_pass}
use Rattle.runs.proofs.laws.blind_programs_pass.Goals as goal

pub returns : goal.returns
returns c = blind_pass c.agreeing_devices_are_judged_alike.ensures c.covering_tells.ensures c.images_are_devices.ensures c.lines_are_set.ensures

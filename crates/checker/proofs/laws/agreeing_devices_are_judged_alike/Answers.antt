use Rattle.checker.proofs.Alike.{judged_alike}
use Rattle.checker.proofs.laws.agreeing_devices_are_judged_alike.Goals as goal

pub returns : goal.returns
returns c = judged_alike c.footprint_tells.ensures c.guarded_footprint_tells.ensures

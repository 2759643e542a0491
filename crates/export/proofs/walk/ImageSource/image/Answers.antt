use Rattle.std.proofs.Common.{◌∙◌, ap}
use Rattle.export.specs.Export.{AskedValue}
use Rattle.export.proofs.Walking.{device_is}
use Rattle.export.proofs.walk.ImageSource.image.Goals as goal

pub returns-clause-device : goal.returns-clause-device
returns-clause-device c =
    device_is c.args.self.now c.args.place c.args.choice.now c.self.inside.history.now c.in_ok-image.image c.requires
    (c.self.invariant.0 ∙ ap (λ (a : AskedValue). a.plan) c.self.view_is) c.in_ok-image.ensures

use Rattle.std.proofs.Common.{◌∙◌, sym, ap}
use Rattle.inspect.specs.TrialImage.{ImageValue, length_device}
use Rattle.inspect.proofs.trial.image.GivenImageDevice.sectors.Goals as goal

pub returns : goal.returns
returns c = ap (λ (v : ImageValue). v.sectors) c.self.view_is ∙ sym (length_device c.args.self.now.bytes c.args.self.now.sectors)

use Rattle.std.proofs.Common.{◌∙◌, sym, ap}
use Rattle.logfmt.specs.Bounds.{LogValue}
use Rattle.images.specs.Whole.{length_view}
use Rattle.images.proofs.view.ViewDevice.sectors.Goals as goal

pub returns : goal.returns
returns c = c.sectors.ensures.value ∙ ap (λ (l : LogValue). l.sectors) c.log.ensures ∙ sym (length_view c.args.self.now)

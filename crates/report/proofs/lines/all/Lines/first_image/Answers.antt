use Rattle.std.proofs.Common.{◌∙◌, ap}
use Rattle.report.specs.Images.{first_image}
use Rattle.report.proofs.Order.{first_of_first}
use Rattle.report.proofs.lines.all.Lines.first_image.Goals as goal

pub returns-clause-alike : goal.returns-clause-alike
returns-clause-alike c = c.first.ensures ∙ c.self.invariant.0.images.first_is ∙ ap first_image c.self.view_is ∙ first_of_first c.args.self.now

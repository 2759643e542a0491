use Rattle.std.proofs.Common.{◌∙◌, ap, List, None}
use Rattle.report.specs.Line.{FailingLine}
use Rattle.report.specs.Images.{changes_after}
use Rattle.report.proofs.Order.{changes_are_images}
use Rattle.report.proofs.lines.all.Lines.image_count.Goals as goal

pub returns : goal.returns
returns c =
    c.self.invariant.0.images.count_is ∙ ap (λ (ls : List FailingLine). changes_after None ls) c.self.view_is ∙ changes_are_images c.args.self.now c.requires

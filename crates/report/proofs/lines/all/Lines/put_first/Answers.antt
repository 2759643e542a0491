use Rattle.std.proofs.Common.{ℕ, ◌∙◌, ◌++◌, List, ap, sym}
use Rattle.std.specs.List.{flat_map}
use Rattle.report.specs.Line.{FailingLine}
use Rattle.report.specs.Images.{leading}
use Rattle.report.specs.LineText.{line_text}
use Rattle.report.proofs.Order.{first_are_leading}
use Rattle.report.proofs.lines.all.Lines.put_first.Goals as goal

pub returns : goal.returns
returns c =
    c.in_ok-extend_from_slice.ensures.items
    ∙ ap (λ (more : List ℕ). c.args.out.now.items ++ more) (c.as_slice.ensures.value
    ∙ c.self.invariant.0.leading_is
    ∙ ap (λ (ls : List FailingLine). flat_map line_text (leading ls)) c.self.view_is
    ∙ ap (λ (ls : List FailingLine). flat_map line_text ls) (sym (first_are_leading c.args.self.now c.requires)))

use Rattle.std.proofs.Common.{rules, ℕ, ◌≡◌, ◌∙◌, List, length, vec_len, ap, sym}
use Rattle.std.specs.List.{flat_map}
use Rattle.report.specs.Line.{FailingLine}
use Rattle.report.specs.Images.{leading}
use Rattle.report.specs.LineText.{line_text}
use Rattle.report.proofs.Order.{first_are_leading}
use Rattle.report.proofs.lines.all.Lines.first_len.Goals as goal

pub returns : goal.returns
returns c =
    let own : vec_len c.self.inside.leading ≡ length c.self.inside.leading.items = search rules in
    c.len.ensures
    ∙ own
    ∙ ap (λ (text : List ℕ). length text) (c.self.invariant.0.leading_is
    ∙ ap (λ (ls : List FailingLine). flat_map line_text (leading ls)) c.self.view_is
    ∙ ap (λ (ls : List FailingLine). flat_map line_text ls) (sym (first_are_leading c.args.self.now c.requires)))

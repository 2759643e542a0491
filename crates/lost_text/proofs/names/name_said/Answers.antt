use Rattle.std.proofs.Common.{◌∙◌}
use Rattle.report.specs.ChoiceText.{NoNames}
use Rattle.report.specs.Reading.{ReadsAs}
use Rattle.lost_text.proofs.Matching.{at_some}
use Rattle.lost_text.proofs.AnyNames.{word_read}
use Rattle.lost_text.proofs.names.name_said.Goals as goal

pub returns-in-Some : goal.returns-in-Some
returns-in-Some c =
    let way = c.args.by in
    let word = c.args.word.now in
    word_read way word c.in-Some.names.items _
    (at_some _ c.in-Some.names (NoNames way word) (λ x. ReadsAs way word x.items) c.in-Some.is c.in_ok-names.ensures.back)
    (λ n e. c.only_of.ensures n (c.as_slice.ensures.value ∙ e))

use Rattle.std.proofs.Common.{ℕ, ◌≡◌, ◌∙◌, ◌<◌, ◌^◌, ◌++◌, List, [], ◌∷◌, length, string_bytes, rules, refl, ap, sym}
use Rattle.report.specs.Line.{FailingLine}
use Rattle.report.specs.LineValues.{line_value}
use Rattle.report.specs.LineText.{line_text}
use Rattle.report.proofs.Changes.{few_of_both}
use Rattle.report.proofs.Keeping.{said-length, part_more}
use Rattle.report.proofs.Texts.{small_both}
use Rattle.report.proofs.lines.part.LinesPart.push.Goals as goal

pub followed_by-self-inside-requires : goal.followed_by-self-inside-requires
followed_by-self-inside-requires c =
    let count : c.len-count.result ≡ length c.add.new.said.items = search rules in
    let few : c.len-count.result < 2 ^ 64 = search rules in
    few_of_both _ _ _ _ _ _ _ _ c.len-count.result c.self.invariant.0.images (c.of-images.ensures (line_value c.args.line) refl)
    (sym (ap (λ (ls : List FailingLine). length ls) c.in_ok-add.ensures.said) ∙ said-length c.add.new.said.items ∙ sym count) few

pub invariant_of-self-2 : goal.invariant_of-self-2
invariant_of-self-2 c =
    let one = c.of-images.ensures (line_value c.args.line) refl in
    let printed : c.as_str.result.now ≡ line_text (line_value c.args.line) =
    c.as_str.ensures.value ∙ c.in_ok-put_line.ensures ∙ ap (λ (text : List ℕ). text ++ line_text (line_value c.args.line)) c.clear.ensures.bytes in
    let place : c.len.result ≡ length (string_bytes c.add.new.text) = search rules in (
      rw (c.end_of-self-inside.ensures, c.leads_on-leads.ensures, place, c.in_ok-add.ensures.said, c.in_ok-add.ensures.text)
          (part_more _ _ _ _ _ _ _ _ _ _ _ c.self.invariant.0 printed one _ _ _ (c.followed_by-self-inside.ensures _ _ c.self.invariant.0.images one)),
      rw c.in_ok-add.ensures.said (small_both _ (line_value c.args.line ∷ []) c.self.invariant.1 ((search rules, search rules), tt)),
    )

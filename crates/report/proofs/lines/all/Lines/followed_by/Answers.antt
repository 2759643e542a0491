use Rattle.std.proofs.Common.{◌≡◌, ◌∙◌, ◌<◌, ◌^◌, ◌++◌, [], ◌∷◌, List, length, map, string_bytes, rules, ap, sym}
use Rattle.std.specs.List.{flat_map}
use Rattle.std.proofs.lemmas.List.{flat_map_more, map-append}
use Rattle.report.specs.Line.{FailingLine}
use Rattle.report.specs.LineValues.{said_by}
use Rattle.report.proofs.Changes.{few_of_both}
use Rattle.report.proofs.Keeping.{said-append, said-length, kept_both}
use Rattle.report.proofs.Texts.{texts_more}
use Rattle.report.proofs.lines.all.Lines.followed_by.Goals as goal

pub followed_by-requires : goal.followed_by-requires
followed_by-requires c =
    let count : c.len-count.result ≡ length c.append.new.self.items = search rules in
    let few : c.len-count.result < 2 ^ 64 = search rules in
    let all : said_by c.append.new.self.items ≡ said_by c.self.inside.said.items ++ said_by c.part.inside.said.items =
    ap said_by c.in_ok-append.ensures.items ∙ said-append c.self.inside.said.items c.part.inside.said.items in
    few_of_both _ _ _ _ _ _ _ _ c.len-count.result c.self.invariant.0.images c.part.invariant.0.images
    (sym (ap (λ (ls : List FailingLine). length ls) all) ∙ said-length c.append.new.self.items ∙ sym count) few

pub invariant_of-result : goal.invariant_of-result
invariant_of-result c =
    let all : said_by c.append.new.self.items ≡ said_by c.self.inside.said.items ++ said_by c.part.inside.said.items =
    ap said_by c.in_ok-append.ensures.items ∙ said-append c.self.inside.said.items c.part.inside.said.items in
    let texts : flat_map (λ t. string_bytes t) c.push.new.self.items ≡ flat_map (λ t. string_bytes t) c.self.inside.texts.items ++ string_bytes c.part.inside.text =
    ap (flat_map (λ t. string_bytes t)) c.in_ok-push.ensures.items ∙ sym (flat_map_more (λ t. string_bytes t) [] c.self.inside.texts.items c.part.inside.text) in (
      rw (all, texts, c.in_ok-add_leading.ensures, c.as_bytes.ensures.value, c.leads_on-leads.ensures)
          (kept_both _ _ _ _ _ _ _ _ _ _ _ _ c.self.invariant.0 c.part.invariant.0 _ _ _ (c.followed_by.ensures _ _ c.self.invariant.0.images c.part.invariant.0.images)),
      rw (all, ap (map (λ t. string_bytes t)) c.in_ok-push.ensures.items, map-append (λ t. string_bytes t) c.self.inside.texts.items (c.part.inside.text ∷ []))
          (texts_more _ _ _ _ c.self.invariant.1 c.part.invariant.1 c.part.invariant.0.text_is),
    )

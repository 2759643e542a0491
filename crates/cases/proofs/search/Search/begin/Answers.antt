use Rattle.std.proofs.Common.{◌≡◌, ◌∷◌, length, reverse, ◌∙◌, ap}
use Rattle.cases.specs.Cases.{whole_case}
use Rattle.cases.specs.AtCut.{parts_of, case_of}
use Rattle.cases.specs.Search.{SearchValue, others}
use Rattle.cases.proofs.Paths.{new_case}
use Rattle.cases.proofs.search.Search.begin.Goals as goal

pub returns-clause-pending : goal.returns-clause-pending
returns-clause-pending c =
    let tears = c.self.inside.tears in
    let parts = parts_of c.self.inside.rows in
    let own : case_of tears parts c.in_ok-sets.sets.items ≡ whole_case tears =
    ap (case_of tears parts) c.in_ok-sets.ensures ∙ (λ j p. new_case tears parts (length c.parts-count.result.now) c.all_of.result p c.all_of.ensures j) in
    let same : whole_case tears ≡ whole_case c.args.self.now.tears = ap (λ (v : SearchValue). whole_case v.tears) c.self.view_is in
    λ i. (own ∙ same) i ∷ others tears parts c.in_ok-sets.sets.items (reverse (c.clear.ensures.items i))

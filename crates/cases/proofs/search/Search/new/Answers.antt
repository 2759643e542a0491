use Rattle.std.proofs.Common.{◌≡◌, ◌∷◌, length, reverse, ◌∙◌, ap}
use Rattle.cases.specs.Cases.{whole_case}
use Rattle.cases.specs.AtCut.{parts_of, case_of}
use Rattle.cases.specs.Search.{others}
use Rattle.cases.proofs.Paths.{new_case}
use Rattle.cases.proofs.search.Search.new.Goals as goal

pub returns-clause-pending : goal.returns-clause-pending
returns-clause-pending c =
    let parts = parts_of c.new-rows.result in
    let own : case_of c.args.tears parts c.in_ok-sets.sets.items ≡ whole_case c.args.tears =
    ap (case_of c.args.tears parts) c.in_ok-sets.ensures ∙ (λ j p. new_case c.args.tears parts (length c.parts.result.now) c.all_of.result p c.all_of.ensures j) in
    λ i. own i ∷ others c.args.tears parts c.in_ok-sets.sets.items (reverse (c.new.ensures.items i))

use Rattle.std.proofs.Common.{ℕ, List, reverse, sym, subst, ◌∙◌, ap}
use Rattle.cases.specs.Trees.{Program}
use Rattle.cases.specs.AtCut.{parts_of, case_of, image_of}
use Rattle.cases.specs.Search.{Descends}
use Rattle.cases.proofs.search.descend.Goals as goal

pub returns-clause-ending : goal.returns-clause-ending
returns-clause-ending g c =
    let at = c.args.rows.now in
    let program = g.J.Judge.program c.args.judge.now in
    c.in_ok-look.ensures.ending ∙ ap (λ (ss : List ℕ). program.ending (image_of at (case_of c.args.tears (parts_of at) ss))) c.as_slice.ensures.value
    ∙ sym (ap program.ending c.in_ok-narrow.ensures.image)

pub returns-clause-leads : goal.returns-clause-leads
returns-clause-leads g c = λ torn lost.
    subst
    (λ (p : Program). Descends (record { at = c.args.rows.now; torn = torn; lost = lost }) p c.args.tears c.args.sets.now.items (reverse c.args.frames.now.items) c.narrow.new.sets.items (reverse c.narrow.new.frames.items))
    c.in_ok-look.ensures.same (c.in_ok-narrow.ensures.leads torn lost)

use Rattle.std.proofs.Common.{◌<◌, length, refl, sym, subst, ◌∙◌, ap, arith}
use Rattle.std.proofs.lemmas.Option.{slice_get_within}
use Rattle.cases.specs.AtCut.{parts_of}
use Rattle.cases.specs.declared.lend.UnitReach.{UnitReach}
use Rattle.cases.specs.Lent.{reach_with, ReachesSo}
use Rattle.cases.proofs.Lending.{reached, whole_unit}
use Rattle.cases.proofs.cut.Cut.reach_of.Goals as goal

pub returns : goal.returns
returns c =
    let within : c.number_of-number.result < length (parts_of c.args.self.now) = slice_get_within (parts_of c.args.self.now) c.number_of-number.result _ c.number_of-number.ensures.part in
    subst (λ (r : UnitReach). ReachesSo c.args.self.now c.args.sets.now c.args.unit r) (sym (c.reach_at.ensures ∙ ap reach_with c.first_number.ensures.fate))
    (reached c.args.self.now c.args.sets.now c.args.unit c.number_of-number.result _ c.requires.unit
    (sym c.risks.ensures ∙ c.if-not-risks.false) c.number_of-number.ensures.apart c.number_of-number.ensures.part (omega (arith, within, c.requires.each)) refl)

pub returns-then-not-risks : goal.returns-then-not-risks
returns-then-not-risks c = whole_unit c.args.self.now c.args.sets.now c.args.unit (sym c.risks.ensures ∙ c.if-not-risks.true)

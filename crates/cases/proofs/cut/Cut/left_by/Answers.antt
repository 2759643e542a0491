use Rattle.std.proofs.Common.{◌<◌, length, refl, sym, ◌∙◌, arith}
use Rattle.std.proofs.lemmas.Option.{slice_get_within}
use Rattle.cases.specs.AtCut.{parts_of}
use Rattle.cases.proofs.Forming.{left_told}
use Rattle.cases.proofs.cut.Cut.left_by.Goals as goal

pub returns : goal.returns
returns c = λ tears i low.
    let within : c.number_of-number.result < length (parts_of c.args.self.now) = slice_get_within (parts_of c.args.self.now) c.number_of-number.result _ c.number_of-number.ensures.part in
    left_told c.args.self.now tears c.args.sets.now c.args.unit c.number_of-number.result _ c.own_part-part.result c.args.pieces c.hidden.result i
    (sym c.risks.ensures ∙ c.if-not-risks.false) c.number_of-number.ensures.apart c.number_of-number.ensures.part (omega (arith, within, c.requires.each)) c.own_part-part.ensures refl
    (c.hidden.ensures.each i low)

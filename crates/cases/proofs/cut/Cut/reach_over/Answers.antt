use Rattle.std.proofs.Common.{◌<◌, length, arith}
use Rattle.std.proofs.lemmas.Option.{slice_get_within}
use Rattle.cases.specs.AtCut.{parts_of}
use Rattle.cases.proofs.Keeping.{over_reach}
use Rattle.cases.proofs.cut.Cut.reach_over.Goals as goal

pub offset_bounds-sets-number : goal.offset_bounds-sets-number
offset_bounds-sets-number c =
    let within : c.args.over.part < length (parts_of c.args.self.now) = slice_get_within (parts_of c.args.self.now) c.args.over.part _ c.requires.over.2.there in
    let here : c.args.over.part < length c.args.sets.now = omega (arith, within, c.requires.each) in
    omega (arith, here)

pub bounds-sets-number : goal.bounds-sets-number
bounds-sets-number c =
    let within : c.args.over.part < length (parts_of c.args.self.now) = slice_get_within (parts_of c.args.self.now) c.args.over.part _ c.requires.over.2.there in
    omega (arith, within, c.requires.each)

pub returns : goal.returns
returns c =
    over_reach c.args.self.now c.args.sets.now c.requires.over.0 c.requires.over.1 c.first_number.result c.args.over c.reach_at.result c.requires.over.2 c.parts-parts.ensures.apart c.requires.each
    c.reach_at.ensures c.first_number.ensures.fate

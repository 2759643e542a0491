use Rattle.std.proofs.Common.{get_or, sym, ◌∙◌, arith}
use Rattle.join.proofs.CaseWalked.{none_on, one_met, own_place}
use Rattle.join.proofs.case_parts.judging.none_stands.Goals as goal

pub returns-then-begins_with : goal.returns-then-begins_with
returns-then-begins_with c =
    let small = c.loop-part-test.true in
    sym (one_met c.args.parts.now c.args.kept.now c.loop-part.left.now c.from_part-left.result.now c.loop-part.part-index (get_or c.args.kept.now c.loop-part.part-index (record { entry = 0; place = 0 })) c.loop-part.invariant
    (omega (arith, small)) (own_place c.args.kept.now c.loop-part.part-index (record { entry = 0; place = 0 }) (omega (arith, small))) c.from_part-left.ensures (sym c.begins_with.ensures ∙ c.if-begins_with.true))

pub loop-part-preserved : goal.loop-part-preserved
loop-part-preserved c =
    let small = c.loop-part-test.true in
    none_on c.args.parts.now c.args.kept.now c.loop-part.left.now c.from_part-left.result.now c.loop-part.part-index (get_or c.args.kept.now c.loop-part.part-index (record { entry = 0; place = 0 })) c.loop-part.invariant
    (omega (arith, small)) (own_place c.args.kept.now c.loop-part.part-index (record { entry = 0; place = 0 }) (omega (arith, small))) c.from_part-left.ensures (sym c.begins_with.ensures ∙ c.if-begins_with.false)

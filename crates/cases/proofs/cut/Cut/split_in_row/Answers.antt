use Rattle.std.proofs.Common.{◌≡◌, ◌<◌, ◌≤◌, length, refl, sym, subst, ◌∙◌, ap, arith}
use Rattle.std.proofs.lemmas.Option.{MatchOption-at_none, slice_get_within}
use Rattle.logfmt.specs.Bounds.{LogValue}
use Rattle.cases.specs.Rows.{row}
use Rattle.cases.specs.AtCut.{parts_of}
use Rattle.cases.specs.Table.{IsNext}
use Rattle.cases.proofs.Splitting.{RowSo, UnitSo, row_start, row_flushed, row_shown, row_durable, row_found, row_passed}
use Rattle.cases.proofs.cut.Cut.split_in_row.Goals as goal

pub row-init : goal.row-init
row-init c =
    subst (λ n. RowSo c.args.self.now c.args.sector c.args.sets.now 255 n) (sym c.number-cut.ensures.value) (row_start c.args.self.now c.args.sector c.args.sets.now)

pub returns-in_default : goal.returns-in_default
returns-in_default c =
    let none : row c.log.result.now.entries c.row.cut c.args.sector ≡ row c.log.result.now.entries c.flush-flush.result c.args.sector =
    MatchOption-at_none (row c.log.result.now.entries c.row.cut c.args.sector ≡ row c.log.result.now.entries c.flush-flush.result c.args.sector) (IsNext c.log.result.now c.row.cut c.args.sector) c.in_default.is c.last_over.ensures.next in
    row_flushed c.args.self.now c.args.sector c.args.sets.now c.row.wanted c.row.cut c.row.invariant
    c.log.ensures.within
    (sym (ap (λ (l : LogValue). row l.entries c.row.cut c.args.sector) c.log.ensures.value) ∙ none
    ∙ (λ i. row (c.log.ensures.value i).entries (c.flush-flush.ensures.value i) c.args.sector))

pub returns-then-not-risks : goal.returns-then-not-risks
returns-then-not-risks c =
    row_durable c.args.self.now c.args.sector c.args.sets.now c.row.wanted c.row.cut c.in-Some.unit c.row.invariant
    (subst (λ (l : LogValue). IsNext l c.row.cut c.args.sector c.in-Some.unit) c.log.ensures.value c.in-Some.ensures.next)
    (sym c.risks.ensures ∙ c.if-not-risks.true)

pub offset_bounds-sets-number : goal.offset_bounds-sets-number
offset_bounds-sets-number c =
    let within : c.number_of-number.result < length (parts_of c.args.self.now) = slice_get_within (parts_of c.args.self.now) c.number_of-number.result _ c.number_of-number.ensures.part in
    let here : c.number_of-number.result < length c.args.sets.now = omega (arith, within, c.requires) in
    omega (arith, here)

pub bounds-sets-number : goal.bounds-sets-number
bounds-sets-number c =
    let within : c.number_of-number.result < length (parts_of c.args.self.now) = slice_get_within (parts_of c.args.self.now) c.number_of-number.result _ c.number_of-number.ensures.part in
    omega (arith, within, c.requires)

pub returns-then-len-gt1 : goal.returns-then-len-gt1
returns-then-len-gt1 c =
    let within : c.number_of-number.result < length (parts_of c.args.self.now) = slice_get_within (parts_of c.args.self.now) c.number_of-number.result _ c.number_of-number.ensures.part in
    let unit : UnitSo c.args.self.now c.args.sector c.args.sets.now c.row.wanted c.row.cut c.in-Some.unit c.number_of-number.result c.matter-pieces.result = record {
      next = subst (λ (l : LogValue). IsNext l c.row.cut c.args.sector c.in-Some.unit) c.log.ensures.value c.in-Some.ensures.next;
      risk = sym c.risks.ensures ∙ c.if-not-risks.false;
      apart = c.number_of-number.ensures.apart;
      there = c.number_of-number.ensures.part;
      within = omega (arith, within, c.requires);
      left = c.matter-pieces.ensures;
    } in
    let many : 1 < length c.groups_of-groups.result.items = omega (arith, c.if-len-gt1.true, c.len.ensures.value) in
    row_found c.args.self.now c.args.sector c.args.sets.now c.row.wanted c.row.cut c.in-Some.unit c.number_of-number.result c.matter-pieces.result _ c.own_part-part.result
    (record { part = c.number_of-number.result; groups = c.groups_of-groups.result }) c.requires c.row.invariant unit c.own_part-part.ensures refl c.groups_of-groups.ensures many refl

pub row-preserved : goal.row-preserved
row-preserved c =
    let within : c.number_of-number.result < length (parts_of c.args.self.now) = slice_get_within (parts_of c.args.self.now) c.number_of-number.result _ c.number_of-number.ensures.part in
    let unit : UnitSo c.args.self.now c.args.sector c.args.sets.now c.row.wanted c.row.cut c.in-Some.unit c.number_of-number.result c.matter-pieces.result = record {
      next = subst (λ (l : LogValue). IsNext l c.row.cut c.args.sector c.in-Some.unit) c.log.ensures.value c.in-Some.ensures.next;
      risk = sym c.risks.ensures ∙ c.if-not-risks.false;
      apart = c.number_of-number.ensures.apart;
      there = c.number_of-number.ensures.part;
      within = omega (arith, within, c.requires);
      left = c.matter-pieces.ensures;
    } in
    let few : length c.groups_of-groups.result.items ≤ 1 = omega (arith, c.if-len-gt1.false, c.len.ensures.value) in
    row_passed c.args.self.now c.args.sector c.args.sets.now c.row.wanted c.row.cut c.in-Some.unit c.number_of-number.result c.matter-pieces.result _ c.hidden-wanted.result c.own_part-part.result
    c.groups_of-groups.result.items c.row.invariant unit c.own_part-part.ensures refl c.groups_of-groups.ensures few c.hidden-wanted.ensures.pieces
    (subst (λ n. n ≤ c.in-Some.unit.entry) c.flush-flush.ensures.value c.in-Some.ensures.low)

pub returns : goal.returns
returns c = row_shown c.args.self.now c.args.sector c.args.sets.now c.row.wanted c.row.cut c.row.invariant (omega (arith, c.row-test.false))

pub last_over-requires-clause-floor : goal.last_over-requires-clause-floor
last_over-requires-clause-floor c = let high = c.row.invariant.high in omega (arith, high, c.flush-flush.ensures.value)

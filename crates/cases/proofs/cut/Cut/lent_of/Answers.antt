use Rattle.std.proofs.Common.{ℕ, ◌≤◌, List, length, refl, ◌∙◌, ap, arith}
use Rattle.std.proofs.lemmas.Option.{slice_get_read}
use Rattle.logfmt.specs.Bounds.{LogValue}
use Rattle.logfmt.specs.Initial.{initial_sector}
use Rattle.epochs.specs.Units.{unit_content}
use Rattle.epochs.proofs.Contents.{unit_is_sector}
use Rattle.cases.proofs.Keeping.{held_start, held_next, held_gone, held_whole, held_base, base_unit, base_none, held_unit, held_none, held_torn}
use Rattle.cases.proofs.cut.Cut.lent_of.Goals as goal

pub loop-place-init : goal.loop-place-init
loop-place-init c = held_start c.args.self.now c.args.known.now c.args.sets.now c.number-cut.result c.requires.row c.number-cut.ensures.value

pub reach_over-requires-clause-over : goal.reach_over-requires-clause-over
reach_over-requires-clause-over c =
    let there = slice_get_read c.args.known.now.over.items _ c.loop-place.place c.index-over.result.now refl (let t = c.loop-place-test.true in let n = c.len-place-end.ensures in omega (arith, t, n)) c.index-over.ensures in
    (c.loop-place.cut, c.args.known.now.sector, held_next c.args.self.now c.args.known.now c.args.sets.now c.loop-place.cut c.loop-place.place c.index-over.result.now c.loop-place.invariant there)

pub returns-in-Whole : goal.returns-in-Whole
returns-in-Whole c =
    let at = c.args.self.now in
    let there = slice_get_read c.args.known.now.over.items _ c.loop-place.place c.index-over.result.now refl (let t = c.loop-place-test.true in let n = c.len-place-end.ensures in omega (arith, t, n)) c.index-over.ensures in
    let own = c.content_of.ensures ∙ ap (λ (l : LogValue). unit_content l.entries c.index-over.result.now.unit) c.log-log.ensures.value in
    let next = held_next at c.args.known.now c.args.sets.now c.loop-place.cut c.loop-place.place c.index-over.result.now c.loop-place.invariant there in
    held_whole at c.args.known.now c.args.sets.now c.loop-place.cut c.loop-place.place c.index-over.result.now c.content_of.result.now c.log-log.ensures.within c.requires.device c.loop-place.invariant there
    c.in-Whole.ensures own (ap (λ (xs : List ℕ). length xs) own ∙ unit_is_sector at.log c.index-over.result.now.unit c.log-log.ensures.bounds next.next.unit)

pub returns-in-Torn : goal.returns-in-Torn
returns-in-Torn c =
    let there = slice_get_read c.args.known.now.over.items _ c.loop-place.place c.index-over.result.now refl (let t = c.loop-place-test.true in let n = c.len-place-end.ensures in omega (arith, t, n)) c.index-over.ensures in
    held_torn c.args.self.now c.args.known.now c.args.sets.now c.loop-place.cut c.loop-place.place c.index-over.result.now c.loop-place.invariant there c.in-Torn.ensures

pub loop-place-preserved : goal.loop-place-preserved
loop-place-preserved c =
    let there = slice_get_read c.args.known.now.over.items _ c.loop-place.place c.index-over.result.now refl (let t = c.loop-place-test.true in let n = c.len-place-end.ensures in omega (arith, t, n)) c.index-over.ensures in
    held_gone c.args.self.now c.args.known.now c.args.sets.now c.loop-place.cut c.loop-place.place c.index-over.result.now c.log-log.ensures.within c.loop-place.invariant there c.in-Gone.ensures

pub returns-in-Some : goal.returns-in-Some
returns-in-Some c =
    let at = c.args.self.now in
    let past : length c.args.known.now.over.items ≤ c.loop-place.place =
    let t = c.loop-place-test.false in let n = c.len-place-end.ensures in omega (arith, t, n) in
    let base = base_unit at c.loop-place.cut c.args.known.now.sector c.args.known.now.base c.in-Some.unit
    (held_base at c.args.known.now c.args.sets.now c.loop-place.cut c.loop-place.place c.loop-place.invariant past) c.in-Some.is in
    let own = c.content_of-in-Some.ensures ∙ ap (λ (l : LogValue). unit_content l.entries c.in-Some.unit) c.log-log.ensures.value in
    held_unit at c.args.known.now c.args.sets.now c.loop-place.cut c.loop-place.place c.in-Some.unit c.content_of-in-Some.result.now c.log-log.ensures.within c.requires.device c.loop-place.invariant base
    own (ap (λ (xs : List ℕ). length xs) own ∙ unit_is_sector at.log c.in-Some.unit c.log-log.ensures.bounds base.0.unit)

pub returns-in-None : goal.returns-in-None
returns-in-None c =
    let at = c.args.self.now in
    let past : length c.args.known.now.over.items ≤ c.loop-place.place =
    let t = c.loop-place-test.false in let n = c.len-place-end.ensures in omega (arith, t, n) in
    let none = base_none at c.loop-place.cut c.args.known.now.sector c.args.known.now.base
    (held_base at c.args.known.now c.args.sets.now c.loop-place.cut c.loop-place.place c.loop-place.invariant past) c.in-None.is in
    held_none at c.args.known.now c.args.sets.now c.loop-place.cut c.loop-place.place c.sector.result.now c.requires.device c.loop-place.invariant none
    (c.sector.ensures ∙ ap (λ initial. initial_sector initial c.args.known.now.sector) (c.initial.ensures.value ∙ ap (λ (l : LogValue). l.initial) c.log-log.ensures.value))

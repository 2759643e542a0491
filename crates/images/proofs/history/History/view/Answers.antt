use Rattle.std.proofs.Common.{◌≡◌, List, length, slice_get, refl, ◌∙◌, ap, sym, subst, arith}
use Rattle.logfmt.specs.Bounds.{LogValue, IsLog}
use Rattle.epochs.specs.Plan.{PlanValue, IsPart}
use Rattle.choices.specs.declared.choice.Departure.{Departure}
use Rattle.images.specs.Table.{AreParts, DepartOnce}
use Rattle.images.proofs.Members.{member_cut, member_parts, member_once, shows_view}
use Rattle.images.proofs.Tears.{none_tears}
use Rattle.images.proofs.history.History.view.Goals as goal

pub put_torn-requires-clause-bounds : goal.put_torn-requires-clause-bounds
put_torn-requires-clause-bounds c =
    let P : LogValue → Type 0 = λ l. IsLog l in
    subst P (sym c.of-versions.ensures) c.self.invariant.1.bounds

pub put_torn-requires-clause-cut : goal.put_torn-requires-clause-cut
put_torn-requires-clause-cut c =
    let cut = member_cut _ _ c.requires in
    let one = ap (λ (p : PlanValue). length p.log.entries) c.self.view_is in
    let two = ap (λ (l : LogValue). length l.entries) c.self.invariant.0 in
    let three = ap (λ (l : LogValue). length l.entries) c.of-versions.ensures in
    omega (arith, cut, c.cut-cut.ensures, one, two, three)

pub put_torn-requires-clause-parts : goal.put_torn-requires-clause-parts
put_torn-requires-clause-parts c = λ i d there.
    let same : c.args.self.now.log ≡ c.of-versions.result = ap (λ (p : PlanValue). p.log) (sym c.self.view_is) ∙ c.self.invariant.0 ∙ sym c.of-versions.ensures in
    let P : LogValue → Type 0 = λ l. IsLog l in
    let Q : LogValue → Type 0 = λ l. IsPart l d.part in
    let bounds = subst P (sym (ap (λ (p : PlanValue). p.log) (sym c.self.view_is) ∙ c.self.invariant.0)) c.self.invariant.1.bounds in
    let own = ap (λ ds. slice_get ds i) (sym c.departures-own.ensures.value) ∙ there in
    subst Q same (member_parts c.args.self.now c.args.choice.now bounds c.requires i d own)

pub put_torn-requires-clause-once : goal.put_torn-requires-clause-once
put_torn-requires-clause-once c =
    let P : List Departure → Type 0 = λ ds. DepartOnce ds in
    subst P (sym c.departures-own.ensures.value) (member_once c.args.self.now c.args.choice.now c.requires)

pub epoch-requires : goal.epoch-requires
epoch-requires c =
    let cut = member_cut _ _ c.requires in
    omega (arith, cut, c.cut-cut.ensures, ap (λ (p : PlanValue). length p.log.entries) c.self.view_is)

pub marks-requires : goal.marks-requires
marks-requires c =
    let cut = member_cut _ _ c.requires in
    omega (arith, cut, c.cut-cut.ensures, ap (λ (p : PlanValue). length p.log.entries) c.self.view_is)

pub invariant_of-result : goal.invariant_of-result
invariant_of-result c =
    let choice = c.args.choice.now in
    let log = c.of-versions.result in
    let planned : c.self.inside.plan.now.log ≡ log = c.self.invariant.0 ∙ sym c.of-versions.ensures in
    let same : c.args.self.now.log ≡ log = ap (λ (p : PlanValue). p.log) (sym c.self.view_is) ∙ planned in
    let P : LogValue → Type 0 = λ l. AreParts l choice.departures in
    let R : List Departure → Type 0 = λ ds. AreParts log ds in
    let S : LogValue → Type 0 = λ l. IsLog l in
    let bounds = subst S (sym (ap (λ (p : PlanValue). p.log) (sym c.self.view_is) ∙ c.self.invariant.0)) c.self.invariant.1.bounds in
    let parts = subst R (sym c.departures-own.ensures.value) (subst P same (member_parts c.args.self.now choice bounds c.requires)) in
    let cut = member_cut _ _ c.requires in
    let long = ap (λ (l : LogValue). length l.entries) same in
    shows_view log c.self.inside.plan.now.log c.cut-cut.result c.departures_owned-departures.result.items c.departures-own.result.now _
    c.sectors.result c.epoch.result c.marks.result
    (subst S (sym c.of-versions.ensures) c.self.invariant.1.bounds) planned (omega (arith, cut, c.cut-cut.ensures, long)) parts c.put_torn.ensures
    (c.departures_owned-departures.ensures ∙ sym c.departures-own.ensures.value)
    (c.sectors.ensures.value ∙ ap (λ (l : LogValue). l.sectors) (sym c.of-versions.ensures))
    c.epoch.ensures.value c.marks.ensures.value c.epoch.ensures.bound c.marks.ensures.bound

pub invariant_of-result-2 : goal.invariant_of-result-2
invariant_of-result-2 c =
    let choice = c.args.choice.now in
    let log = c.of-versions.result in
    let planned : c.self.inside.plan.now.log ≡ log = c.self.invariant.0 ∙ sym c.of-versions.ensures in
    let same : c.args.self.now.log ≡ log = ap (λ (p : PlanValue). p.log) (sym c.self.view_is) ∙ planned in
    let P : LogValue → Type 0 = λ l. AreParts l choice.departures in
    let R : List Departure → Type 0 = λ ds. AreParts log ds in
    let S : LogValue → Type 0 = λ l. IsLog l in
    let bounds = subst S (sym (ap (λ (p : PlanValue). p.log) (sym c.self.view_is) ∙ c.self.invariant.0)) c.self.invariant.1.bounds in
    let parts = subst R (sym c.departures-own.ensures.value) (subst P same (member_parts c.args.self.now choice bounds c.requires)) in
    let cut = member_cut _ _ c.requires in
    let long = ap (λ (l : LogValue). length l.entries) same in
    shows_view log c.self.inside.plan.now.log c.cut-cut.result c.departures_owned-departures.result.items c.departures-own.result.now _
    c.sectors.result c.epoch.result c.marks.result
    (subst S (sym c.of-versions.ensures) c.self.invariant.1.bounds) planned (omega (arith, cut, c.cut-cut.ensures, long)) parts (none_tears log c.cut-cut.result c.departures-own.result.now _
    (subst S (sym c.of-versions.ensures) c.self.invariant.1.bounds) (omega (arith, cut, c.cut-cut.ensures, long)) parts (c.if-tear_any.ensures refl) c.new.ensures)
    (c.departures_owned-departures.ensures ∙ sym c.departures-own.ensures.value)
    (c.sectors.ensures.value ∙ ap (λ (l : LogValue). l.sectors) (sym c.of-versions.ensures))
    c.epoch.ensures.value c.marks.ensures.value c.epoch.ensures.bound c.marks.ensures.bound

use Rattle.std.proofs.Common.{◌≡◌, length, ap, arith}
use Rattle.epochs.specs.Plan.{PlanValue}
use Rattle.cases.specs.AtCut.{CutValue}
use Rattle.inspect.proofs.AnyTold.{cut_is, none_said, lost_is_so, none_so, told_so}
use Rattle.inspect.proofs.looks.any_image_command.image_at.Goals as goal

pub returns-in_default : goal.returns-in_default
returns-in_default c =
    none_so c.args.options.now c.args.log.now c.args.cut c.args.number _ c.args.said.now (cut_is _ c.args.options.now c.args.log.now _ c.args.number c.in_ok-at.ensures c.by.ensures)
    c.requires.same (none_said _ _ _ _ _ _ c.in_default.is c.tears.ensures c.in_ok-lost.ensures)

pub told-requires-clause-log : goal.told-requires-clause-log
told-requires-clause-log c = ap (λ (x : CutValue). x.log) c.in_ok-at.ensures

pub told-requires-clause-within : goal.told-requires-clause-within
told-requires-clause-within c =
    let cut : c.in_ok-at.at.cut ≡ c.args.number = ap (λ (x : CutValue). x.cut) c.in_ok-at.ensures in
    let same : length c.args.plan.now.log.entries ≡ length c.args.log.now.entries = ap (λ (p : PlanValue). length p.log.entries) c.requires.plan in
    let within = c.requires.within in
    omega (arith, cut, same, within)

pub told-requires-clause-lost : goal.told-requires-clause-lost
told-requires-clause-lost c =
    let own = lost_is_so _ c.in-Some.lost _ _ _ _ (λ x. x.sets.items) (λ x. x.departures.items) c.in-Some.is c.tears.ensures c.in_ok-lost.ensures in
    record { tears = c.args.options.now.tears; each = own.each; departs = own.departs }

pub returns : goal.returns
returns c =
    told_so c.args.form c.args.options.now c.args.log.now c.args.cut c.args.number _ c.args.said.now _ _ _
    (cut_is _ c.args.options.now c.args.log.now _ c.args.number c.in_ok-at.ensures c.by.ensures) c.requires.same c.requires.wanted
    (lost_is_so _ c.in-Some.lost _ _ _ _ (λ x. x.sets.items) (λ x. x.departures.items) c.in-Some.is c.tears.ensures c.in_ok-lost.ensures) c.in_ok-bytes.ensures

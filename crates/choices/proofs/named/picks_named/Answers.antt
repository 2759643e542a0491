use Rattle.std.proofs.Common.{◌≡◌, ◌∙◌, sym, ap, rules, slice_get, Some}
use Rattle.std.proofs.lemmas.Option.{slice_get-get_or}
use Rattle.epochs.specs.Parts.{volatile_parts}
use Rattle.choices.specs.Seeking.{NoPicksOf}
use Rattle.choices.proofs.Naming.{picked, none_picked}
use Rattle.choices.proofs.named.picks_named.Goals as goal

pub returns-in_err-pick : goal.returns-in_err-pick
returns-in_err-pick c =
    let at : slice_get c.args.names.now c.loop-name.name-index ≡ Some c.name-item.result =
    slice_get-get_or c.args.names.now c.loop-name.name-index _ c.loop-name-test.true ∙ ap (λ n. Some n) (sym c.name-item.is) in
    let lost : NoPicksOf (volatile_parts c.args.plan.now.by c.args.plan.now.log.entries c.args.cut) c.args.fates c.args.names.now =
    none_picked _ _ _ _ _ _ c.name-item.result c.loop-name.invariant at c.in_err-pick.ensures.found in
    search rules

pub loop-name-preserved : goal.loop-name-preserved
loop-name-preserved c =
    let at : slice_get c.args.names.now c.loop-name.name-index ≡ Some c.name-item.result =
    slice_get-get_or c.args.names.now c.loop-name.name-index _ c.loop-name-test.true ∙ ap (λ n. Some n) (sym c.name-item.is) in
    rw c.push.ensures.items (picked _ _ _ _ _ _ c.name-item.result c.in_ok-pick.pick c.loop-name.invariant at c.in_ok-pick.ensures.found)

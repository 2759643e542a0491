use Rattle.std.proofs.Common.{List, ℕ, length, map, sym, subst}
use Rattle.std.proofs.lemmas.Result.{on_ok_weaker}
use Rattle.losses.specs.declared.why.cut.CutFailures.{CutFailures}
use Rattle.losses.specs.WhyText.{AreAllNumbered}
use Rattle.losses.proofs.Causes.{tells_one}
use Rattle.losses.proofs.why.causes.put_causes.Goals as goal

pub put_cuts-requires : goal.put_cuts-requires
put_cuts-requires c =
    let s = c.args.starts.now in
    subst (λ (n : ℕ). AreAllNumbered s n c.as_slice.result.now) (sym c.requires.outcomes)
    (subst (λ (cs : List CutFailures). AreAllNumbered s (length c.args.images.now) cs) (sym c.as_slice.ensures.value) c.in_ok-cuts.ensures.numbered)

pub returns : goal.returns
returns c =
    on_ok_weaker c.put_cuts.result
    (λ said.
    tells_one c.args.starts.now c.args.by c.args.images.now (map (λ o. o.now) c.args.outcomes.now) c.args.program c.in_ok-cuts.cuts.items c.as_slice.result.now _ _ c.requires.by
    c.as_slice.ensures.value c.in_ok-cuts.ensures.cuts said)
    c.put_cuts.ensures

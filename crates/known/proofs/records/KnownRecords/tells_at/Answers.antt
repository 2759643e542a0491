use Rattle.std.proofs.Common.{◌≡◌, false, List, slice_get, Some, None, Bor, subst, sym, ◌∙◌, ap}
use Rattle.std.specs.Option.{option_map}
use Rattle.known.specs.declared.records.KeptRun.{KeptRun}
use Rattle.known.specs.Records.{RecordsValue, tells_at}
use Rattle.known.specs.Linked.{there_at}
use Rattle.known.proofs.Telling.{tells_by_none}
use Rattle.known.proofs.Counting.{tells_so}
use Rattle.known.proofs.records.KnownRecords.tells_at.Goals as goal

pub returns-in-Some : goal.returns-in-Some
returns-in-Some c = λ device is.
    let own : slice_get c.self.inside.kept.items c.args.place ≡ Some c.in-Some.kept.now =
    sym (c.kept_at.ensures ∙ ap (λ (ks : List KeptRun). slice_get ks c.args.place) c.as_slice-all.ensures.value) ∙ ap (option_map (λ (k : Bor KeptRun). k.now)) c.in-Some.is in
    subst (λ (v : RecordsValue). c.args.there ≡ there_at v device c.args.place → c.tells.result ≡ tells_at v c.args.marks device c.args.place) c.self.view_is
    (tells_so _ c.self.inside.kept.items c.args.place c.in-Some.kept.now c.args.marks c.args.there _ c.self.invariant.0 own c.tells.ensures device) is

pub returns-in-None : goal.returns-in-None
returns-in-None c = λ device is.
    let own : slice_get c.self.inside.kept.items c.args.place ≡ None =
    sym (c.kept_at.ensures ∙ ap (λ (ks : List KeptRun). slice_get ks c.args.place) c.as_slice-all.ensures.value) ∙ ap (option_map (λ (k : Bor KeptRun). k.now)) c.in-None.is in
    subst (λ (v : RecordsValue). false ≡ tells_at v c.args.marks device c.args.place) c.self.view_is
    (tells_by_none _ c.self.inside.kept.items c.args.place c.args.marks device c.self.invariant.0 own)

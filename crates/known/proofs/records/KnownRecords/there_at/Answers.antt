use Rattle.std.proofs.Common.{◌≡◌, List, slice_get, Some, None, Bor, subst, sym, ◌∙◌, ap}
use Rattle.std.specs.Option.{option_map}
use Rattle.known.specs.declared.records.KeptRun.{KeptRun}
use Rattle.known.specs.Records.{RecordsValue}
use Rattle.known.specs.Linked.{there_at, there_before}
use Rattle.known.proofs.Counting.{there_by, there_none}
use Rattle.known.proofs.records.KnownRecords.there_at.Goals as goal

pub returns-in-Some : goal.returns-in-Some
returns-in-Some g c =
    let own : slice_get c.self.inside.kept.items c.args.place ≡ Some c.in-Some.kept.now =
    sym (c.kept_at.ensures ∙ ap (λ (ks : List KeptRun). slice_get ks c.args.place) c.as_slice-all.ensures.value) ∙ ap (option_map (λ (k : Bor KeptRun). k.now)) c.in-Some.is in
    subst (λ (v : RecordsValue). c.args.before ≡ there_before v (g.D.Device.content c.args.device.now) c.args.place → c.there_after.result ≡ there_at v (g.D.Device.content c.args.device.now) c.args.place) c.self.view_is
    (λ was. there_by _ c.self.inside.kept.items c.args.place c.in-Some.kept.now (g.D.Device.content c.args.device.now) c.args.before _ c.self.invariant.0 c.self.invariant.1 own was c.there_after.ensures) c.requires

pub returns-in-None : goal.returns-in-None
returns-in-None g c =
    let own : slice_get c.self.inside.kept.items c.args.place ≡ None =
    sym (c.kept_at.ensures ∙ ap (λ (ks : List KeptRun). slice_get ks c.args.place) c.as_slice-all.ensures.value) ∙ ap (option_map (λ (k : Bor KeptRun). k.now)) c.in-None.is in
    subst (λ (v : RecordsValue). 0 ≡ there_at v (g.D.Device.content c.args.device.now) c.args.place) c.self.view_is
    (there_none _ c.self.inside.kept.items c.args.place (g.D.Device.content c.args.device.now) c.self.invariant.0 own)

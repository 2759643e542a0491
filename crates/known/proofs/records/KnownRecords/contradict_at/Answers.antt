use Rattle.std.proofs.Common.{◌≡◌, List, slice_get, subst, ◌∙◌, ap}
use Rattle.known.specs.declared.records.KeptRun.{KeptRun}
use Rattle.known.specs.Records.{RecordsValue}
use Rattle.known.specs.Contradictions.{contradict_at, options_contradict}
use Rattle.known.proofs.Contrary.{contradict_kept}
use Rattle.known.proofs.records.KnownRecords.contradict_at.Goals as goal

pub returns : goal.returns
returns c =
    let first = c.kept_at-one.ensures ∙ ap (λ (ks : List KeptRun). slice_get ks c.args.earlier) c.as_slice-all.ensures.value in
    let second = c.kept_at-other.ensures ∙ ap (λ (ks : List KeptRun). slice_get ks c.args.later) c.as_slice-all.ensures.value in
    subst (λ (v : RecordsValue). c.are_contrary.result ≡ contradict_at v c.args.earlier c.args.later) c.self.view_is
    (contradict_kept _ c.self.inside.kept.items c.args.earlier c.args.later _ c.self.invariant.0 (c.are_contrary.ensures ∙ (λ i. options_contradict (first i) (second i))))

use Rattle.std.proofs.Common.{◌≡◌, ◌≤◌, ◌<◌, length, Some, refl, subst, ◌∙◌, ap}
use Rattle.std.specs.Option.{MatchOption}
use Rattle.images.specs.Views.{sectors_of}
use Rattle.images.specs.Keys.{KeyValue, base_of, changed_sectors, most_changed}
use Rattle.images.proofs.Identity.{has_key, no_key}
use Rattle.images.proofs.changes.Changes.key.Goals as goal
use Rattle.images.proofs.changes.Changes.key.Goals.{in-Some, in-None}

pub returns-clause-value : goal.returns-clause-value
returns-clause-value c =
    let view = c.args.view.now in
    let base = base_of view.log view.cut in
    let image = sectors_of view in
    elim c.match-branch-3.branch [
      | in-Some w ↦
          let found =
          subst (λ o. MatchOption o (most_changed < length (changed_sectors base image)) (λ sectors. (sectors.items ≡ changed_sectors base image) × (length sectors.items ≤ most_changed)))
          w.in-Some.is c.in_ok-changed.ensures in
          rw w.result-is
          (ap (λ (k : KeyValue). Some k) w.of.ensures ∙ has_key view 0 c.context-context.result base image _ c.context-context.ensures.value refl refl found.0 found.1)
      | in-None w ↦
          let many =
          subst (λ o. MatchOption o (most_changed < length (changed_sectors base image)) (λ sectors. (sectors.items ≡ changed_sectors base image) × (length sectors.items ≤ most_changed)))
          w.in-None.is c.in_ok-changed.ensures in
          rw w.result-is (no_key view 0 base image refl refl many)
    ]

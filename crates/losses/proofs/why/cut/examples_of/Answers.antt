use Rattle.std.proofs.Common.{sym, ◌∙◌, ap, subst, map, List, ℕ}
use Rattle.losses.specs.FirstParts.{AreChoices}
use Rattle.losses.proofs.Ordered.{are_choices}
use Rattle.losses.proofs.why.cut.examples_of.Goals as goal

pub fold-requires : goal.fold-requires
fold-requires c =
    subst (λ (cs : List (List ℕ)). AreChoices cs) (sym (ap (map (λ ns. ns.items)) c.as_slice.ensures.value ∙ c.in_ok-numbers.ensures))
    (are_choices c.list_is_set.ensures c.args.starts.now c.args.cut c.args.first c.args.images.now c.requires.images)

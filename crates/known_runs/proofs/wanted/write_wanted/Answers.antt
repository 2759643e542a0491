use Rattle.std.proofs.Common.{◌∙◌, ap, sym, subst, List, All}
use Rattle.logfmt.specs.Bounds.{LogValue}
use Rattle.images.specs.Views.{ViewValue}
use Rattle.known_runs.specs.Showing.{AreOfLog}
use Rattle.known_runs.specs.Wanted.{initial_view}
use Rattle.known_runs.proofs.Showing.{all_of_log, first_view}
use Rattle.known_runs.proofs.wanted.write_wanted.Goals as goal

pub put_images-requires-clause-images : goal.put_images-requires-clause-images
put_images-requires-clause-images c =
    subst (λ (l : LogValue). AreOfLog l c.as_slice.result.now) (sym c.requires.plan)
    (subst (λ (vs : List ViewValue). AreOfLog c.args.log.now vs) (sym (c.as_slice.ensures.value ∙ c.in_ok-images.ensures))
    (all_of_log c.args.log.now c.args.by c.args.tears c.args.found.now))

pub put_images-requires-clause-initial : goal.put_images-requires-clause-initial
put_images-requires-clause-initial c =
    c.in_ok-initial.ensures ∙ first_view c.args.log.now c.args.by c.args.tears _ ∙ ap initial_view (sym c.requires.plan)

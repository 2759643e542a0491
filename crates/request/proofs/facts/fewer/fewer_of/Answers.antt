use Rattle.std.proofs.Common.{◌∙◌, ap}
use Rattle.request.specs.Extents.{most_images}
use Rattle.request.proofs.Bounds.{smaller_of}
use Rattle.request.proofs.facts.fewer.fewer_of.Goals as goal

pub returns : goal.returns
returns c = record {
  flush = c.in_ok-images_with.ensures;
  mark = c.in_ok-images_with-2.ensures;
  smaller = smaller_of c.args.options.now c.args.log.now c.in_ok-plan.plan c.cuts.result c.by.result c.tears-tears.result c.bound-bound.result c.most.result c.smaller_bound.result
      c.in_ok-plan.ensures.log c.in_ok-plan.ensures.kind c.in_ok-plan.ensures.by c.cuts.ensures c.by.ensures c.tears-tears.ensures c.bound-bound.ensures.value (c.most.ensures ∙ ap most_images c.extent.ensures.value) c.smaller_bound.ensures;
}

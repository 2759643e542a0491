use Rattle.std.proofs.Common.{◌≡◌, List, None, Some, refl, sym, subst, arith}
use Rattle.choices.specs.declared.choice.Departure.{Departure}
use Rattle.images.specs.Table.{AreParts}
use Rattle.export.proofs.image.ExportedImage.initial.Goals as goal

pub invariant_of-result : goal.invariant_of-result
invariant_of-result c = record {
  bounds = c.sectors-sectors.ensures.bounds;
  within = omega arith;
  departs = subst (λ (ds : List Departure). AreParts c.args.log.now ds) (sym c.new.ensures) (λ i d there. absurd (let bad : None ≡ Some d = there in cc));
  shown = (refl, c.new.ensures);
}

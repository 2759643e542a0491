use Rattle.std.proofs.Common.{refl}
use Rattle.known_runs.proofs.Imaging.{image_of_case}
use Rattle.known_runs.proofs.image.WantedImage.of.Goals as goal

pub invariant_of-result : goal.invariant_of-result
invariant_of-result c =
    image_of_case c.args.log.now (record { log = c.args.log.now; way = c.args.by; cut = c.args.number }) c.in_ok-cut.cut c.args.tears c.args.sets.now c.in_ok-sets.sets.items
    c.into_lost.result.items c.parts.result.now c.parts-count.result.now c.read.new.self c.in_ok-cut.ensures c.sectors-sectors.ensures.bounds c.requires.cut c.parts.ensures.value
    c.parts-count.ensures.value c.in_ok-sets.ensures.long c.in_ok-sets.ensures.same c.in_ok-read.ensures c.into_lost.ensures refl

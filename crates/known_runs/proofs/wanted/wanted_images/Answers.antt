use Rattle.std.proofs.Common.{◌∙◌, ap, get_or, sym, List}
use Rattle.std.proofs.lemmas.List.{take_more}
use Rattle.known_runs.proofs.Showing.{images_more}
use Rattle.known_runs.proofs.wanted.wanted_images.Goals as goal

pub loop-at-preserved : goal.loop-at-preserved
loop-at-preserved c =
    let one = c.at-item.result in
    images_more c.args.log.now c.args.by c.args.tears c.args.found.now c.loop-at.at-index (get_or c.args.found.now c.loop-at.at-index one) one c.loop-at.images.items c.push_cases.new.images.items
    c.as_slice-cases.result.now (take_more c.args.found.now c.loop-at.at-index one c.loop-at-test.true) c.at-item.is c.loop-at.invariant c.as_slice-cases.ensures.value c.in_ok-push_cases.ensures

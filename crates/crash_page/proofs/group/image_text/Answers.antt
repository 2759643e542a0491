use Rattle.crash_page.proofs.Departing.{small}
use Rattle.crash_page.proofs.group.image_text.Goals as goal

pub put_shown-requires-clause-device : goal.put_shown-requires-clause-device
put_shown-requires-clause-device c =
    small c.args.run.now.starts.now.plan c.args.run.now.history.now c.args.run.now.numbering.log.now c.in_ok-image.image c.args.choice.now c.images_are_devices.ensures
    c.sectors-sectors.ensures.bounds c.args.run.now.log_is c.args.run.now.history_is c.in_ok-image.ensures.value

use Rattle.images.proofs.Rows.{no_starts, one_start_more}
use Rattle.images.proofs.table.starts_of.Goals as goal

pub loop-page-init : goal.loop-page-init
loop-page-init c = rw c.in_ok-starts.ensures.items (no_starts c.args.units.now)

pub loop-page-preserved : goal.loop-page-preserved
loop-page-preserved c =
    rw c.in_ok-push.ensures.items
    (one_start_more c.args.units.now c.loop-page.starts.items c.loop-page.page c.count_below.result c.loop-page.invariant
    (record { bound = c.count_below.ensures.bound; before = c.count_below.ensures.before; beyond = c.count_below.ensures.beyond }))

pub returns : goal.returns
returns c = c.loop-page.invariant.1

use Rattle.std.proofs.Common.{rules}
use Rattle.known_text.proofs.Sectors.{row_more}
use Rattle.known_text.proofs.looked.put_sectors.Goals as goal

pub loop-place-preserved : goal.loop-place-preserved
loop-place-preserved c =
    row_more c.args.out.now.items c.loop-place.out.items c.push.new.self.items c.args.range.first c.loop-place.place _ c.loop-place.invariant c.in_ok-push.ensures.items (search rules)

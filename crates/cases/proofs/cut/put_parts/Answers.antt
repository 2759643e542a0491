use Rattle.epochs.specs.Parts.{part_of}
use Rattle.cases.proofs.AtRisk.{put_one, part_made}
use Rattle.cases.proofs.cut.put_parts.Goals as goal

pub loop-place-preserved : goal.loop-place-preserved
loop-place-preserved c =
    put_one (part_of c.args.way c.args.number c.args.entry.now) c.args.parts.now.items c.loop-place.parts.items c.push.new.self.items c.loop-place.place _ c.loop-place.invariant
    c.in_ok-push.ensures.items (part_made c.args.way c.args.number c.args.entry.now c.loop-place.place c.size_of-size.result c.size_of-size.ensures)

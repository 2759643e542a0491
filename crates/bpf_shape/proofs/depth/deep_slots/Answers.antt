use Rattle.std.proofs.Common.{length, refl}
use Rattle.bpf_shape.proofs.Chained.{are_deep}
use Rattle.bpf_shape.proofs.depth.deep_slots.Goals as goal

pub returns : goal.returns
returns c =
    are_deep c.args.program.now (length c.args.program.now) c.requires.edges c.in_ok-outer.outer.items c.in_ok-first.first.items c.in_ok-second.second.items _
    refl c.requires.program.count.some c.requires.entries c.in_ok-outer.ensures c.in_ok-first.ensures c.in_ok-second.ensures c.in_ok-deep.ensures

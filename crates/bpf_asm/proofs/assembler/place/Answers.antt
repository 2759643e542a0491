use Rattle.std.proofs.Common.{sym}
use Rattle.bpf_asm.proofs.assembler.place.Goals as goal

pub distance-requires-clause-to : goal.distance-requires-clause-to
distance-requires-clause-to c = c.requires.labels c.in-Some.name.now c.in-Some-get.to.now (sym c.in-Some-get.ensures.value)

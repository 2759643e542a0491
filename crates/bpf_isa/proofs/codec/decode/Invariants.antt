use Rattle.std.proofs.Common.{length, ◌-◌, ◌/◌}
use Rattle.bpf_isa.specs.Program.{Begins}
use Rattle.bpf_isa.proofs.codec.decode.Given as goal

abbrev pub invariant-loop-slots : goal.invariant-loop-slots
invariant-loop-slots l = Begins l.bytes l.slots.items

abbrev pub decreases-loop-slots : goal.decreases-loop-slots
decreases-loop-slots l = length l.bytes / 8 - length l.slots.items

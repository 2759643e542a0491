use Rattle.std.proofs.Common.{◌≡◌, take}
use Rattle.std.specs.List.{flat_map}
use Rattle.bpf_isa.specs.Program.{slot_bytes}
use Rattle.bpf_isa.proofs.codec.encode.Given as goal

abbrev pub invariant-loop-slot : goal.invariant-loop-slot
invariant-loop-slot l = l.out.items ≡ flat_map slot_bytes (take l.slot-index l.slot-items)

use Rattle.std.proofs.Common.{◌≡◌, string_bytes, take, flat_map}
use Rattle.bpf_asm.specs.Listing.{slot_text}
use Rattle.bpf_asm.proofs.listing.list.Given as goal

abbrev pub invariant-loop-slot : goal.invariant-loop-slot
invariant-loop-slot l = string_bytes l.out ≡ flat_map slot_text (take l.slot l.program)

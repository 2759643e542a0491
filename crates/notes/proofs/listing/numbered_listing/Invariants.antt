use Rattle.std.proofs.Common.{◌≡◌, string_bytes}
use Rattle.std.specs.List.{flat_map, range_with_len}
use Rattle.bpf_isa.specs.Slots.{at}
use Rattle.notes.specs.Listing.{numbered_slot}
use Rattle.notes.proofs.listing.numbered_listing.Given as goal

abbrev pub invariant-loop-slot : goal.invariant-loop-slot
invariant-loop-slot l = string_bytes l.out ≡ flat_map (λ slot. numbered_slot slot (at l.program slot)) (range_with_len 0 l.slot)

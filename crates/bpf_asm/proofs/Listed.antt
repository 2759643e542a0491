-- The listing, slot by slot.
use Rattle.std.proofs.Common.{◌≡◌, ℕ, ◌+◌, ◌<◌, List, [], ◌∷◌, ◌++◌, length, get_or, take, flat_map, slice_get, Option, None, Some, refl}
use Rattle.std.specs.Option.{option_and_then}
use Rattle.std.proofs.lemmas.List.{append-nil, take_more}
use Rattle.std.proofs.lemmas.Option.{slice_get-get_or}
use Rattle.std.proofs.lemmas.Grind.{flat_map-append}
use Rattle.bpf_isa.specs.declared.instr.Instr.{Instr}
use Rattle.bpf_asm.specs.Listing.{slot_text}

pub one_slot : (p : List (Option Instr)) (k : ℕ) → k < length p
    → flat_map slot_text (take (k + 1) p) ≡ flat_map slot_text (take k p) ++ slot_text (option_and_then (λ i. i) (slice_get p k))
one_slot p k there =
    let here : slice_get p k ≡ Some (get_or p k None) = slice_get-get_or p k None there in
    rw (take_more p k None there, flat_map-append slot_text (take k p) (get_or p k None ∷ []), here, append-nil (slot_text (get_or p k None))) refl

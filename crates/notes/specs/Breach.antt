-- The instruction at which a program is refused (docs/REFUSALS.md, Notes).
use Rattle.std.specs.Prelude.{ℕ, List, ◌++◌, codes}
use Rattle.bpf_isa.specs.declared.instr.Instr.{Instr}
use Rattle.notes.specs.Listing.{numbered_line}

abbrev pub slot_note : ℕ → Instr → List ℕ
slot_note slot i = codes "note: slot " ++ numbered_line slot i

-- The faults of a program, by its length and at a slot.
use Rattle.std.proofs.Common.{◌≡◌, ◌≢◌, ℕ, ◌*◌, ◌/◌, ◌%◌, ◌<◌, ◌⊎◌, List, length, Option, Some}
use Rattle.base.specs.Check.{first_failing}
use Rattle.base.specs.declared.causes.CodeCause.{CodeCause}
use Rattle.bpf_isa.specs.declared.instr.Instr.{Instr}
use Rattle.base.specs.declared.causes.CodeCause.TheVariants as cause
use Rattle.bpf_isa.specs.Program.{FirstFault, cut, count, at_slot, IsWhole, Begins, checks_at}

pub is_cut : (bytes : List ℕ) → length bytes % 8 ≢ 0 → FirstFault bytes cause.Length (length bytes / 8)
is_cut bytes h = cut h

pub is_miscounted : (bytes : List ℕ) → length bytes % 8 ≡ 0 → (length bytes ≡ 0) ⊎ (8 * 4096 < length bytes) → FirstFault bytes cause.SlotCount 0
is_miscounted bytes h k = count h k

pub is_at_slot : (bytes : List ℕ) (before : List (Option Instr)) (c : CodeCause) (slot : ℕ) → IsWhole bytes → Begins bytes before → length before < length bytes / 8
    → first_failing (checks_at bytes (length before)) ≡ Some c → slot ≡ length before → FirstFault bytes c slot
is_at_slot bytes before c slot whole begins there fails e = rw e (at_slot c before whole begins there fails)

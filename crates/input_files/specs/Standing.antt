-- The text that stands for a long program (docs/COMMANDS.md, How files are read).
use Rattle.std.specs.Prelude.{ℕ, ◌≡◌, ◌==◌, ◌+◌, ◌/◌, ◌%◌, ◌<◌, ◌≤◌, nat_le, if◌then◌else◌, List, length, slice_get, take, Option, None, Some}
use Rattle.base.specs.declared.causes.CodeCause.{CodeCause}
use Rattle.base.specs.declared.causes.CodeCause.TheVariants as code
use Rattle.base.specs.declared.refusal.Cause.{Cause}
use Rattle.base.specs.declared.refusal.Cause.TheVariants.{Code}
use Rattle.base.specs.declared.refusal.Refusal.{Refusal}
use Rattle.bpf_isa.specs.Program.{FirstFault, HasNoFault}

-- how many bytes stand for a program of that many
abbrev pub standing : ℕ → ℕ
standing n = if nat_le n 32768 then n else if n % 8 == 0 then 32776 else 32768 + n % 8

-- the place of a refusal in the whole file, of the place in what stands for it: only the slot that is cut is another one
abbrev pub place_in_whole : Cause → ℕ → ℕ → ℕ
place_in_whole (Code code.Length) at n = n / 8
place_in_whole _ at n = at

-- the bytes that stand for a program
abbrev pub stand_in : List ℕ → List ℕ
stand_in bytes = take (standing (length bytes)) bytes

-- a program that isn't too long stands for itself
abbrev pub ShortStandsForItself : Type 0
ShortStandsForItself = (bytes : List ℕ) → length bytes ≤ 32768 → stand_in bytes ≡ bytes

-- a fault of what stands for a longer one is a fault of that one too, at its place there
abbrev pub LongIsRefusedAlike : Type 0
LongIsRefusedAlike = (bytes : List ℕ) → 32768 < length bytes → (c : CodeCause) (slot : ℕ) → FirstFault (stand_in bytes) c slot
    → FirstFault bytes c (place_in_whole (Code c) slot (length bytes))

-- what stands for a longer one has a fault
abbrev pub LongIsRefused : Type 0
LongIsRefused = (bytes : List ℕ) → 32768 < length bytes → HasNoFault (stand_in bytes) → ⊥

-- the place among the files of the one that a refusal is of: the program of that number stands after a log
abbrev pub file_of : Option ℕ → ℕ
file_of None = 0
file_of (Some program) = program + 1

-- the refusal of the whole file of that length, of that of what stands for it
abbrev pub refusal_of_length : Refusal → Option ℕ → Refusal
refusal_of_length r None = r
refusal_of_length r (Some n) = record { code = r.code; at = place_in_whole r.code r.at n; program = r.program }

-- the refusal of the whole files of these lengths
abbrev pub refusal_of_files : List ℕ → Refusal → Refusal
refusal_of_files lengths r = refusal_of_length r (slice_get lengths (file_of r.program))

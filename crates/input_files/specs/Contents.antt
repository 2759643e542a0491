-- What is kept of a file, and what is told for its length (docs/COMMANDS.md, How files are read).
use Rattle.std.specs.Prelude.{ℕ, ◌≡◌, ◌+◌, ◌≤◌, ◌<◌, nat_le, if◌then◌else◌, List, length, take, Option, None, Some}
use Rattle.bpf_isa.specs.Program.{HasNoFault}
use Rattle.input_files.specs.declared.kind.FileKind.{FileKind}
use Rattle.input_files.specs.declared.kind.FileKind.TheVariants as kind
use Rattle.input_files.specs.Kinds.{most_of, read_of}
use Rattle.input_files.specs.PartTexts.{part_read}
use Rattle.input_files.specs.RawLogs.{read_raw}
use Rattle.input_files.specs.Standing.{standing}

-- the length of a program that is counted: one of more than 64 MiB counts as one of too many whole slots
abbrev pub counted_length : ℕ → ℕ
counted_length n = if nat_le n 67108864 then n else 67108872

-- the length that is told of a program of which as many bytes are there as are read: what it is said to have, where that is no
-- fewer; else as many as are counted
abbrev pub long_length : Option ℕ → ℕ → ℕ
long_length None n = counted_length n
long_length (Some said) n = if nat_le (read_of kind.Program) said then said else counted_length n

-- the bytes that are read of a file of that kind with these bytes
abbrev pub read_bytes : FileKind → List ℕ → List ℕ
read_bytes (kind.Raw limits) bytes = read_raw limits bytes
read_bytes (kind.Part left) bytes = part_read (left + 1) bytes
read_bytes k bytes = take (read_of k) bytes

-- the length that is told of a file of that kind with these bytes, which is said to have that many: how many are read; but of a program
-- of which as many are read as may be, how many it has
abbrev pub told_length : FileKind → Option ℕ → List ℕ → ℕ
told_length kind.Program said bytes = if nat_le (read_of kind.Program) (length bytes) then long_length said (length bytes) else length bytes
told_length k said bytes = length (read_bytes k bytes)

-- what is kept of these bytes of a file of that kind, of which that length is told: what is read, and of a program what stands for it; of
-- a text that has too many none
abbrev pub kept : FileKind → ℕ → List ℕ → Option (List ℕ)
kept kind.Program told bytes = Some (take (standing told) bytes)
kept kind.Text told bytes = if nat_le told (most_of kind.Text) then Some (read_bytes kind.Text bytes) else None
kept k told bytes = Some (read_bytes k bytes)

-- what was read of a file of that kind with these bytes, which is said to have that many: the length that is told, and what is kept
abbrev pub Holds : FileKind → Option ℕ → List ℕ → Option (List ℕ) → ℕ → Type 0
Holds k said bytes held told = (told ≡ told_length k said bytes) × (held ≡ kept k told bytes)

-- what is kept of a program which is said to have that many bytes
abbrev pub kept_program : Option ℕ → List ℕ → List ℕ
kept_program said bytes = take (standing (told_length kind.Program said bytes)) bytes

-- a program that isn't too long is kept whole, whatever it is said to have
abbrev pub ShortIsKeptWhole : Type 0
ShortIsKeptWhole = (said : Option ℕ) (bytes : List ℕ) → length bytes ≤ most_of kind.Program → kept_program said bytes ≡ bytes

-- what is kept of a longer one has a fault, whatever it is said to have: it is never cut and run
abbrev pub LongIsNeverRun : Type 0
LongIsNeverRun = (said : Option ℕ) (bytes : List ℕ) → most_of kind.Program < length bytes → HasNoFault (kept_program said bytes) → ⊥

-- What a command takes a file for, and how much of it is read (docs/COMMANDS.md, How files are read).
use Rattle.std.specs.Prelude.{ℕ, ◌==◌, ◌+◌, ◌-◌, ◌*◌, Bool, true, false, min, nat_le, nat_lt, ◌&&◌, ◌||◌, if◌then◌else◌, List, bytes_eq, codes, Option, None, Some}
use Rattle.base.specs.Sizes.{byte_limit, raw_limit, sector_limit}
use Rattle.base.specs.declared.limits.Limits.{Limits}
use Rattle.base.specs.declared.causes.AsmCause.TheVariants as asm
use Rattle.base.specs.declared.causes.CodeCause.TheVariants as code
use Rattle.base.specs.declared.causes.LogCause.TheVariants as log
use Rattle.base.specs.declared.refusal.Refusal.{Refusal}
use Rattle.base.specs.declared.causes.JoinCause.TheVariants as joining
use Rattle.base.specs.declared.causes.RequestCause.TheVariants as asked
use Rattle.base.specs.declared.refusal.Cause.TheVariants.{Asm, Code, Join, Log, Request}
use Rattle.base.specs.Refusals.{memory_refusal}
use Rattle.input_files.specs.declared.kind.FileKind.{FileKind}
use Rattle.input_files.specs.declared.kind.FileKind.TheVariants as kind

-- what `check` takes the file at that place for: a program, then an image within these limits, then lines of C
abbrev pub checked_kind : ℕ → Limits → FileKind
checked_kind place limits = if place == 0 then kind.Program else if place == 1 then kind.Image limits else kind.Lines

-- how many parts are joined at most, and how many bytes they have together at most
abbrev pub most_parts : ℕ
most_parts = 4096

abbrev pub most_of_parts : ℕ
most_of_parts = 1024 * 1024 * 1024

-- what the command of that name takes the file at that place for, within these limits; for parts that many bytes are left
abbrev pub kind_of : List ℕ → ℕ → Limits → ℕ → FileKind
kind_of command place limits left =
    if bytes_eq command (codes "asm") then kind.Text
    else if bytes_eq command (codes "import") then kind.Raw limits
    else if bytes_eq command (codes "verify") || bytes_eq command (codes "list") then kind.Program
    else if bytes_eq command (codes "check") then checked_kind place limits
    else if bytes_eq command (codes "join") then kind.Part left
    else if bytes_eq command (codes "report") && place == 1 then kind.Report
    else if place == 0 then kind.Log limits
    else kind.Program

-- how many bytes a file has at most
abbrev pub most_of : FileKind → ℕ
most_of (kind.Log limits) = byte_limit limits
most_of (kind.Raw limits) = raw_limit limits
most_of kind.Program = 8 * 4096
most_of kind.Text = 16 * 1024 * 1024
most_of (kind.Image limits) = 512 * sector_limit limits
most_of kind.Lines = 1024 * 1024
most_of (kind.Part left) = left
most_of kind.Report = 1024 * 1024 * 1024

-- how many bytes are read at most: one more, or of a program a slot more; of a raw log no more
abbrev pub read_of : FileKind → ℕ
read_of kind.Program = most_of kind.Program + 8
read_of (kind.Raw limits) = most_of (kind.Raw limits)
read_of k = most_of k + 1

-- how many bytes are read of what a device of that many sectors held: one more than it has; there is no larger device than the limits
-- allow
abbrev pub base_read : ℕ → Limits → ℕ
base_read sectors limits = 512 * min sectors (sector_limit limits) + 1

-- the number of the program at a place after a log
abbrev pub number_of : ℕ → Option ℕ
number_of place = if nat_le 1 place && nat_le place 256 then Some (place - 1) else None

-- want of memory for the file at a place
abbrev pub memory_of : FileKind → ℕ → Refusal
memory_of (kind.Log limits) place = record { code = Log log.Memory; at = 0; program = None }
memory_of (kind.Raw limits) place = record { code = Log log.Memory; at = 0; program = None }
memory_of kind.Program place = record { code = Code code.Memory; at = 0; program = number_of place }
memory_of kind.Text place = record { code = Asm asm.Memory; at = 0; program = None }
memory_of (kind.Image limits) place = memory_refusal
memory_of kind.Lines place = memory_refusal
memory_of kind.Report place = memory_refusal
memory_of (kind.Part left) place = record { code = Join joining.Memory; at = 0; program = None }

-- how many bytes are left for parts after a file of that many; none where it is a part that has more than were left
abbrev pub left_beyond : FileKind → ℕ → Option ℕ
left_beyond (kind.Part left) length = if nat_le length left then Some (left - length) else None
left_beyond k length = Some most_of_parts

-- whether that many files are more than the command of that name takes
abbrev pub are_too_many : List ℕ → ℕ → Bool
are_too_many command count = bytes_eq command (codes "join") && nat_lt most_parts count

-- whether a file is the text of a part
abbrev pub is_part : FileKind → Bool
is_part (kind.Part left) = true
is_part k = false

-- the file at that place, which can't be read
abbrev pub unreadable_at : ℕ → Refusal
unreadable_at place = record { code = Request asked.File; at = place; program = None }

-- parts that are too many, or too long together, from the file at that place on
abbrev pub too_long_at : ℕ → Refusal
too_long_at place = record { code = Join joining.TooLong; at = place; program = None }

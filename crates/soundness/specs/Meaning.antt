-- What abstract values and states say of the machine (docs/VERIFIER.md, Abstract values and Abstract
-- states).
use Rattle.std.specs.Prelude.{◌≡◌, ◌<◌, ℕ, ◌+◌, ◌-◌, ◌*◌, ◌⊎◌, true, false, List, [], ◌∷◌, length, map, slice_index_or, Option, None, Some, is_some, unwrap_or}
use Rattle.base.specs.Numbers.{number_at}
use Rattle.helpers.specs.Answers.{sector_start}
use Rattle.machine.specs.State.{Frame, State, context_start, stack_start}
use Rattle.intervals.specs.Spans.{Has}
use Rattle.intervals.specs.Reducing.{HasWord}
use Rattle.ranges.specs.Kinds.{Kind, Unset, Word, Num, Ctx, Stack, Sector, SectorOrNull}
use Rattle.ranges.specs.Groups.{GroupKind, Marked, Spilled}
use Rattle.ranges.specs.States.{Abstract}
use Rattle.ranges.specs.Reading.{value}

-- What a value says of a word, on a device of that many sectors, where the frame at hand has this number:
-- a word of both ranges of a number; the address of the context, of the lower end of the frame's stack, or of a
-- sector, and an offset; 0 or the address of a sector.
abbrev pub Describes : ℕ → ℕ → Kind → ℕ → Type 0
Describes sectors frame Unset w = Unit {0}
Describes sectors frame Word w = Unit {0}
Describes sectors frame (Num x) w = HasWord x w
Describes sectors frame (Ctx o) w = w ≡ context_start + o
Describes sectors frame (Stack o) w = w ≡ stack_start + 1024 * frame + o
Describes sectors frame (Sector x) w = (n : ℕ) × (o : ℕ) × (n < sectors) × Has x o × (w ≡ sector_start + 1024 * n + o)
Describes sectors frame SectorOrNull w = (w ≡ 0) ⊎ ((n : ℕ) × (n < sectors) × (w ≡ sector_start + 1024 * n))

-- What it says of a register, which may be unset: of that nothing, where the value is unset.
abbrev pub Means : ℕ → ℕ → Kind → Option ℕ → Type 0
Means sectors frame Unset c = Unit {0}
Means sectors frame k c = (w : ℕ) × (c ≡ Some w) × Describes sectors frame k w

-- a byte of a stack, 0 where it is unset
abbrev pub bare : Option ℕ → ℕ
bare c = unwrap_or c 0

-- byte k of group g of a stack is set
abbrev pub IsSetAt : List (Option ℕ) → ℕ → ℕ → Type 0
IsSetAt stack g k = is_some (slice_index_or stack (8 * g + k) None) ≡ true

-- What a group says of its eight bytes: those that are written are set; of a value that was spilled
-- all are set, and it says what it says of their number.
abbrev pub GroupMeans : ℕ → ℕ → GroupKind → List (Option ℕ) → ℕ → Type 0
GroupMeans sectors frame (Marked marks) stack g = (k : ℕ) → k < 8 → slice_index_or marks k false ≡ true → IsSetAt stack g k
GroupMeans sectors frame (Spilled kind) stack g =
    ((k : ℕ) → k < 8 → IsSetAt stack g k) × Means sectors frame kind (Some (number_at 8 (8 * g) (map bare stack)))

-- the frame at hand is the last one
abbrev pub frame_number : List Frame → ℕ
frame_number frames = length frames - 1

abbrev pub last_stack : List Frame → List (Option ℕ)
last_stack [] = []
last_stack (f ∷ []) = f.stack
last_stack (f ∷ g ∷ rest) = last_stack (g ∷ rest)

-- an abstract state covers the registers and the stack of the frame with this number: register by
-- register, and group by group
pub record CoversFrame (sectors frame : ℕ) (known : Abstract) (words stack : List (Option ℕ)) : Type 0 where
  pub registers : (r : ℕ) → Means sectors frame (value known r) (slice_index_or words r None)
  pub groups : (g : ℕ) → GroupMeans sectors frame (slice_index_or known.groups g (Marked [])) stack g

-- it covers a state of the machine: the frame at hand
abbrev pub Covers : ℕ → Abstract → State → Type 0
Covers sectors known s = CoversFrame sectors (frame_number s.frames) known s.registers (last_stack s.frames)

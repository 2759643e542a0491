-- Where accesses fall, and what is known of the bytes there (docs/VERIFIER.md, Rules at a slot, 3 and
-- 4).
use Rattle.std.specs.Prelude.{ℕ, zero, suc, ◌≤◌, ◌+◌, ◌-◌, ◌/◌, ◌%◌, ◌==◌, nat_le, ◌&&◌, not, Bool, true, false, if◌then◌else◌, ℤ, pos, ◌+ℤ◌, List, [], slice_index_or, Option, None, is_some}
use Rattle.std.specs.Option.{option_map_or}
use Rattle.ranges.specs.declared.place.AccessPlace.{AccessPlace}
use Rattle.ranges.specs.declared.place.AccessPlace.TheVariants as place
use Rattle.ranges.specs.declared.place.ByteMark.{ByteMark}
use Rattle.ranges.specs.declared.place.ByteMark.TheVariants as mark
use Rattle.machine.specs.OwnMemory.{memory_start, memory_size}
use Rattle.ranges.specs.Kinds.{Kind, Num, Ctx, Stack, Sector, is_number}
use Rattle.ranges.specs.Groups.{GroupKind, Marked, Spilled}
use Rattle.ranges.specs.Pointers.{offset_in}

-- where n bytes from an offset on begin, if they lie below the size of a region
abbrev pub landing : ℕ → ℕ → ℕ → ℤ → Option ℕ
landing size n o distance = if nat_le n size then offset_in (size - n) (pos o +ℤ distance) else None

-- where n bytes lie at a distance from a base
unfoldable pub place_of : Kind → ℤ → ℕ → AccessPlace
place_of (Ctx o) distance n = option_map_or (λ at. place.Context at) (landing 32 n o distance) place.Outside
place_of (Stack o) distance n = option_map_or (λ at. place.Stack at) (landing 512 n o distance) place.Outside
place_of (Sector x) distance n =
    if is_some (landing 512 n x.low distance) && is_some (landing 512 n x.high distance) then place.Sector else place.Outside
place_of k distance n = place.Outside

-- whether n bytes at a distance from a number lie in the memory that a program with guards has of its own, whichever it is
abbrev pub in_own : ℕ → ℤ → ℕ → Bool
in_own o distance n = nat_le memory_start o && is_some (landing memory_size n (o - memory_start) distance)

abbrev pub is_own_memory : Kind → ℤ → ℕ → Bool
is_own_memory (Num x) distance n = in_own x.unsigned.low distance n && in_own x.unsigned.high distance n
is_own_memory k distance n = false

-- n bytes in the stack lie below its end
abbrev pub Fits : AccessPlace → ℕ → Type 0
Fits (place.Stack at) n = at + n ≤ 512
Fits p n = Unit {0}

abbrev pub is_inside : AccessPlace → Bool
is_inside place.Outside = false
is_inside p = true

-- a byte of a group; those of a number are written bytes to every rule
abbrev pub mark_in : GroupKind → ℕ → ByteMark
mark_in (Marked marks) k = if slice_index_or marks k false then mark.Written else mark.Unset
mark_in (Spilled k) _ = if is_number k then mark.Written else mark.Pointer

-- a byte of the stack
abbrev pub mark_at : List GroupKind → ℕ → ByteMark
mark_at groups at = mark_in (slice_index_or groups (at / 8) (Marked [])) (at % 8)

abbrev pub is_mark : ByteMark → ByteMark → Bool
is_mark mark.Unset mark.Unset = true
is_mark mark.Written mark.Written = true
is_mark mark.Pointer mark.Pointer = true
is_mark _ _ = false

-- whether none of n bytes from a place on is of a kind
unfoldable pub none_is : ByteMark → List GroupKind → ℕ → ℕ → Bool
none_is m groups at zero = true
none_is m groups at (suc n) = not (is_mark (mark_at groups at) m) && none_is m groups (at + 1) n

-- whether n bytes are the eight of a group
abbrev pub is_group : ℕ → ℕ → Bool
is_group at n = (n == 8) && (at % 8 == 0)

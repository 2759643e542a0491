-- Pointers that arithmetic moves (docs/VERIFIER.md, Rules at a slot, 2). A pointer moves over whole
-- numbers, and stays in the range of its kind.
use Rattle.std.specs.Prelude.{ℕ, nat_le, Bool, if◌then◌else◌, ℤ, pos, negsuc, ◌+ℤ◌, ◌-ℤ◌, Option, None, Some}
use Rattle.std.specs.Option.{option_map, option_and_then}
use Rattle.std.specs.Int.{cast_signed, w64}
use Rattle.intervals.specs.Spans.{Span, span, is_constant}
use Rattle.ranges.specs.Kinds.{Kind, Num, Ctx, Stack, Sector}

-- a whole number as an offset of at most `limit`
abbrev pub offset_in : ℕ → ℤ → Option ℕ
offset_in limit (pos n) = if nat_le n limit then Some n else None
offset_in limit (negsuc n) = None

-- the offsets from one whole number to another
abbrev pub offsets_in : ℕ → ℤ → ℤ → Option Span
offsets_in limit a b = option_and_then (λ low. option_map (λ high. span low high) (offset_in limit b)) (offset_in limit a)

-- the signed number of a constant
abbrev pub constant_of : Span → ℤ
constant_of y = cast_signed w64 y.low

-- an offset at the distance of a constant, after it or before it
abbrev pub moved_offset : Bool → ℕ → Span → ℤ
moved_offset down o y = if down then pos o -ℤ constant_of y else pos o +ℤ constant_of y

-- an offset of one place, moved by a constant
unfoldable pub moved_place : ℕ → Bool → ℕ → Span → Option ℕ
moved_place limit down o y = if is_constant y then offset_in limit (moved_offset down o y) else None

-- the most that a number may be which moves a pointer to a sector and is no constant
abbrev pub most_offset : ℕ
most_offset = 65535

-- offsets in a sector, moved by a constant or by a range of small numbers
unfoldable pub moved_offsets : Bool → Span → Span → Option Span
moved_offsets down x y =
    if is_constant y then offsets_in most_offset (moved_offset down x.low y) (moved_offset down x.high y)
    else if nat_le y.high most_offset then
    (if down then offsets_in most_offset (pos x.low -ℤ pos y.high) (pos x.high -ℤ pos y.low)
    else offsets_in most_offset (pos x.low +ℤ pos y.low) (pos x.high +ℤ pos y.high))
    else None

-- a pointer moved by a number, forward or down; None where it isn't allowed
unfoldable pub moved_pointer : Bool → Kind → Kind → Option Kind
moved_pointer down (Ctx o) (Num y) = option_map (λ p. Ctx p) (moved_place 32 down o y.unsigned)
moved_pointer down (Stack o) (Num y) = option_map (λ p. Stack p) (moved_place 512 down o y.unsigned)
moved_pointer down (Sector x) (Num y) = option_map (λ z. Sector z) (moved_offsets down x y.unsigned)
moved_pointer down k l = None

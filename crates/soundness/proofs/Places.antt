-- Where accesses fall.
use Rattle.std.proofs.Common.{◌≡◌, ◌<◌, ◌≤◌, ℕ, ◌+◌, ◌-◌, ◌*◌, ◌%◌, ◌^◌, ◌&&◌, true, false, if◌then◌else◌, ℤ, Option, None, Some, is_some, refl, ap, ◌∙◌, arith}
use Rattle.std.specs.Prelude.{FitsSigned}
use Rattle.std.specs.Option.{option_map_or}
use Rattle.std.specs.Int.{cast_unsigned, w16, w64}
use Rattle.base.specs.Sizes.{most_sectors}
use Rattle.helpers.specs.Answers.{sector_start}
use Rattle.machine.specs.State.{context_start, stack_start}
use Rattle.intervals.specs.Spans.{Span, span, IsSpan, Has}
use Rattle.ranges.specs.declared.place.AccessPlace.{AccessPlace}
use Rattle.ranges.specs.declared.place.AccessPlace.TheVariants as place
use Rattle.ranges.specs.Kinds.{Kind, Unset, Word, Num, Ctx, Stack, Sector, SectorOrNull}
use Rattle.ranges.specs.Order.{IsBounded}
use Rattle.ranges.specs.Places.{landing, place_of, is_inside}
use Rattle.soundness.specs.Meaning.{Describes}
use Rattle.soundness.proofs.Shifts.{landed_is, reached}
use Rattle.soundness.proofs.Standing.{AreFew}
use Rattle.soundness.proofs.Pointers.{between_up}

-- an access to n bytes from an address on lies in its region, where the frame at hand has this number
abbrev pub Lands : ℕ → ℕ → AccessPlace → ℕ → ℕ → Type 0
Lands sectors frame place.Outside n a = ⊥
Lands sectors frame (place.Context at) n a = (a ≡ context_start + at) × (at + n ≤ 32)
Lands sectors frame (place.Stack at) n a = (a ≡ stack_start + 1024 * frame + at) × (at + n ≤ 512)
Lands sectors frame place.Sector n a = (q : ℕ) × (o : ℕ) × (q < sectors) × (o + n ≤ 512) × (a ≡ sector_start + 1024 * q + o)

in_region : (sectors frame start : ℕ) (x : Span) (distance : ℤ) (n q o : ℕ) (a b : Option ℕ) → landing 512 n x.low distance ≡ a → landing 512 n x.high distance ≡ b
    → sectors ≤ most_sectors → q < sectors → start ≡ sector_start + 1024 * q → FitsSigned w16 distance → IsSpan 65535 x → Has x o
    → is_inside (if is_some a && is_some b then place.Sector else place.Outside) ≡ true
    → Lands sectors frame (if is_some a && is_some b then place.Sector else place.Outside) n ((start + o + cast_unsigned w64 distance) % 2 ^ 64)
in_region sectors frame start x distance n q o None b ea eb few lt from fits span has inside = absurd (let bad : false ≡ true = inside in cc)
in_region sectors frame start x distance n q o (Some lo) None ea eb few lt from fits span has inside = absurd (let bad : false ≡ true = inside in cc)
in_region sectors frame start x distance n q o (Some lo) (Some hi) ea eb few lt from fits span has inside =
    let l = landed_is 512 n x.low lo distance ea in
    let h = landed_is 512 n x.high hi distance eb in
    let z : Span = record { low = lo; high = hi } in
    let there = between_up x z distance o l.0 h.0 has in
    let upto = there.1.upto in let near = has.upto in let most = span.most in let last = h.1 in
    let fit : lo + (o - x.low) + n ≤ 512 = omega arith in
    let small : start + o < 2 ^ 62 = omega arith in
    let low : start + (lo + (o - x.low)) < 2 ^ 62 = omega arith in
    (q, lo + (o - x.low), lt, fit, reached start o (lo + (o - x.low)) distance fits there.0 small low ∙ ap (λ (v : ℕ). v + (lo + (o - x.low))) from)

pub place_lands : (sectors frame : ℕ) (k : Kind) (distance : ℤ) (n w : ℕ) → AreFew sectors frame → FitsSigned w16 distance → IsBounded k → Describes sectors frame k w
    → is_inside (place_of k distance n) ≡ true → Lands sectors frame (place_of k distance n) n ((w + cast_unsigned w64 distance) % 2 ^ 64)
unfolding place_of
place_lands sectors frame Unset distance n w few fits b d inside = absurd (let bad : false ≡ true = inside in cc)
place_lands sectors frame Word distance n w few fits b d inside = absurd (let bad : false ≡ true = inside in cc)
place_lands sectors frame (Num x) distance n w few fits b d inside = absurd (let bad : false ≡ true = inside in cc)
place_lands sectors frame SectorOrNull distance n w few fits b d inside = absurd (let bad : false ≡ true = inside in cc)
place_lands sectors frame (Ctx o) distance n w few fits b d inside = by (landing 32 n o distance) refl inside
  where
    by : (m : Option ℕ) → landing 32 n o distance ≡ m → is_inside (option_map_or (λ at. place.Context at) m place.Outside) ≡ true
        → Lands sectors frame (option_map_or (λ at. place.Context at) m place.Outside) n ((w + cast_unsigned w64 distance) % 2 ^ 64)
    by None e t = absurd (let bad : false ≡ true = t in cc)
    by (Some at) e t =
        let h = landed_is 32 n o at distance e in
        let last = h.1 in
        (rw d (reached context_start o at distance fits h.0 (omega (arith, b)) (omega arith)), h.1)
place_lands sectors frame (Stack o) distance n w few fits b d inside = by (landing 512 n o distance) refl inside
  where
    by : (m : Option ℕ) → landing 512 n o distance ≡ m → is_inside (option_map_or (λ at. place.Stack at) m place.Outside) ≡ true
        → Lands sectors frame (option_map_or (λ at. place.Stack at) m place.Outside) n ((w + cast_unsigned w64 distance) % 2 ^ 64)
    by None e t = absurd (let bad : false ≡ true = t in cc)
    by (Some at) e t =
        let h = landed_is 512 n o at distance e in
        let last = h.1 in
        (rw d (reached (stack_start + 1024 * frame) o at distance fits h.0 (omega (arith, b, few.frames)) (omega (arith, few.frames))), h.1)
place_lands sectors frame (Sector x) distance n w few fits b d inside =
    rw d.4 (in_region sectors frame (sector_start + 1024 * d.0) x distance n d.0 d.1 (landing 512 n x.low distance) (landing 512 n x.high distance) refl refl few.device d.2 refl fits b d.3 inside)

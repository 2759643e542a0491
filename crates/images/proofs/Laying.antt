-- A unit that is laid over what the units before it have left.
use Rattle.std.proofs.Common.{ℕ, ◌≡◌, ◌≢◌, ◌+◌, ◌-◌, ◌<◌, ◌≤◌, Bool, false, nat_lt, nat_le, ◌&&◌, if◌then◌else◌, List, [], ◌∷◌, ◌++◌, length, map, take, drop, refl, sym, ◌∙◌, ap, arith, inl, inr}
use Rattle.std.specs.List.{range_with_len, slice_index}
use Rattle.std.proofs.lemmas.Bool.{cases_lt, lt-ltb, le-ltb, lt-leb, le-leb, eq-eqb, ne_eqb}
use Rattle.std.proofs.lemmas.Grind.{same_number_lists}
use Rattle.std.proofs.lemmas.List.{length-append, length-take-le, length-drop, get_or-take, get_or-drop, get_or_append_left, get_or-append_right}
use Rattle.std.proofs.lemmas.List.FromFn.{length-map-range_with_len, get_or-map-range_with_len}
use Rattle.logfmt.specs.Bounds.{LogValue}
use Rattle.epochs.specs.declared.unit.Unit.{Unit as LogUnit}
use Rattle.epochs.specs.Units.{unit_content}
use Rattle.choices.specs.declared.choice.Departure.{Departure}
use Rattle.images.specs.Images.{survives, writes, byte_after, sector_after}
use Rattle.images.proofs.Writers.{byte_after-push, byte_after_lost}

-- whether a unit writes in another sector, and in its own
writes_elsewhere : (ds : List Departure) (s i : ℕ) (u : LogUnit) → s ≢ u.sector → writes ds s i u ≡ false
unfolding writes
writes_elsewhere ds s i u other = ap (λ b. b && survives ds i u) (ne_eqb u.sector s (λ e. other (sym e)))

writes_here : (ds : List Departure) (i : ℕ) (u : LogUnit) → writes ds u.sector i u ≡ survives ds i u
unfolding writes
writes_here ds i u = ap (λ b. b && survives ds i u) (eq-eqb u.sector u.sector refl)

-- another sector stays
pub sector_elsewhere : (log : LogValue) (us : List LogUnit) (u : LogUnit) (ds : List Departure) (s : ℕ) → s ≢ u.sector
    → sector_after log us ds s ≡ sector_after log (us ++ u ∷ []) ds s
unfolding sector_after
sector_elsewhere log us u ds s other =
    ap (λ (f : ℕ → ℕ). map f (range_with_len 0 512)) (λ j i. sym (byte_after_lost log us u ds s i (writes_elsewhere ds s i u other)) j)

-- a byte of a spliced sector
pub spliced_byte : (new old : List ℕ) (m i : ℕ) → m ≤ length new → slice_index (take m new ++ drop m old) i ≡ (if nat_lt i m then slice_index new i else slice_index old i)
spliced_byte new old m i le =
    let long : length (take m new) ≡ m = length-take-le m new le in
    elim (cases_lt i m) [
      | inl lt ↦
          get_or_append_left (take m new) (drop m old) 0 i (omega (arith, long, lt)) ∙ get_or-take m new i 0 lt
          ∙ ap (λ b. if b then slice_index new i else slice_index old i) (sym (lt-ltb i m lt))
      | inr past ↦
          let back : m + (i - m) ≡ i = omega (arith, past) in
          get_or-append_right (take m new) (drop m old) m i 0 long past ∙ get_or-drop m old (i - m) 0 ∙ ap (slice_index old) back
          ∙ ap (λ b. if b then slice_index new i else slice_index old i) (sym (le-ltb i m past))
    ]

-- its own sector has the bytes of the unit that survive, and else those of before
pub sector_laid : (log : LogValue) (us : List LogUnit) (u : LogUnit) (ds : List Departure) (new old made : List ℕ) (kept : ℕ → Bool)
    → new ≡ unit_content log.entries u → old ≡ sector_after log us ds u.sector → length made ≡ 512
    → ((i : ℕ) → i < 512 → survives ds i u ≡ kept i)
    → ((i : ℕ) → i < 512 → slice_index made i ≡ (if kept i then slice_index new i else slice_index old i))
    → made ≡ sector_after log (us ++ u ∷ []) ds u.sector
unfolding sector_after
sector_laid log us u ds new old made kept content below size survived bytes =
    let byte : ℕ → ℕ = byte_after log (us ++ u ∷ []) ds u.sector in
    let old_byte : ℕ → ℕ = byte_after log us ds u.sector in
    same_number_lists _ _ (size ∙ sym (length-map-range_with_len byte 0 512)) (λ i lt.
    let within : i < 512 = omega (arith, lt, size) in
    let here : 0 + i ≡ i = omega arith in
    bytes i within
    ∙ ap (λ x. if kept i then x else slice_index old i) (ap (λ xs. slice_index xs i) content)
    ∙ ap (λ x. if kept i then slice_index (unit_content log.entries u) i else x)
    (ap (λ xs. slice_index xs i) below ∙ get_or-map-range_with_len old_byte 0 512 i i 0 within here)
    ∙ ap (λ b. if b then slice_index (unit_content log.entries u) i else old_byte i) (sym (writes_here ds i u ∙ survived i within))
    ∙ sym (byte_after-push log us u ds u.sector i)
    ∙ sym (get_or-map-range_with_len byte 0 512 i i 0 within here))

-- two sectors spliced after m bytes
pub spliced_size : (front beyond : List ℕ) (m : ℕ) → m ≤ 512 → length front ≡ 512 → length beyond ≡ 512 → length (take m front ++ drop m beyond) ≡ 512
spliced_size front beyond m le first second =
    omega (arith, length-append (take m front) (drop m beyond), length-take-le m front (omega (arith, first, le)), length-drop m beyond, second, le)

-- the tests for a byte of the head and of the tail
other_part : (m i : ℕ) (x y : ℕ) → (if nat_lt i m then y else x) ≡ (if nat_le m i then x else y)
other_part m i x y = elim (cases_lt i m) [
  | inl lt ↦ ap (λ b. if b then y else x) (lt-ltb i m lt) ∙ sym (ap (λ b. if b then x else y) (lt-leb m i lt))
  | inr le ↦ ap (λ b. if b then y else x) (le-ltb i m le) ∙ sym (ap (λ b. if b then x else y) (le-leb m i le))
]

pub tail_byte : (new old : List ℕ) (m i : ℕ) → m ≤ length old → slice_index (take m old ++ drop m new) i ≡ (if nat_le m i then slice_index new i else slice_index old i)
tail_byte new old m i le = spliced_byte old new m i le ∙ other_part m i (slice_index new i) (slice_index old i)

-- its first m bytes survive
pub sector_head : (log : LogValue) (us : List LogUnit) (u : LogUnit) (ds : List Departure) (new old : List ℕ) (m : ℕ) → m ≤ 512
    → new ≡ unit_content log.entries u → length new ≡ 512 → old ≡ sector_after log us ds u.sector → length old ≡ 512
    → ((i : ℕ) → i < 512 → survives ds i u ≡ nat_lt i m)
    → take m new ++ drop m old ≡ sector_after log (us ++ u ∷ []) ds u.sector
sector_head log us u ds new old m le content long below old_long kept =
    sector_laid log us u ds new old (take m new ++ drop m old) (λ i. nat_lt i m) content below (spliced_size new old m le long old_long) kept
    (λ i lt. spliced_byte new old m i (omega (arith, long, le)))

-- its bytes from m on survive
pub sector_tail : (log : LogValue) (us : List LogUnit) (u : LogUnit) (ds : List Departure) (new old : List ℕ) (m : ℕ) → m ≤ 512
    → new ≡ unit_content log.entries u → length new ≡ 512 → old ≡ sector_after log us ds u.sector → length old ≡ 512
    → ((i : ℕ) → i < 512 → survives ds i u ≡ nat_le m i)
    → take m old ++ drop m new ≡ sector_after log (us ++ u ∷ []) ds u.sector
sector_tail log us u ds new old m le content long below old_long kept =
    sector_laid log us u ds new old (take m old ++ drop m new) (λ i. nat_le m i) content below (spliced_size old new m le old_long long) kept
    (λ i lt. tail_byte new old m i (omega (arith, old_long, le)))

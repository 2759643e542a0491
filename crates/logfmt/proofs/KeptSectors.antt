-- What initial content says of a sector, by where the sector lies in its bytes.
use Rattle.std.proofs.Common.{ℕ, ◌≡◌, ◌+◌, ◌-◌, ◌*◌, ◌<◌, ◌≤◌, List, ◌++◌, length, drop, replicate, refl, sym, ◌∙◌, inl, inr, arith}
use Rattle.std.specs.List.{slice_index, slice_range}
use Rattle.std.proofs.lemmas.Bool.{cases_lt}
use Rattle.std.proofs.lemmas.Grind.{same_number_lists}
use Rattle.std.proofs.lemmas.List.{get_or-take, get_or-drop, get_or_past, get_or_append_left, get_or-append_right, length-append, length-take-le, length-drop, length-replicate, get_or-replicate}
use Rattle.std.proofs.lemmas.List.FromFn.{length-map-range_with_len, get_or-map-range_with_len}
use Rattle.logfmt.specs.Initial.{initial_byte, initial_sector}

-- a sector by its bytes
by_bytes : (initial : List ℕ) (s : ℕ) (bytes : List ℕ) → length bytes ≡ 512
    → ((i : ℕ) → i < 512 → slice_index bytes i ≡ initial_byte initial s i) → bytes ≡ initial_sector initial s
unfolding initial_sector
by_bytes initial s bytes long each =
    let byte : ℕ → ℕ = initial_byte initial s in
    same_number_lists _ _ (long ∙ sym (length-map-range_with_len byte 0 512)) (λ i lt.
    let within : i < 512 = omega (arith, lt, long) in
    let here : 0 + i ≡ i = omega arith in
    each i within ∙ sym (get_or-map-range_with_len byte 0 512 i i 0 within here))

-- a whole one
pub sector_kept : (initial : List ℕ) (s : ℕ) → 512 * s + 512 ≤ length initial
    → slice_range initial (512 * s) (512 * s + 512) ≡ initial_sector initial s
sector_kept initial s inside =
    let n : 512 * s + 512 - 512 * s ≡ 512 = omega arith in
    let left : length (drop (512 * s) initial) ≡ length initial - 512 * s = length-drop (512 * s) initial in
    by_bytes initial s (slice_range initial (512 * s) (512 * s + 512))
    (rw n (length-take-le 512 (drop (512 * s) initial) (omega (arith, left, inside))))
    (λ i lt. rw n (get_or-take 512 (drop (512 * s) initial) i 0 lt ∙ get_or-drop (512 * s) initial i 0))

-- one after the last byte
pub sector_past : (initial : List ℕ) (s : ℕ) → length initial ≤ 512 * s → replicate {A = ℕ} 512 0 ≡ initial_sector initial s
sector_past initial s past =
    by_bytes initial s (replicate {A = ℕ} 512 0) (length-replicate {A = ℕ} 512 0)
    (λ i lt. get_or-replicate 512 i 0 0 lt ∙ sym (get_or_past initial (512 * s + i) 0 (omega (arith, past))))

-- one of which there is a part: the first sector of what follows the whole ones
pub sector_begun : (initial : List ℕ) (s : ℕ) → initial_sector (drop (512 * s) initial) 0 ≡ initial_sector initial s
unfolding initial_sector
sector_begun initial s =
    let byte : ℕ → ℕ = initial_byte (drop (512 * s) initial) 0 in
    by_bytes initial s (initial_sector (drop (512 * s) initial) 0) (length-map-range_with_len byte 0 512) (λ i lt.
    let here : 0 + i ≡ i = omega arith in
    let there : 512 * 0 + i ≡ i = omega arith in
    get_or-map-range_with_len byte 0 512 i i 0 lt here ∙ rw there (get_or-drop (512 * s) initial i 0))

-- some bytes, fewer than a sector has, and zeros after them
pub filled_sector : (bytes : List ℕ) → length bytes < 512 → bytes ++ drop (length bytes) (replicate {A = ℕ} 512 0) ≡ initial_sector bytes 0
filled_sector bytes few =
    let zeros : List ℕ = replicate {A = ℕ} 512 0 in
    let rest : List ℕ = drop (length bytes) zeros in
    let all : length zeros ≡ 512 = length-replicate {A = ℕ} 512 0 in
    let left : length rest ≡ length zeros - length bytes = length-drop (length bytes) zeros in
    by_bytes bytes 0 (bytes ++ rest) (let both = length-append bytes rest in omega (arith, both, left, all, few)) (λ i lt.
    let there : 512 * 0 + i ≡ i = omega arith in
    rw there (elim (cases_lt i (length bytes)) [
      | inl inside ↦ get_or_append_left bytes rest 0 i inside
      | inr past ↦
          let back : length bytes + (i - length bytes) ≡ i = omega (arith, past) in
          get_or-append_right bytes rest (length bytes) i 0 refl past
          ∙ get_or-drop (length bytes) zeros (i - length bytes) 0
          ∙ rw back (get_or-replicate 512 i 0 0 lt)
          ∙ sym (get_or_past bytes i 0 past)
    ]))

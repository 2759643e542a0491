-- The fields of a slot and its eight bytes, each made of the other.
use Rattle.std.proofs.Common.{◌≡◌, ℕ, ◌+◌, ◌*◌, ◌/◌, ◌%◌, ◌^◌, ◌<◌, ◌≤◌, List, [], ◌∷◌, ◌++◌, length, take, drop, slice_index, Fits, w8, subst, length-drop, refl, sym, ap, ◌∙◌, arith}
use Rattle.std.proofs.lemmas.List.{get_or-drop, drop-drop}
use Rattle.std.proofs.Math.Seq.{take-add}
use Rattle.base.specs.Numbers.{number_at, number_bytes}
use Rattle.bpf_isa.specs.declared.fields.Fields.{Fields}
use Rattle.bpf_isa.specs.Fields.{fields_at, field_bytes}

pub record AreBytes (xs : List ℕ) : Type 0 where
  pub fits : (i : ℕ) → Fits w8 (slice_index xs i)

eight_bytes : (a b c d e f g h : ℕ) → Fits w8 c → Fits w8 d → Fits w8 e → Fits w8 f → Fits w8 g → Fits w8 h
    → field_bytes (fields_at (a ∷ b ∷ c ∷ d ∷ e ∷ f ∷ g ∷ h ∷ []) 0) ≡ a ∷ b ∷ c ∷ d ∷ e ∷ f ∷ g ∷ h ∷ []
unfolding field_bytes fields_at number_at number_bytes
eight_bytes a b c d e f g h hc hd he hf hg hh =
    let rb : b % 16 + 16 * (b / 16) ≡ b = omega arith in
    let x = c + 256 * (d + 256 * 0) in
    let y = e + 256 * (f + 256 * (g + 256 * (h + 256 * 0))) in
    let rc : x % 256 ≡ c = omega arith in
    let rd : x / 256 % 256 ≡ d = omega arith in
    let re : y % 256 ≡ e = omega arith in
    let rf : y / 256 % 256 ≡ f = omega arith in
    let rg : y / 65536 % 256 ≡ g = omega arith in
    let rh : y / 16777216 % 256 ≡ h = omega arith in
    rw (rb, rc, rd, re, rf, rg, rh) refl

-- the first eight bytes are those of the fields that they hold
pub first_bytes : (xs : List ℕ) → 8 ≤ length xs → AreBytes xs → field_bytes (fields_at xs 0) ≡ take 8 xs
unfolding field_bytes fields_at number_at number_bytes
first_bytes (a ∷ b ∷ c ∷ d ∷ e ∷ f ∷ g ∷ h ∷ rest) long bytes =
    eight_bytes a b c d e f g h (bytes.fits 2) (bytes.fits 3) (bytes.fits 4) (bytes.fits 5) (bytes.fits 6) (bytes.fits 7)
first_bytes _ long bytes = absurd (omega arith)

pub record AreFields (f : Fields) : Type 0 where
  pub dst : f.dst < 16
  pub src : f.src < 16
  pub offset : f.offset < 2 ^ 16
  pub immediate : f.immediate < 2 ^ 32

-- the fields are read back from their bytes
pub reads_fields : (f : Fields) (rest : List ℕ) → AreFields f → fields_at (field_bytes f ++ rest) 0 ≡ f
unfolding field_bytes fields_at number_at number_bytes
reads_fields f rest h =
    let dst : (f.dst + 16 * f.src) % 16 ≡ f.dst = omega arith in
    let src : (f.dst + 16 * f.src) / 16 ≡ f.src = omega arith in
    let offset : f.offset % 256 + 256 * (f.offset / 256 % 256 + 256 * 0) ≡ f.offset = omega arith in
    let n = f.immediate in
    let immediate : n % 256 + 256 * (n / 256 % 256 + 256 * (n / 65536 % 256 + 256 * (n / 16777216 % 256 + 256 * 0))) ≡ n = omega arith in
    rw (dst, src, offset, immediate) refl

-- the fields of a slot are those at the head of what begins with it
pub fields_after : (bytes : List ℕ) (n : ℕ) → fields_at bytes n ≡ fields_at (drop (8 * n) bytes) 0
unfolding fields_at number_at
fields_after bytes n =
    let rest = drop (8 * n) bytes in
    let offset : drop 2 rest ≡ drop (8 * n + 2) bytes = drop-drop 2 (8 * n) bytes in
    let immediate : drop 4 rest ≡ drop (8 * n + 4) bytes = drop-drop 4 (8 * n) bytes in
    let opcode : slice_index rest 0 ≡ slice_index bytes (8 * n) = get_or-drop (8 * n) bytes 0 0 ∙ ap (λ (k : ℕ). slice_index bytes k) (omega arith) in
    let registers : slice_index rest 1 ≡ slice_index bytes (8 * n + 1) = get_or-drop (8 * n) bytes 1 0 in
    rw (opcode, registers, offset, immediate) refl

-- the bytes up to the next slot
pub next_slot : (bytes : List ℕ) (n : ℕ) → AreBytes bytes → 8 * n + 8 ≤ length bytes
    → take (8 * n + 8) bytes ≡ take (8 * n) bytes ++ field_bytes (fields_at bytes n)
next_slot bytes n are long =
    let rest = drop (8 * n) bytes in
    let fits : AreBytes rest = record { fits = λ i. let P : ℕ → Type 0 = λ x. Fits w8 x in subst P (sym (get_or-drop (8 * n) bytes i 0)) (are.fits (8 * n + i)) } in
    let eight : field_bytes (fields_at rest 0) ≡ take 8 rest = first_bytes rest (omega (arith, length-drop (8 * n) bytes)) fits in
    rw (take-add (8 * n) 8 bytes, fields_after bytes n, eight) refl

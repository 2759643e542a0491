-- What a table has, and what its bytes leave of a word.
use Rattle.std.proofs.Common.{ℕ, zero, suc, ◌≡◌, ◌+◌, ◌*◌, ◌/◌, ◌%◌, ◌<◌, nat_eq, ◌&&◌, bit_xor, Bool, true, false, List, [], ◌∷◌, length, slice_index_or, refl, sym, ap, ◌∙◌, arith}
use Rattle.std.specs.List.{range_with_len}
use Rattle.std.specs.Int.Bits.{xor_assoc, xor_zero_r}
use Rattle.std.proofs.lemmas.Nat.{xor_shr}
use Rattle.std.proofs.lemmas.List.FromFn.{get_or-range_with_len}
use Rattle.std.proofs.lemmas.Bool.Decides.{nat_tests}
use Rattle.checksums.specs.Checksum.{after_bits, after_byte}
use Rattle.checksums.specs.Tables.{follows, all_follow, is_table}
use Rattle.checksums.proofs.Linear.{after_both, after_more, byte_off}

both : (a b : Bool) → (a && b) ≡ true → (a ≡ true) × (b ≡ true)
both true b h = (refl, h)
both false b h = absurd (let bad : false ≡ true = h in cc)

follows_length : (p : ℕ) (before row : List ℕ) → follows p before row ≡ true → length row ≡ length before
follows_length p [] [] h = refl
follows_length p [] (b ∷ row) h = absurd (let bad : false ≡ true = h in cc)
follows_length p (a ∷ before) [] h = absurd (let bad : false ≡ true = h in cc)
follows_length p (a ∷ before) (b ∷ row) h = ap suc (follows_length p before row (both (nat_eq (after_bits p 8 a) b) (follows p before row) h).1)

row_entry : (p : ℕ) (before row : List ℕ) (i : ℕ) → follows p before row ≡ true → i < length before → slice_index_or row i 0 ≡ after_bits p 8 (slice_index_or before i 0)
row_entry p [] row i h lt = absurd (omega arith)
row_entry p (a ∷ before) [] i h lt = absurd (let bad : false ≡ true = h in cc)
row_entry p (a ∷ before) (b ∷ row) zero h lt =
    let e : nat_eq (after_bits p 8 a) b ≡ true = (both (nat_eq (after_bits p 8 a) b) (follows p before row) h).0 in
    grind (arith, nat_tests)
row_entry p (a ∷ before) (b ∷ row) (suc i) h lt =
    row_entry p before row i (both (nat_eq (after_bits p 8 a) b) (follows p before row) h).1 (omega arith)

rows_entry : (p : ℕ) (before : List ℕ) (rows : List (List ℕ)) (k i : ℕ) → all_follow p before rows ≡ true → k < length rows → i < length before
    → slice_index_or (slice_index_or rows k []) i 0 ≡ after_bits p (8 * suc k) (slice_index_or before i 0)
rows_entry p before [] k i h lt within = absurd (omega arith)
rows_entry p before (row ∷ rows) zero i h lt within = row_entry p before row i (both (follows p before row) (all_follow p row rows) h).0 within
rows_entry p before (row ∷ rows) (suc k) i h lt within =
    let here : follows p before row ≡ true = (both (follows p before row) (all_follow p row rows) h).0 in
    let same : length row ≡ length before = follows_length p before row here in
    rows_entry p row rows k i (both (follows p before row) (all_follow p row rows) h).1 (omega arith) (omega arith)
    ∙ ap (after_bits p (8 * suc k)) (row_entry p before row i here within)
    ∙ sym (after_more p 8 (8 * suc k) (slice_index_or before i 0))
    ∙ ap (λ n. after_bits p n (slice_index_or before i 0)) (let e : 8 + 8 * suc k ≡ 8 * suc (suc k) = omega arith in e)

pub entry : (p : ℕ) (rows : List (List ℕ)) (k i : ℕ) → is_table p rows ≡ true → k < length rows → i < 256
    → slice_index_or (slice_index_or rows k []) i 0 ≡ after_bits p (8 * (k + 1)) i
unfolding is_table
entry p rows k i h lt within =
    rows_entry p (range_with_len 0 256) rows k i h lt within
    ∙ ap (after_bits p (8 * suc k)) (get_or-range_with_len 0 256 i 0 within ∙ (let e : 0 + i ≡ i = omega arith in e))
    ∙ ap (λ n. after_bits p n i) (let e : 8 * suc k ≡ 8 * (k + 1) = omega arith in e)

-- what bytes leave: the first of a number, and the others
off : (p n a x : ℕ) → a < 256 → after_bits p (8 * (n + 1)) (a + 256 * x) ≡ bit_xor (after_bits p (8 * (n + 1)) a) (after_bits p (8 * n) x)
unfolding after_byte
off p n a x h =
    in_two (a + 256 * x) ∙ ap (after_bits p (8 * n)) (byte_off p 0 a x h) ∙ after_both p (8 * n) (after_bits p 8 a) x
    ∙ ap (λ y. bit_xor y (after_bits p (8 * n) x)) (sym (in_two a))
  where
    in_two : (y : ℕ) → after_bits p (8 * (n + 1)) y ≡ after_bits p (8 * n) (after_bits p 8 y)
    in_two y = ap (λ k. after_bits p k y) (let e : 8 * (n + 1) ≡ 8 + 8 * n = omega arith in e) ∙ after_more p 8 (8 * n) y

pub byte_taken : (p r b e : ℕ) → b < 256 → e ≡ after_bits p (8 * (0 + 1)) (bit_xor r b % 256) → bit_xor e (r / 256) ≡ after_byte p r b
unfolding after_byte
byte_taken p r b e h is =
    let y : ℕ = bit_xor r b in
    let high : bit_xor r b / 256 ≡ bit_xor (r / 256) (b / 256) = xor_shr r b 8 in
    let none : b / 256 ≡ 0 = omega arith in
    let rest : bit_xor r b / 256 ≡ r / 256 = high ∙ ap (bit_xor (r / 256)) none ∙ xor_zero_r (r / 256) in
    let whole : bit_xor r b ≡ bit_xor r b % 256 + 256 * (bit_xor r b / 256) = omega arith in
    ap (λ x. bit_xor x (r / 256)) is ∙ ap (bit_xor (after_bits p 8 (bit_xor r b % 256))) (sym rest)
    ∙ sym (byte_off p 0 (bit_xor r b % 256) (bit_xor r b / 256) (omega arith)) ∙ ap (after_bits p 8) (sym whole)

pub word_taken : (p m w a b c d : ℕ) → a < 256 → b < 256 → c < 256 → w ≡ a + 256 * (b + 256 * (c + 256 * d))
    → bit_xor (bit_xor (bit_xor (after_bits p (8 * (m + 3 + 1)) a) (after_bits p (8 * (m + 2 + 1)) b)) (after_bits p (8 * (m + 1 + 1)) c)) (after_bits p (8 * (m + 1)) d)
    ≡ after_bits p (8 * (m + 4)) w
word_taken p m w a b c d ha hb hc is =
    sym (ap (λ k. after_bits p k w) (let e : 8 * (m + 4) ≡ 8 * (m + 3 + 1) = omega arith in e)
    ∙ ap (after_bits p (8 * (m + 3 + 1))) is
    ∙ off p (m + 3) a (b + 256 * (c + 256 * d)) ha
    ∙ ap (bit_xor A) (ap (λ k. after_bits p k (b + 256 * (c + 256 * d))) (let e : 8 * (m + 3) ≡ 8 * (m + 2 + 1) = omega arith in e)
    ∙ off p (m + 2) b (c + 256 * d) hb
    ∙ ap (bit_xor B) (ap (λ k. after_bits p k (c + 256 * d)) (let e : 8 * (m + 2) ≡ 8 * (m + 1 + 1) = omega arith in e) ∙ off p (m + 1) c d hc))
    ∙ sym (xor_assoc A B (bit_xor C D)) ∙ sym (xor_assoc (bit_xor A B) C D))
  where
    A : ℕ
    A = after_bits p (8 * (m + 3 + 1)) a

    B : ℕ
    B = after_bits p (8 * (m + 2 + 1)) b

    C : ℕ
    C = after_bits p (8 * (m + 1 + 1)) c

    D : ℕ
    D = after_bits p (8 * (m + 1)) d

-- Sixteen bytes, as four numbers of four bytes.
use Rattle.std.proofs.Common.{ℕ, ◌≡◌, ◌+◌, ◌-◌, ◌*◌, ◌<◌, ◌≤◌, bit_xor, List, [], ◌∷◌, ◌++◌, length, get_or, take, drop, refl, sym, ap, subst, ◌∙◌, arith}
use Rattle.std.proofs.lemmas.List.{drop-drop, get_or-drop, length-drop, take-append-drop}
use Rattle.std.specs.List.{AllByRecursion}
use Rattle.std.proofs.Math.Seq.{take-add, take-length}
use Rattle.byteorder.specs.Endian.{little_number}
use Rattle.base.specs.Numbers.{number_at}
use Rattle.checksums.specs.Checksum.{after_bits, after_byte, checksum, as_number}
use Rattle.checksums.proofs.Linear.{after_both, after_more, one_number, checksum_append}

-- four bytes as a number
first_four : (xs : List ℕ) → 4 ≤ length xs → little_number 4 xs ≡ as_number (take 4 xs)
first_four [] h = absurd (omega arith)
first_four (a ∷ []) h = absurd (omega arith)
first_four (a ∷ b ∷ []) h = absurd (omega arith)
first_four (a ∷ b ∷ c ∷ []) h = absurd (omega arith)
first_four (a ∷ b ∷ c ∷ d ∷ xs) h = refl

length_four : (xs : List ℕ) → 4 ≤ length xs → length (take 4 xs) ≡ 4
length_four [] h = absurd (omega arith)
length_four (a ∷ []) h = absurd (omega arith)
length_four (a ∷ b ∷ []) h = absurd (omega arith)
length_four (a ∷ b ∷ c ∷ []) h = absurd (omega arith)
length_four (a ∷ b ∷ c ∷ d ∷ xs) h = refl

each_four : (xs : List ℕ) → ((i : ℕ) → get_or xs i 0 < 256) → AllByRecursion (λ b. b < 256) (take 4 xs)
each_four [] h = tt
each_four (a ∷ []) h = (h 0, tt)
each_four (a ∷ b ∷ []) h = (h 0, (h 1, tt))
each_four (a ∷ b ∷ c ∷ []) h = (h 0, (h 1, (h 2, tt)))
each_four (a ∷ b ∷ c ∷ d ∷ xs) h = (h 0, (h 1, (h 2, (h 3, tt))))

four_taken : (p r : ℕ) (xs : List ℕ) → 4 ≤ length xs → ((i : ℕ) → get_or xs i 0 < 256) → checksum p r (take 4 xs) ≡ after_bits p 32 (bit_xor r (little_number 4 xs))
four_taken p r xs h each =
    one_number p r (take 4 xs) (each_four xs each) ∙ ap (λ n. after_bits p (8 * n) (bit_xor r (as_number (take 4 xs)))) (length_four xs h)
    ∙ ap (λ n. after_bits p 32 (bit_xor r n)) (sym (first_four xs h))

-- four numbers, each after the one before
spread : (p a b c d : ℕ)
    → after_bits p 32 (bit_xor (after_bits p 32 (bit_xor (after_bits p 32 (bit_xor (after_bits p 32 a) b)) c)) d)
    ≡ bit_xor (bit_xor (bit_xor (after_bits p 128 a) (after_bits p 96 b)) (after_bits p 64 c)) (after_bits p 32 d)
spread p a b c d =
    after_both p 32 _ d
    ∙ ap (λ x. bit_xor x (after_bits p 32 d)) (ap F (after_both p 32 _ c) ∙ after_both p 32 _ (F c)
    ∙ ap (λ x. bit_xor x (F (F c))) (ap (λ y. F (F y)) (after_both p 32 (F a) b) ∙ ap F (after_both p 32 (F (F a)) (F b)) ∙ after_both p 32 (F (F (F a))) (F (F b))
    ∙ two (sym (four_times a)) (sym (three_times b)))
    ∙ ap (bit_xor (bit_xor (after_bits p 128 a) (after_bits p 96 b))) (sym (twice c)))
  where
    F : ℕ → ℕ
    F = after_bits p 32

    twice : (x : ℕ) → after_bits p 64 x ≡ after_bits p 32 (after_bits p 32 x)
    twice x = after_more p 32 32 x

    three_times : (x : ℕ) → after_bits p 96 x ≡ after_bits p 32 (after_bits p 32 (after_bits p 32 x))
    three_times x = after_more p 32 64 x ∙ after_more p 32 32 (after_bits p 32 x)

    four_times : (x : ℕ) → after_bits p 128 x ≡ after_bits p 32 (after_bits p 32 (after_bits p 32 (after_bits p 32 x)))
    four_times x = after_more p 32 96 x ∙ after_more p 32 64 (after_bits p 32 x) ∙ after_more p 32 32 (after_bits p 32 (after_bits p 32 x))

    two : {x y z w : ℕ} → x ≡ y → z ≡ w → bit_xor x z ≡ bit_xor y w
    two h k = λ i. bit_xor (h i) (k i)

in_four : (n : ℕ) (bytes : List ℕ) → take 16 (drop n bytes) ≡ take 4 (drop n bytes) ++ (take 4 (drop (n + 4) bytes) ++ (take 4 (drop (n + 8) bytes) ++ take 4 (drop (n + 12) bytes)))
in_four n bytes =
    take-add 4 12 (drop n bytes) ∙ ap (λ xs. take 4 (drop n bytes) ++ take 12 xs) (drop-drop 4 n bytes)
    ∙ ap (λ ys. take 4 (drop n bytes) ++ ys) (take-add 4 8 (drop (n + 4) bytes) ∙ ap (λ xs. take 4 (drop (n + 4) bytes) ++ take 8 xs) (drop-drop 4 (n + 4) bytes ∙ ap (λ m. drop m bytes) (let e : n + 4 + 4 ≡ n + 8 = omega arith in e))
    ∙ ap (λ ys. take 4 (drop (n + 4) bytes) ++ ys) (take-add 4 4 (drop (n + 8) bytes) ∙ ap (λ xs. take 4 (drop (n + 8) bytes) ++ take 4 xs) (drop-drop 4 (n + 8) bytes ∙ ap (λ m. drop m bytes) (let e : n + 8 + 4 ≡ n + 12 = omega arith in e))))

-- the bytes of a place on
at_place : (p r n : ℕ) (bytes : List ℕ) → n + 4 ≤ length bytes → ((i : ℕ) → get_or bytes i 0 < 256)
    → checksum p r (take 4 (drop n bytes)) ≡ after_bits p 32 (bit_xor r (number_at 4 n bytes))
unfolding number_at
at_place p r n bytes h each =
    let long : length (drop n bytes) ≡ length bytes - n = length-drop n bytes in
    four_taken p r (drop n bytes) (omega arith) (λ i. subst (λ x. x < 256) (sym (get_or-drop n bytes i 0)) (each (n + i)))

pub block_taken : (p r n : ℕ) (bytes : List ℕ) → n + 16 ≤ length bytes → ((i : ℕ) → get_or bytes i 0 < 256)
    → bit_xor (bit_xor (bit_xor (after_bits p 128 (bit_xor r (number_at 4 n bytes))) (after_bits p 96 (number_at 4 (n + 4) bytes))) (after_bits p 64 (number_at 4 (n + 8) bytes))) (after_bits p 32 (number_at 4 (n + 12) bytes))
    ≡ checksum p r (take 16 (drop n bytes))
block_taken p r n bytes h each =
    sym (ap (checksum p r) (in_four n bytes)
    ∙ checksum_append p r (take 4 (drop n bytes)) _
    ∙ checksum_append p (checksum p r (take 4 (drop n bytes))) (take 4 (drop (n + 4) bytes)) _
    ∙ checksum_append p (checksum p (checksum p r (take 4 (drop n bytes))) (take 4 (drop (n + 4) bytes))) (take 4 (drop (n + 8) bytes)) _
    ∙ at_place p _ (n + 12) bytes (omega arith) each
    ∙ ap (λ x. after_bits p 32 (bit_xor x (number_at 4 (n + 12) bytes))) (at_place p _ (n + 8) bytes (omega arith) each
    ∙ ap (λ x. after_bits p 32 (bit_xor x (number_at 4 (n + 8) bytes))) (at_place p _ (n + 4) bytes (omega arith) each
    ∙ ap (λ x. after_bits p 32 (bit_xor x (number_at 4 (n + 4) bytes))) (at_place p r n bytes (omega arith) each)))
    ∙ spread p (bit_xor r (number_at 4 n bytes)) (number_at 4 (n + 4) bytes) (number_at 4 (n + 8) bytes) (number_at 4 (n + 12) bytes))

-- and after those before it
pub block_after : (p r sum n : ℕ) (bytes : List ℕ) → sum ≡ checksum p r (take (16 * n) bytes)
    → checksum p sum (take 16 (drop (16 * n) bytes)) ≡ checksum p r (take (16 * (n + 1)) bytes)
block_after p r sum n bytes is =
    ap (λ s. checksum p s (take 16 (drop (16 * n) bytes))) is ∙ sym (checksum_append p r (take (16 * n) bytes) (take 16 (drop (16 * n) bytes)))
    ∙ ap (checksum p r) (sym (take-add (16 * n) 16 bytes) ∙ ap (λ m. take m bytes) (let e : 16 * n + 16 ≡ 16 * (n + 1) = omega arith in e))

pub nothing_taken : (p r : ℕ) → r ≡ checksum p r []
unfolding checksum
nothing_taken p r = refl

pub byte_after : (p r sum b : ℕ) (bytes : List ℕ) → sum ≡ checksum p r bytes → after_byte p sum b ≡ checksum p r (bytes ++ b ∷ [])
unfolding checksum
byte_after p r sum b bytes is = ap (λ s. after_byte p s b) is ∙ sym (checksum_append p r bytes (b ∷ []))

pub all_taken : (p r sum n : ℕ) (bytes : List ℕ) → sum ≡ checksum p r (take n bytes) → checksum p sum (take (length bytes - n) (drop n bytes)) ≡ checksum p r bytes
all_taken p r sum n bytes is =
    let long : length (drop n bytes) ≡ length bytes - n = length-drop n bytes in
    let rest : take (length bytes - n) (drop n bytes) ≡ drop n bytes = ap (λ k. take k (drop n bytes)) (sym long) ∙ take-length (drop n bytes) in
    ap (checksum p sum) rest
    ∙ ap (λ s. checksum p s (drop n bytes)) is ∙ sym (checksum_append p r (take n bytes) (drop n bytes)) ∙ ap (checksum p r) (take-append-drop n bytes)

-- Registers add up: what two of them, one over the other, leave is what each leaves.
use Rattle.std.proofs.Common.{ℕ, zero, suc, ◌≡◌, ◌+◌, ◌*◌, ◌/◌, ◌%◌, ◌^◌, ◌<◌, ◌==◌, bit_xor, Bool, if◌then◌else◌, List, [], ◌∷◌, ◌++◌, length, refl, sym, ap, ◌∙◌, arith}
use Rattle.std.specs.Int.Bits.{xor_assoc, xor_self, xor_zero_r}
use Rattle.std.proofs.lemmas.Nat.{xor_comm, xor_shr, xor_mod, xor_block}
use Rattle.checksums.specs.Checksum.{shifted, after_bits, after_byte, checksum, as_number}
use Rattle.checksums.specs.Laws.{IsOfOneNumber}

-- the middle two of four change places
middle : (a b c d : ℕ) → bit_xor (bit_xor a b) (bit_xor c d) ≡ bit_xor (bit_xor a c) (bit_xor b d)
middle a b c d =
    xor_assoc a b (bit_xor c d)
    ∙ ap (bit_xor a) (sym (xor_assoc b c d) ∙ ap (λ x. bit_xor x d) (xor_comm b c) ∙ xor_assoc c b d)
    ∙ sym (xor_assoc a c (bit_xor b d))

last_two : (a b c : ℕ) → bit_xor (bit_xor a b) c ≡ bit_xor (bit_xor a c) b
last_two a b c = xor_assoc a b c ∙ ap (bit_xor a) (xor_comm b c) ∙ sym (xor_assoc a c b)

abbrev lessened : ℕ → ℕ → Bool → ℕ
lessened p h even = if even then h else bit_xor h p

twice_lessened : (p g h : ℕ) → bit_xor g h ≡ bit_xor (bit_xor g p) (bit_xor h p)
twice_lessened p g h = sym (middle g p h p ∙ ap (bit_xor (bit_xor g h)) (xor_self p) ∙ xor_zero_r (bit_xor g h))

low_bit : (x y : ℕ) → bit_xor x y % 2 ≡ bit_xor (x % 2) (y % 2)
low_bit x y = xor_mod x y 1

high_bits : (x y : ℕ) → bit_xor x y / 2 ≡ bit_xor (x / 2) (y / 2)
high_bits x y = xor_shr x y 1

below_two : (x : ℕ) → x % 2 < 2
below_two x = omega arith

pub shifted_both : (p x y : ℕ) → shifted p (bit_xor x y) ≡ bit_xor (shifted p x) (shifted p y)
shifted_both p x y = rw (low_bit x y, high_bits x y) (by (x % 2) (y % 2) (below_two x) (below_two y))
  where
    by : (a b : ℕ) → a < 2 → b < 2
        → lessened p (bit_xor (x / 2) (y / 2)) (bit_xor a b == 0) ≡ bit_xor (lessened p (x / 2) (a == 0)) (lessened p (y / 2) (b == 0))
    by zero zero h k = refl
    by zero (suc zero) h k = xor_assoc (x / 2) (y / 2) p
    by (suc zero) zero h k = last_two (x / 2) (y / 2) p
    by (suc zero) (suc zero) h k = twice_lessened p (x / 2) (y / 2)
    by (suc (suc a)) b h k = absurd (omega arith)
    by zero (suc (suc b)) h k = absurd (omega arith)
    by (suc zero) (suc (suc b)) h k = absurd (omega arith)

pub after_both : (p k x y : ℕ) → after_bits p k (bit_xor x y) ≡ bit_xor (after_bits p k x) (after_bits p k y)
unfolding after_bits
after_both p zero x y = refl
after_both p (suc k) x y = ap (after_bits p k) (shifted_both p x y) ∙ after_both p k (shifted p x) (shifted p y)

pub after_more : (p j k r : ℕ) → after_bits p (j + k) r ≡ after_bits p k (after_bits p j r)
unfolding after_bits
after_more p zero k r = ap (λ n. after_bits p n r) (let e : 0 + k ≡ k = omega arith in e)
after_more p (suc j) k r = ap (λ n. after_bits p n r) (let e : suc j + k ≡ suc (j + k) = omega arith in e) ∙ after_more p j k (shifted p r)

-- zeros in front leave the register in turn
even_shifted : (p x : ℕ) → shifted p (2 * x) ≡ x
even_shifted p x =
    let even : (2 * x) % 2 ≡ 0 = omega arith in
    let half : (2 * x) / 2 ≡ x = omega arith in
    rw (even) half

abbrev doubled : ℕ → ℕ → ℕ
doubled zero x = x
doubled (suc k) x = 2 * doubled k x

zeros_leave : (p k x : ℕ) → after_bits p k (doubled k x) ≡ x
unfolding after_bits
zeros_leave p zero x = refl
zeros_leave p (suc k) x = ap (after_bits p k) (even_shifted p (doubled k x)) ∙ zeros_leave p k x

same_xor : {a b c d : ℕ} → a ≡ b → c ≡ d → bit_xor a c ≡ bit_xor b d
same_xor h k = λ i. bit_xor (h i) (k i)

-- a byte in front of a number
joined : (b x : ℕ) → b < 256 → bit_xor b (256 * x) ≡ b + 256 * x
joined b x h =
    let first : b ≡ 0 * 2 ^ 8 + b = omega arith in
    let last : 256 * x ≡ x * 2 ^ 8 + 0 = omega arith in
    let e : bit_xor (0 * 2 ^ 8 + b) (x * 2 ^ 8 + 0) ≡ bit_xor 0 x * 2 ^ 8 + bit_xor b 0 = xor_block 8 0 x b 0 h (omega arith) in
    let z : bit_xor b 0 ≡ b = xor_zero_r b in
    let n : bit_xor 0 x ≡ x = refl in
    same_xor first last ∙ e ∙ omega (arith, z, n)

-- a register with a number of which the first byte is taken
pub byte_off : (p r b x : ℕ) → b < 256 → after_bits p 8 (bit_xor r (b + 256 * x)) ≡ bit_xor (after_byte p r b) x
unfolding after_byte
byte_off p r b x h =
    ap (λ y. after_bits p 8 (bit_xor r y)) (sym (joined b x h)) ∙ ap (after_bits p 8) (sym (xor_assoc r b (256 * x)))
    ∙ after_both p 8 (bit_xor r b) (256 * x)
    ∙ ap (bit_xor (after_bits p 8 (bit_xor r b))) (ap (after_bits p 8) (let e : 256 * x ≡ doubled 8 x = omega arith in e) ∙ zeros_leave p 8 x)

pub one_number : IsOfOneNumber
unfolding checksum after_bits
one_number p r [] bytes = sym (xor_zero_r r)
one_number p r (b ∷ bytes) each =
    one_number p (after_byte p r b) bytes each.1
    ∙ ap (after_bits p (8 * length bytes)) (sym (byte_off p r b (as_number bytes) each.0))
    ∙ sym (after_more p 8 (8 * length bytes) (bit_xor r (b + 256 * as_number bytes)))
    ∙ ap (λ k. after_bits p k (bit_xor r (b + 256 * as_number bytes))) (let e : 8 + 8 * length bytes ≡ 8 * suc (length bytes) = omega arith in e)

pub checksum_append : (p r : ℕ) (xs ys : List ℕ) → checksum p r (xs ++ ys) ≡ checksum p (checksum p r xs) ys
unfolding checksum
checksum_append p r [] ys = refl
checksum_append p r (x ∷ xs) ys = checksum_append p (after_byte p r x) xs ys

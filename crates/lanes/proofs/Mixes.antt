-- The words of a row, and numbers that are cut off modulo 2 ^ 64 at each step or at the end.
use Rattle.std.proofs.Common.{◌≡◌, ℕ, zero, suc, ◌+◌, ◌-◌, ◌*◌, ◌%◌, ◌^◌, ◌<◌, ◌≤◌, List, [], ◌∷◌, length, take, drop, get_or, slice_index, replicate, refl, sym, ap, ◌∙◌, arith, add-one, w8, w64, Fits}
use Rattle.std.proofs.lemmas.Grind.{same_number_lists}
use Rattle.std.proofs.lemmas.Nat.{mul-mod_first}
use Rattle.std.proofs.lemmas.Simd.{length-chunk, get_or-chunk, get_or-zip2, get_or-replicate, length-zip2, get_or_wider, chunk-fits, below_from_Fits}
use Rattle.std.proofs.Math.Nat.{mod-add-mod, add-mod-mod}
use Rattle.std.specs.Int.{from_le_bytes}
use Rattle.std.specs.List.{slice_range}
use Rattle.std.specs.Simd.Lanes.{number_l, digits_l, chunk, zip2}
use Rattle.lanes.specs.Rows.{HasLanes, row_of}
use Rattle.lanes.specs.Sector.{word, column, column_factor, horner, join_factor, mix}

abbrev pub limit : ℕ
limit = 18446744073709551616

-- ---- words

-- eight bytes as digits in base 256, and as the word that Rust reads from them
eight_bytes : (bytes : List ℕ) → length bytes ≡ 8 → number_l 256 bytes ≡ from_le_bytes w64 bytes
eight_bytes (a ∷ b ∷ c ∷ d ∷ e ∷ f ∷ g ∷ h ∷ []) long = omega arith
eight_bytes _ long = absurd (omega arith)

-- a part of a part
chunk-chunk : (a m i n : ℕ) (xs : List ℕ) → a + m ≤ length xs → i + n ≤ m → chunk i n (chunk a m xs) ≡ chunk (a + i) n xs
chunk-chunk a m i n xs room within =
    let outer = length-chunk a m xs room in
    let left = length-chunk i n (chunk a m xs) (omega arith) in
    let right = length-chunk (a + i) n xs (omega arith) in
    same_number_lists _ _ (left ∙ sym right) (λ k lt.
    let below : k < n = omega arith in
    let place : a + (i + k) ≡ a + i + k = omega arith in
    get_or-chunk i n (chunk a m xs) k 0 below ∙ get_or-chunk a m xs (i + k) 0 (omega arith) ∙ ap (λ j. get_or xs j 0) place ∙ sym (get_or-chunk (a + i) n xs k 0 below))

-- the words of a row, as a vector of bytes is read
pub words_of_row : (bytes : List ℕ) (row : ℕ) → 64 * row + 64 ≤ length bytes → ((k : ℕ) → Fits w8 (get_or bytes k 0))
    → HasLanes (digits_l limit 8 (number_l 256 (row_of bytes row))) (λ j. word bytes (8 * row + j))
unfolding word row_of
words_of_row bytes row room fit =
    let xs = chunk (64 * row) 64 bytes in
    let long = length-chunk (64 * row) 64 bytes room in
    let small = below_from_Fits w8 xs (chunk-fits w8 (64 * row) 64 bytes fit) in record {
      long = refl;
      each = λ j lt.
          let start = 8 * (8 * row + j) in
          let place : 64 * row + 8 * j ≡ start = omega arith in
          let eight : 8 ≡ start + 8 - start = omega arith in
          let at : chunk (8 * j) 8 xs ≡ slice_range bytes start (start + 8) =
          chunk-chunk (64 * row) 64 (8 * j) 8 bytes room (omega arith) ∙ ap (λ i. chunk i 8 bytes) place ∙ ap (λ n. take n (drop start bytes)) eight in
          get_or_wider 256 8 limit 8 xs j refl small lt ∙ eight_bytes (chunk (8 * j) 8 xs) (length-chunk (8 * j) 8 xs (omega arith)) ∙ ap (from_le_bytes w64) at;
    }

-- ---- numbers that are cut off

-- times a factor and plus a number: it is the same whether x was cut off before or not
step-mod : (m x factor y : ℕ) → (x % m * factor + y) % m ≡ (x * factor + y) % m
step-mod m x factor y = sym (mod-add-mod (x % m * factor) m y) ∙ ap (λ n. (n + y) % m) (mul-mod_first x factor m) ∙ mod-add-mod (x * factor) m y

-- ---- columns

-- lane by lane, the sums times the base, and plus the words
pub row_added : (sums words : List ℕ) → length sums ≡ 8 → length words ≡ 8
    → HasLanes (zip2 (λ a b. (a + b) % limit) (zip2 (λ a b. a * b % limit) sums (replicate {A = ℕ} 8 1000003)) words) (λ j. (slice_index sums j * column_factor + slice_index words j) % 2 ^ 64)
row_added sums words left right =
    let times = λ (a b : ℕ). a * b % limit in
    let plus = λ (a b : ℕ). (a + b) % limit in
    let factors = replicate {A = ℕ} 8 1000003 in
    let scaled = zip2 times sums factors in
    let long : length scaled ≡ 8 = length-zip2 times sums factors left ∙ left in record {
      long = length-zip2 plus scaled words (long ∙ sym right) ∙ long;
      each = λ j lt.
          get_or-zip2 plus scaled words j 0 0 0 (omega arith) (omega arith)
          ∙ ap (λ x. (x + slice_index words j) % limit) (get_or-zip2 times sums factors j 0 0 0 (omega arith) lt ∙ ap (λ f. slice_index sums j * f % limit) (get_or-replicate 8 j 1000003 0 lt))
          ∙ mod-add-mod (slice_index sums j * 1000003) limit (slice_index words j);
    }

pub columns_none : (sector : List ℕ) → HasLanes (replicate {A = ℕ} 8 0) (λ j. column sector j 0 % 2 ^ 64)
unfolding column
columns_none sector = record { long = refl; each = λ j lt. get_or-replicate 8 j 0 0 lt }

-- one row more
pub columns_more : (sector sums words next : List ℕ) (row : ℕ) → HasLanes sums (λ j. column sector j row % 2 ^ 64) → HasLanes words (λ j. word sector (8 * row + j))
    → HasLanes next (λ j. (slice_index sums j * column_factor + slice_index words j) % 2 ^ 64) → HasLanes next (λ j. column sector j (row + 1) % 2 ^ 64)
unfolding column
columns_more sector sums words next row before here now = record {
  long = now.long;
  each = λ j lt.
      rw add-one (now.each j lt
      ∙ ap (λ s. (s * column_factor + slice_index words j) % limit) (before.each j lt)
      ∙ ap (λ w. (column sector j row % limit * column_factor + w) % limit) (here.each j lt)
      ∙ step-mod limit (column sector j row) column_factor (word sector (8 * row + j)));
}

-- ---- the columns joined

pub joined_none : (numbers : ℕ → ℕ) → 0 ≡ horner numbers 0 % 2 ^ 64
unfolding horner
joined_none numbers = refl

-- one column more
pub joined_more : (numbers : ℕ → ℕ) (j mixed : ℕ) → mixed ≡ horner numbers j % 2 ^ 64 → (mixed * 16777619 % 2 ^ 64 + numbers j) % 2 ^ 64 ≡ horner numbers (j + 1) % 2 ^ 64
unfolding horner
joined_more numbers j mixed so_far =
    rw add-one (mod-add-mod (mixed * join_factor) limit (numbers j) ∙ ap (λ m. (m * join_factor + numbers j) % limit) so_far ∙ step-mod limit (horner numbers j) join_factor (numbers j))

-- it is the same whether the numbers were cut off before or not
joined-mod : (cut numbers : ℕ → ℕ) (n : ℕ) → ((j : ℕ) → j < n → cut j ≡ numbers j % 2 ^ 64) → horner cut n % 2 ^ 64 ≡ horner numbers n % 2 ^ 64
unfolding horner
joined-mod cut numbers zero each = refl
joined-mod cut numbers (suc n) each =
    let before = joined-mod cut numbers n (λ j lt. each j (omega arith)) in
    sym (step-mod limit (horner cut n) join_factor (cut n)) ∙ ap (λ x. (x * join_factor + cut n) % limit) before ∙ step-mod limit (horner numbers n) join_factor (cut n)
    ∙ ap (λ y. (horner numbers n * join_factor + y) % limit) (each n (omega arith)) ∙ add-mod-mod (horner numbers n * join_factor) (numbers n) limit

pub mix-joined : (sector sums : List ℕ) → HasLanes sums (λ j. column sector j 8 % 2 ^ 64) → horner (λ j. slice_index sums j) 8 % 2 ^ 64 ≡ mix sector
unfolding mix
mix-joined sector sums is = joined-mod (λ j. slice_index sums j) (λ j. column sector j 8) 8 (λ j lt. is.each j lt)

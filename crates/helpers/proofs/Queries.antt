-- What holds of each query.
use Rattle.std.proofs.Common.{ℕ, ◌≡◌, ◌+◌, ◌-◌, ◌*◌, ◌^◌, ◌<◌, ◌≤◌, ◌⊎◌, nat_lt, nat_eq, Bool, true, false, if◌then◌else◌, List, length, Option, None, Some, slice_get, refl, ap, ◌∙◌, inl, inr, arith}
use Rattle.std.specs.Option.{option_map_or}
use Rattle.std.specs.List.{AllByRecursion, list_all}
use Rattle.std.specs.Cmp.Lexicographic.{pointwise}
use Rattle.std.proofs.Math.Nat.{mod-lt}
use Rattle.std.proofs.lemmas.Bool.Decides.{nat_tests}
use Rattle.lanes.specs.Sector.{mix}
use Rattle.helpers.specs.declared.helper.Answer.{Answer}
use Rattle.helpers.specs.declared.helper.Answer.TheVariants as answer
use Rattle.helpers.specs.declared.helper.Query.{Query}
use Rattle.helpers.specs.declared.helper.Query.TheVariants as query
use Rattle.helpers.specs.Answers.{sector_start, device_bytes, sector_answer, copy_answer, again_answer, report_answer, one_if, zero_answer, mix_answer, same_answer}
use Rattle.checksums.specs.declared.polynomial.Polynomial.{Polynomial}
use Rattle.checksums.specs.declared.polynomial.Polynomial.TheVariants as polynomial
use Rattle.helpers.specs.Sums.{taken, sum_answer, summed_sectors}
use Rattle.helpers.proofs.Summed.{summed_same}
use Rattle.helpers.specs.Queries.{query_arguments, query_answer, query_sectors, query_kind, IsAnswer, IsKind}

-- it hangs on no register but those of its arguments

abbrev AreSame : (ℕ → ℕ) → (ℕ → ℕ) → List ℕ → Type 0
AreSame f g registers = AllByRecursion (λ r. f r ≡ g r) registers

pub query_alike : (device : List (List ℕ)) (q : Query) (f g : ℕ → ℕ) → AreSame f g (query_arguments q) → query_answer device q (f 1) (f 2) (f 3) ≡ query_answer device q (g 1) (g 2) (g 3)
unfolding query_answer
query_alike device query.Same f g e = rw (e.0, e.1.0) refl
query_alike device query.Crc32c f g e = λ i. sum_answer polynomial.Castagnoli (e.0 i) (device_bytes device (e.1.0 i) (taken (e.1.1.0 i)))
query_alike device query.Crc32 f g e = λ i. sum_answer polynomial.Iso3309 (e.0 i) (device_bytes device (e.1.0 i) (taken (e.1.1.0 i)))
query_alike device _ f g e = rw e.0 refl

pub sectors_alike : (q : Query) (f g : ℕ → ℕ) → AreSame f g (query_arguments q) → query_sectors q (f 1) (f 2) (f 3) ≡ query_sectors q (g 1) (g 2) (g 3)
unfolding query_sectors
sectors_alike query.Same f g e = rw (e.0, e.1.0) refl
sectors_alike query.Crc32c f g e = λ i. summed_sectors (e.1.0 i) (taken (e.1.1.0 i))
sectors_alike query.Crc32 f g e = λ i. summed_sectors (e.1.0 i) (taken (e.1.1.0 i))
sectors_alike query.Sector f g e = refl
sectors_alike _ f g e = rw e.0 refl

-- and on no sector but those at which it looks

found_or : {X Y : Type 0} (f : X → Y) (d : Y) (x y : Option X) → x ≡ y → option_map_or f x d ≡ option_map_or f y d
found_or f d x y e = ap (λ o. option_map_or f o d) e

pub query_same : (a b : List (List ℕ)) (q : Query) (m n k : ℕ) → length a ≡ length b → AllByRecursion (λ s. slice_get a s ≡ slice_get b s) (query_sectors q m n k)
    → query_answer a q m n k ≡ query_answer b q m n k
unfolding query_answer query_sectors sector_answer zero_answer mix_answer same_answer
query_same a b query.Sector m n k e same = ap (λ (count : ℕ). if nat_lt m count then sector_start + 1024 * m else 0) e
query_same a b query.Zero m n k e same = found_or _ 2 (slice_get a m) (slice_get b m) same.0
query_same a b query.Mix m n k e same = found_or _ 0 (slice_get a m) (slice_get b m) same.0
query_same a b query.Same m n k e same =
    ap (λ (x : Option (List ℕ)). option_map_or (λ (left : List ℕ). option_map_or (λ (right : List ℕ). one_if (pointwise nat_eq left right)) (slice_get a n) 2) x 2) same.0
    ∙ ap (λ (y : Option (List ℕ)). option_map_or (λ (left : List ℕ). option_map_or (λ (right : List ℕ). one_if (pointwise nat_eq left right)) y 2) (slice_get b m) 2) same.1.0
query_same a b query.Crc32c m n k e same = ap (sum_answer polynomial.Castagnoli m) (summed_same a b n (taken k) same)
query_same a b query.Crc32 m n k e same = ap (sum_answer polynomial.Iso3309 m) (summed_same a b n (taken k) same)

-- what it answers

one_most : (b : Bool) → one_if b ≤ 1
one_most true = omega arith
one_most false = omega arith

sector_there : (device : List (List ℕ)) (n : ℕ) (b : Bool) → nat_lt n (length device) ≡ b
    → ((if b then sector_start + 1024 * n else 0) ≡ 0) ⊎ ((k : ℕ) × (k < length device) × ((if b then sector_start + 1024 * n else 0) ≡ sector_start + 1024 * k))
sector_there device n true e = let lt : n < length device = grind (arith, nat_tests) in inr (n, lt, refl)
sector_there device n false e = inl refl

zero_most : (s : Option (List ℕ)) → option_map_or (λ sector. one_if (list_all (λ byte. nat_eq byte 0) sector)) s 2 ≤ 2
zero_most None = omega arith
zero_most (Some sector) = let h = one_most (list_all (λ byte. nat_eq byte 0) sector) in omega (arith, h)

mix_word : (s : Option (List ℕ)) → option_map_or mix s 0 < 2 ^ 64
unfolding mix
mix_word None = omega arith
mix_word (Some sector) = mod-lt _ (omega arith)

same_most : (s t : Option (List ℕ)) → option_map_or (λ left. option_map_or (λ right. one_if (pointwise nat_eq left right)) t 2) s 2 ≤ 2
same_most None t = omega arith
same_most (Some left) None = omega arith
same_most (Some left) (Some right) = let h = one_most (pointwise nat_eq left right) in omega (arith, h)

sum_most : (p : Polynomial) (seed : ℕ) (bytes : List ℕ) → sum_answer p seed bytes ≤ 2 ^ 32 - 1
unfolding sum_answer
sum_most p seed bytes = let small : sum_answer p seed bytes < 2 ^ 32 = mod-lt _ (omega arith) in omega (arith, small)

pub query_fits : (device : List (List ℕ)) (q : Query) (a b c : ℕ) → IsAnswer (length device) (query_kind q) (query_answer device q a b c)
unfolding query_answer sector_answer zero_answer mix_answer same_answer
query_fits device query.Sector a b c = sector_there device a (nat_lt a (length device)) refl
query_fits device query.Zero a b c = zero_most (slice_get device a)
query_fits device query.Mix a b c = let small = mix_word (slice_get device a) in omega (arith, small)
query_fits device query.Same a b c = same_most (slice_get device a) (slice_get device b)
query_fits device query.Crc32c a b c = sum_most polynomial.Castagnoli a (device_bytes device b (taken c))
query_fits device query.Crc32 a b c = sum_most polynomial.Iso3309 a (device_bytes device b (taken c))

pub kind_fits : (q : Query) → IsKind (query_kind q)
kind_fits query.Sector = tt
kind_fits query.Mix = omega arith
kind_fits _ = omega arith

-- an answer is a word, and so no query answers anything else
pub answer_word : (count : ℕ) (a : Answer) (x : ℕ) → count < 2 ^ 32 → IsKind a → IsAnswer count a x → x < 2 ^ 64
answer_word count answer.Address x few kind (inl none) = omega (arith, none)
answer_word count answer.Address x few kind (inr there) = omega (arith, there.1, there.2, few)
answer_word count (answer.UpTo most) x few kind is = omega (arith, kind, is)

pub query_word : (device : List (List ℕ)) (q : Query) (a b c : ℕ) → length device < 2 ^ 32 → query_answer device q a b c < 2 ^ 64
query_word device q a b c few = answer_word (length device) (query_kind q) (query_answer device q a b c) few (kind_fits q) (query_fits device q a b c)

-- what the other helpers answer

nought_most : (b : Bool) → (if b then 0 else 1) ≤ 1
nought_most true = omega arith
nought_most false = omega arith

pub copy_most : (device : List (List ℕ)) (position n : ℕ) → copy_answer device position n ≤ 1
unfolding copy_answer
copy_most device position n = nought_most _

pub report_most : (codes : List ℕ) → report_answer codes ≤ 1
unfolding report_answer
report_most codes = nought_most _

pub again_most : (so_far n : ℕ) → again_answer so_far n ≤ 1
unfolding again_answer
again_most so_far n = one_most _

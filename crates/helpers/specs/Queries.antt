-- The queries: the helpers that answer a number of the device and of their arguments, and change nothing (docs/MACHINE.md,
-- Helpers). Each has its rows here, and other definitions speak of any query.
use Rattle.std.specs.Prelude.{ℕ, ◌≡◌, ◌+◌, ◌*◌, ◌-◌, ◌^◌, ◌==◌, ◌<◌, ◌≤◌, ◌⊎◌, if◌then◌else◌, List, [], ◌∷◌, Option, None, Some}
use Rattle.helpers.specs.declared.helper.Query.{Query}
use Rattle.helpers.specs.declared.helper.Query.TheVariants as query
use Rattle.helpers.specs.declared.helper.Arity.{Arity}
use Rattle.helpers.specs.declared.helper.Arity.TheVariants as numbers
use Rattle.helpers.specs.declared.helper.Answer.{Answer}
use Rattle.helpers.specs.declared.helper.Answer.TheVariants as answer
use Rattle.checksums.specs.declared.polynomial.Polynomial.{Polynomial}
use Rattle.checksums.specs.declared.polynomial.Polynomial.TheVariants as polynomial
use Rattle.helpers.specs.Answers.{sector_start, device_bytes, sector_answer, zero_answer, mix_answer, same_answer}
use Rattle.helpers.specs.Sums.{taken, sum_answer, summed_sectors}

-- the numbers of those that every program may ask
abbrev pub query_of : ℕ → Option Query
query_of n =
    if n == 1 then Some query.Sector
    else if n == 5 then Some query.Zero
    else if n == 6 then Some query.Mix
    else if n == 7 then Some query.Same
    else None

-- and the checksum of bytes of the device by a polynomial, which programs with guards may ask for (Sums.antt)
abbrev pub query_for : Polynomial → Query
query_for polynomial.Castagnoli = query.Crc32c
query_for polynomial.Iso3309 = query.Crc32

-- how many numbers it takes, and their registers
abbrev pub arity_of : Query → Arity
arity_of query.Same = numbers.Two
arity_of query.Crc32c = numbers.Three
arity_of query.Crc32 = numbers.Three
arity_of _ = numbers.One

abbrev pub registers_of : Arity → List ℕ
registers_of numbers.One = 1 ∷ []
registers_of numbers.Two = 1 ∷ 2 ∷ []
registers_of numbers.Three = 1 ∷ 2 ∷ 3 ∷ []

abbrev pub query_arguments : Query → List ℕ
query_arguments q = registers_of (arity_of q)

-- what it answers of these numbers; a checksum is of the register a, and of the bytes from position b on
unfoldable pub query_answer : List (List ℕ) → Query → ℕ → ℕ → ℕ → ℕ
query_answer device query.Sector a b c = sector_answer device a
query_answer device query.Zero a b c = zero_answer device a
query_answer device query.Mix a b c = mix_answer device a
query_answer device query.Same a b c = same_answer device a b
query_answer device query.Crc32c a b c = sum_answer polynomial.Castagnoli a (device_bytes device b (taken c))
query_answer device query.Crc32 a b c = sum_answer polynomial.Iso3309 a (device_bytes device b (taken c))

-- the sectors at which it looks, if the device has them; `sector` looks at none, since it answers an address
unfoldable pub query_sectors : Query → ℕ → ℕ → ℕ → List ℕ
query_sectors query.Sector a b c = []
query_sectors query.Same a b c = a ∷ b ∷ []
query_sectors query.Crc32c a b c = summed_sectors b (taken c)
query_sectors query.Crc32 a b c = summed_sectors b (taken c)
query_sectors _ a b c = a ∷ []

-- what the answer may be
abbrev pub query_kind : Query → Answer
query_kind query.Sector = answer.Address
query_kind query.Mix = answer.UpTo (2 ^ 64 - 1)
query_kind query.Crc32c = answer.UpTo (2 ^ 32 - 1)
query_kind query.Crc32 = answer.UpTo (2 ^ 32 - 1)
query_kind _ = answer.UpTo 2

-- a word that an answer of this kind may be, on a device of that many sectors
abbrev pub IsAnswer : ℕ → Answer → ℕ → Type 0
IsAnswer count answer.Address x = (x ≡ 0) ⊎ ((n : ℕ) × (n < count) × (x ≡ sector_start + 1024 * n))
IsAnswer count (answer.UpTo most) x = x ≤ most

-- no number is greater than a word
abbrev pub IsKind : Answer → Type 0
IsKind answer.Address = Unit {0}
IsKind (answer.UpTo most) = most < 2 ^ 64

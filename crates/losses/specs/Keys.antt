-- Keys of choices with at most three departures: numbers that rise in the order of choices.
use Rattle.std.specs.Prelude.{ℕ, ◌+◌, ◌*◌, ◌==◌, ◌≡◌, ◌<◌, ◌≤◌, if◌then◌else◌, List, [], ◌∷◌, length, map, slice_get, Option, Some, unwrap_or}

-- the digits are one more than the numbers, at most 2^32
unfoldable pub key_of : List ℕ → ℕ
key_of [] = 0
key_of (a ∷ []) = a + 1
key_of (a ∷ b ∷ []) = 4294967296 * (a + 1) + (b + 1)
key_of (a ∷ b ∷ c ∷ ns) = 18446744073709551616 * (a + 1) + 4294967296 * (b + 1) + (c + 1)

-- the parts of a choice beside itself, in the order of choices
abbrev pub other_parts : List ℕ → List (List ℕ)
other_parts [] = []
other_parts (a ∷ []) = [] ∷ []
other_parts (a ∷ b ∷ []) = [] ∷ (a ∷ []) ∷ (b ∷ []) ∷ []
other_parts (a ∷ b ∷ c ∷ ns) = [] ∷ (a ∷ []) ∷ (b ∷ []) ∷ (c ∷ []) ∷ (a ∷ b ∷ []) ∷ (a ∷ c ∷ []) ∷ (b ∷ c ∷ []) ∷ []

abbrev pub part_keys : List ℕ → List ℕ
part_keys ns = map key_of (other_parts ns)

-- the numbers have 32 bits
abbrev pub AreWords : List ℕ → Type 0
AreWords ns = (i n : ℕ) → slice_get ns i ≡ Some n → n < 4294967296

-- no number of the list is this one
abbrev pub Lacks : List ℕ → ℕ → Type 0
Lacks ks key = (k : ℕ) → slice_get ks k ≡ Some key → ⊥

-- the place of the first of some keys that stands in a list of keys
pub record IsFirstFound (ks sought : List ℕ) (place : ℕ) : Type 0 where
  pub number : ℕ
  pub key : ℕ
  pub sought_there : slice_get sought number ≡ Some key
  pub there : slice_get ks place ≡ Some key
  pub before : (i other : ℕ) → i < number → slice_get sought i ≡ Some other → Lacks ks other

-- of a map from keys to places: the place at a key, where there was none, and everything else as it was
abbrev pub Remembers : (ℕ → Option ℕ) → (ℕ → Option ℕ) → ℕ → ℕ → Type 0
Remembers old new key place = (q : ℕ) → new q ≡ (if q == key then Some (unwrap_or (old key) place) else old q)

-- the example of the choice after those of which the examples have these places: where its part is one of those, the example of that
-- one; else the place that is known by its key, or its own
pub record Takes (old new : ℕ → Option ℕ) (key : ℕ) (places : List ℕ) (part e : ℕ) : Type 0 where
  pub of_part : part < length places → (slice_get places part ≡ Some e) × ((q : ℕ) → new q ≡ old q)
  pub own : length places ≤ part → (e ≡ unwrap_or (old key) part) × Remembers old new key part

-- A text on its way to a writer.
use Rattle.std.specs.Prelude.{ℕ, ◌≡◌, ◌<◌, ◌⊎◌, Bool, true, false, List, [], ◌++◌, length, take, Option}
use Rattle.std.specs.Io.KnownBytes.{Appends, Keeps}

-- what the writer holds, where that is known; what waits to be written; and whether the writer is asked for no more
pub record StreamValue : Type 0 where
  pub contents : Option (List ℕ)
  pub waiting : List ℕ
  pub closed : Bool

abbrev pub stream_of : Option (List ℕ) → List ℕ → Bool → StreamValue
stream_of contents waiting closed = record { contents = contents; waiting = waiting; closed = closed }

-- Bytes were put after what waited. Of both together the writer has the first ones, and the others wait; or it has the first ones
-- alone, not all, and is asked for no more; or it wasn't asked for any.
pub data Puts (a b : StreamValue) (bytes : List ℕ) : Type 0 where
  goes_on : (moved : List ℕ) → a.closed ≡ false → b.closed ≡ false → Appends a.contents b.contents moved → a.waiting ++ bytes ≡ moved ++ b.waiting → Puts a b bytes
  stops : (moved rest : List ℕ) → a.closed ≡ false → b.closed ≡ true → Appends a.contents b.contents moved → a.waiting ++ bytes ≡ moved ++ rest → 0 < length rest → Puts a b bytes
  stopped : a.closed ≡ true → b.closed ≡ true → Keeps a.contents b.contents → Puts a b bytes

-- all of a text was put, and none of it waits
abbrev pub PutsAll : StreamValue → StreamValue → List ℕ → Type 0
PutsAll a b text = Puts a b text × (b.waiting ≡ []) × (b.closed ≡ false)

-- of a text the first bytes were put, and not all; or the writer is asked for no more
pub record PutsPart (a b : StreamValue) (text : List ℕ) : Type 0 where
  pub shown : List ℕ
  pub rest : List ℕ
  pub whole : shown ++ rest ≡ text
  pub puts : Puts a b shown
  pub part : (0 < length rest) ⊎ (b.closed ≡ true)

-- of a text the writer took the first bytes, and not all
abbrev pub TakesPart : Option (List ℕ) → Option (List ℕ) → List ℕ → Type 0
TakesPart before after text = (n : ℕ) × (n < length text) × Appends before after (take n text)

-- The lines of a text and the parts of a line (docs/ASSEMBLY.md, Lines and parts). A text is the list of its bytes.
use Rattle.std.specs.Prelude.{◌≡◌, ℕ, Bool, true, false, ◌==◌, ◌||◌, if◌then◌else◌, List, [], ◌∷◌, Option, Some, None}
use Rattle.std.specs.List.{slice_split}
use Rattle.std.specs.Char.{is_ascii_alphanumeric}

-- the newline ends a line, and no other character does
abbrev pub lines : List ℕ → List (List ℕ)
lines text = slice_split (λ c. c == 10) text

-- letters, digits and `_` make words
unfoldable pub is_word_character : ℕ → Bool
is_word_character c = is_ascii_alphanumeric c || c == 95

-- `;` begins a comment
abbrev pub begins_comment : ℕ → Bool
begins_comment c = c == 59

-- a space or a tab
abbrev pub is_blank : ℕ → Bool
is_blank c = c == 32 || c == 9

-- a part of a line: a word, or any other character, of which only some have a meaning
pub data Part : Type 0 where
  Word : List ℕ → Part
  Mark : ℕ → Part

-- whether a word goes on here
unfoldable pub goes_on : List ℕ → Bool
goes_on [] = false
goes_on (c ∷ rest) = is_word_character c

-- a character of a word in front of the parts after it: the first of the word that goes on there, or a word by itself
abbrev pub in_front : ℕ → Bool → List Part → List Part
in_front c true (Word w ∷ rest) = Word (c ∷ w) ∷ rest
in_front c _ rest = Word (c ∷ []) ∷ rest

-- the parts of a line
unfoldable pub parts : List ℕ → List Part
parts [] = []
parts (c ∷ rest) =
    if is_word_character c then in_front c (goes_on rest) (parts rest)
    else if begins_comment c then []
    else if is_blank c then parts rest
    else Mark c ∷ parts rest

-- the word that comes first, and the parts after it
abbrev pub first_word : List Part → Option (List ℕ × List Part)
first_word (Word w ∷ rest) = Some (w, rest)
first_word _ = None

-- the mark that comes first, and the parts after it
abbrev pub first_mark : List Part → Option (ℕ × List Part)
first_mark (Mark m ∷ rest) = Some (m, rest)
first_mark _ = None

abbrev pub is_none_left : List Part → Bool
is_none_left [] = true
is_none_left _ = false

-- no blank stands in front
abbrev pub IsFront : List ℕ → Type 0
IsFront [] = Unit {0}
IsFront (c ∷ _) = is_blank c ≡ false

-- characters of words alone
abbrev pub IsWord : List ℕ → Type 0
IsWord [] = Unit {0}
IsWord (c ∷ rest) = (is_word_character c ≡ true) × IsWord rest

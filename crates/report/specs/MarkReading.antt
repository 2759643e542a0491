-- What reads lines back from their text.
use Rattle.std.specs.Prelude.{ℕ, ◌≡◌, ◌==◌, Bool, true, false, if◌then◌else◌, List, [], ◌∷◌, ◌++◌}
use Rattle.std.specs.List.{flat_map}
use Rattle.report.specs.declared.lines.marks.LineMark.{LineMark}
use Rattle.report.specs.Line.{FailingLine}
use Rattle.report.specs.Marks.{mark_of, marks_of}
use Rattle.report.specs.Kept.{IsSmall, AreSmall}
use Rattle.report.specs.LineText.{line_text}

-- whether no byte of a text is c
abbrev pub lacks : ℕ → List ℕ → Bool
lacks c [] = true
lacks c (b ∷ bs) = if b == c then false else lacks c bs

-- a text that has a c is cut at its first c
pub record IsCutAt (c : ℕ) (text front back : List ℕ) : Type 0 where
  pub parts : (xs ys : List ℕ) → lacks c xs ≡ true → text ≡ xs ++ c ∷ ys → (front ≡ xs) × (back ≡ ys)

-- of a text of words that blanks part, the second word is read
pub record ReadsField (text word rest : List ℕ) : Type 0 where
  pub read : (name own more : List ℕ) → lacks 32 name ≡ true → lacks 32 own ≡ true → text ≡ name ++ 32 ∷ (own ++ 32 ∷ more) → (word ≡ own) × (rest ≡ more)

-- the mark of the line with which a text begins is read
pub record ReadsLine (text : List ℕ) (mark : LineMark) (rest : List ℕ) : Type 0 where
  pub read : (l : FailingLine) (more : List ℕ) → IsSmall l → text ≡ line_text l ++ more → (mark ≡ mark_of l) × (rest ≡ more)

-- the marks of the lines of a text are read, after those that were read before
pub record ReadsLines (text : List ℕ) (old found : List LineMark) : Type 0 where
  pub read : (ls : List FailingLine) → AreSmall ls → text ≡ flat_map line_text ls → found ≡ old ++ marks_of ls

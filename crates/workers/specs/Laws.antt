-- The failing lines are the set of those that fail, in their order.
use Rattle.std.specs.Prelude.{ℕ, ◌≡◌, ◌<◌, ◌≤◌, ◌⊎◌, IsTrue, List, [], ◌∷◌, ◌++◌, slice_get, Some}
use Rattle.choices.specs.Choices.{ChoiceValue}
use Rattle.checker.specs.Checker.{CheckerValue}
use Rattle.machine.specs.Outcome.{fails}
use Rattle.report.specs.Line.{FailingLine, first_lines}
use Rattle.workers.specs.Failing.{Subject, choices_of, ending_at, failing_lines}
use Rattle.workers.specs.Pieces.{PieceValue, ArePieces, AreFull, AreWhole, block_count, lines_by_block}

-- the line tells truly of an image that is judged and of a checker of the run, and the checker does not answer 0 there
pub record IsFailing (s : Subject) (l : FailingLine) : Type 0 where
  pub low : s.from ≤ l.image
  pub high : l.image < s.to
  pub choice : ChoiceValue
  pub of_image : slice_get (choices_of s) l.image ≡ Some choice
  pub checker : CheckerValue
  pub of_program : slice_get s.checkers l.program ≡ Some checker
  pub ends : l.ending ≡ ending_at s choice checker
  pub cut : l.cut ≡ choice.cut
  pub by_is : l.by ≡ s.plan.by
  pub departures : l.departures ≡ choice.departures
  pub fails : IsTrue (fails l.ending)

-- by image, then by program
abbrev pub Precedes : FailingLine → FailingLine → Type 0
Precedes a b = (a.image < b.image) ⊎ ((a.image ≡ b.image) × (a.program < b.program))

-- the list has the failing lines and no other, in order, and so each once
pub record ListsFailing (s : Subject) (ls : List FailingLine) : Type 0 where
  pub sound : (i : ℕ) (l : FailingLine) → slice_get ls i ≡ Some l → IsFailing s l
  pub complete : (l : FailingLine) → IsFailing s l → (i : ℕ) × (slice_get ls i ≡ Some l)
  pub ordered : (i j : ℕ) (a b : FailingLine) → i < j → slice_get ls i ≡ Some a → slice_get ls j ≡ Some b → Precedes a b

abbrev pub LinesAreSet : Type 0
LinesAreSet = (s : Subject) → ListsFailing s (failing_lines s)

-- the pieces of a run, one of each block and none passed over, have its failing lines
abbrev pub CollectionIsFailing : Type 0
CollectionIsFailing = (s : Subject) (pieces : List PieceValue) → ArePieces s pieces → AreFull pieces → AreWhole s.from pieces (block_count s)
    → lines_by_block pieces (block_count s) ≡ failing_lines s

-- some of the lines, in their order
abbrev pub AreSomeOf : List FailingLine → List FailingLine → Type 0
AreSomeOf some [] = some ≡ []
AreSomeOf some (l ∷ ls) = AreSomeOf some ls ⊎ ((rest : List FailingLine) × (some ≡ l ∷ rest) × AreSomeOf rest ls)

-- the lines are all lines of the first failing image, and then some of the others
pub record BeginsWithFirst (all lines : List FailingLine) : Type 0 where
  pub others : List FailingLine
  pub kept : List FailingLine
  pub all_lines : all ≡ first_lines all ++ others
  pub these : lines ≡ first_lines all ++ kept
  pub some : AreSomeOf kept others

-- with passed pieces, they have those of its first failing image, and then some of the others
abbrev pub CollectionBeginsWithFirst : Type 0
CollectionBeginsWithFirst = (s : Subject) (pieces : List PieceValue) → ArePieces s pieces → AreWhole s.from pieces (block_count s)
    → BeginsWithFirst (failing_lines s) (lines_by_block pieces (block_count s))

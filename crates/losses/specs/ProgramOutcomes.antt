-- What programs end in, by failing lines (docs/OUTPUT.md, The report).
use Rattle.std.specs.Prelude.{ℕ, ◌≡◌, ◌==◌, Bool, if◌then◌else◌, List, [], ◌∷◌, ◌++◌, codes}
use Rattle.std.specs.List.{flat_map}
use Rattle.machine.specs.Outcome.{Ending}
use Rattle.report.specs.declared.lines.marks.LineMark.{LineMark}
use Rattle.report.specs.Line.{FailingLine}
use Rattle.report.specs.Marks.{marks_of}
use Rattle.report.specs.LineText.{ending_text, line_text}

-- what a line says, if it is of that program
abbrev pub own_outcome : ℕ → FailingLine → List (List ℕ)
own_outcome program l = if l.program == program then ending_text l.ending ∷ [] else []

-- what the lines of a program say
abbrev pub outcomes_failing : ℕ → List FailingLine → List (List ℕ)
outcomes_failing program ls = flat_map (own_outcome program) ls

-- the same by the mark of a line
abbrev pub is_marked : ℕ → LineMark → Bool
is_marked program m = m.program == program

abbrev pub if_own : ℕ → LineMark → List ℕ → List (List ℕ)
if_own program m outcome = if m.program == program then outcome ∷ [] else []

-- of what a line says after its program, what the program ended in
pub record IsEnding (said outcome : List ℕ) : Type 0 where
  pub read : (e : Ending) (choice : List ℕ) → said ≡ ending_text e ++ codes " choice " ++ choice → outcome ≡ ending_text e

-- of the line with which a text begins
pub record ReadsOutcome (text outcome rest : List ℕ) : Type 0 where
  pub read : (l : FailingLine) (more : List ℕ) → text ≡ line_text l ++ more → (outcome ≡ ending_text l.ending) × (rest ≡ more)

-- of all lines of a text that have these marks, those of one program
pub record AreOutcomes (text : List ℕ) (marks : List LineMark) (program : ℕ) (outcomes : List (List ℕ)) : Type 0 where
  pub read : (ls : List FailingLine) → text ≡ flat_map line_text ls → marks ≡ marks_of ls → outcomes ≡ outcomes_failing program ls

-- What reads a report that is given in place of programs, piece by piece.
use Rattle.std.specs.Prelude.{ℕ, ◌+◌, ◌≡◌, ◌<◌, ◌≤◌, ◌^◌, Bool, Some, List, ◌++◌, length, map, slice_get}
use Rattle.std.specs.List.{flat_map}
use Rattle.choices.specs.Choices.{ChoiceValue, ranked_choices}
use Rattle.choices.specs.Sums.{StartsValue}
use Rattle.report.specs.ChoiceText.{departures_text}
use Rattle.report.specs.declared.head.ProgramHead.{ProgramHead}
use Rattle.report.specs.declared.span.Span.{Span}
use Rattle.join.specs.declared.given.whole.Given.{Given}
use Rattle.join.specs.declared.tally.Tally.{Tally}
use Rattle.join.specs.Heads.{NoProgram}
use Rattle.join.specs.Reading.{none_read, tallied}
use Rattle.join.specs.Given.{ToldLine, IsTold, AreToldOf, AreJudges, GivenValue, line_told, marks_told, told_body, told_line}

-- what a report of the code says
abbrev pub given_told : Given → GivenValue
given_told g = record { head = g.head.now; outside = g.outside; programs = g.programs.items; lines = map line_told g.lines.items; last = g.last.now }

-- a text is the choice of an image, and the image is of that cut
pub record IsChoiceOf (s : StartsValue) (image cut : ℕ) (text : List ℕ) : Type 0 where
  pub choice : ChoiceValue
  pub there : slice_get (ranked_choices s.plan s.bound s.tears) image ≡ Some choice
  pub small : choice.cut < 2 ^ 32
  pub at : choice.cut ≡ cut
  pub is : text ≡ departures_text s.plan.by choice.departures

-- a text is a line without its newline, and that is told
pub record IsToldBody (outside : Bool) (programs : ℕ) (s : StartsValue) (text : List ℕ) (t : ToldLine) : Type 0 where
  pub told : IsTold outside programs s t
  pub is : text ≡ told_body s t

pub record NoToldBody (outside : Bool) (programs : ℕ) (s : StartsValue) (text : List ℕ) : Type 0 where
  pub none : (t : ToldLine) → IsTold outside programs s t → text ≡ told_body s t → ⊥

-- a text begins with a line, and that is told
pub record IsToldLine (outside : Bool) (programs : ℕ) (s : StartsValue) (text : List ℕ) (t : ToldLine) (rest : List ℕ) : Type 0 where
  pub told : IsTold outside programs s t
  pub is : text ≡ told_line s t ++ rest

pub record NoToldLine (outside : Bool) (programs : ℕ) (s : StartsValue) (text : List ℕ) : Type 0 where
  pub none : (t : ToldLine) (rest : List ℕ) → IsTold outside programs s t → text ≡ told_line s t ++ rest → ⊥

-- a text begins with lines, and that is told and counted
pub record AreToldRead (outside : Bool) (programs : ℕ) (s : StartsValue) (span : Span) (text : List ℕ) (ts : List ToldLine) (tally : Tally) (rest : List ℕ) : Type 0 where
  pub each : AreToldOf outside programs s ts
  pub is : text ≡ flat_map (told_line s) ts ++ rest
  pub told : tally ≡ tallied span none_read (marks_told ts)
  pub few : tally.lines + length rest ≤ length text
  pub fewer : tally.images ≤ tally.lines

-- a text begins with the lines of programs, and with no others
pub record AreJudgesRead (text : List ℕ) (outside : Bool) (programs : List ProgramHead) (rest : List ℕ) : Type 0 where
  pub judges : List ℕ
  pub are : AreJudges outside programs judges
  pub is : text ≡ judges ++ rest
  pub only : (own : Bool) (ps : List ProgramHead) (front more : List ℕ) → AreJudges own ps front → NoProgram more → text ≡ front ++ more
      → (own ≡ outside) × (ps ≡ programs) × (front ≡ judges) × (more ≡ rest)

pub record NoJudges (text : List ℕ) : Type 0 where
  pub none : (own : Bool) (ps : List ProgramHead) (front more : List ℕ) → AreJudges own ps front → NoProgram more → text ≡ front ++ more → ⊥

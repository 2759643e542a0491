-- The text of a part of a run (docs/OUTPUT.md, The text of a part).
use Rattle.std.specs.Prelude.{ℕ, ◌-◌, ◌≡◌, ◌≢◌, ◌<◌, ◌≤◌, ◌^◌, Bool, true, List, [], ◌∷◌, ◌++◌, codes, None}
use Rattle.std.specs.List.{flat_map, range_with_len}
use Rattle.std.specs.Str.{IsUtf8}
use Rattle.report.specs.Line.{FailingLine}
use Rattle.report.specs.Images.{failing_images}
use Rattle.report.specs.Marks.{marks_of}
use Rattle.report.specs.MarkReading.{lacks}
use Rattle.report.specs.Report.{HeadValue, findings_text}
use Rattle.report.specs.Part.{span_text, span_report}
use Rattle.report.specs.declared.span.Span.{Span}
use Rattle.join.specs.Heads.{AreOptions}
use Rattle.join.specs.Printable.{ArePrintable, AreLinesOfRun}
use Rattle.join.specs.Order.{in_order}

-- what a text of a part says: which images of which run it is of, the lines of its options and programs, whether it is of the first
-- failing image alone, and its failing lines
pub record PartValue : Type 0 where
  pub span : Span
  pub head : List ℕ
  pub first : Bool
  pub lines : List FailingLine

unfoldable pub part_text : PartValue → List ℕ
part_text p = span_text p.span ++ (p.head ++ findings_text p.first (p.span.to - p.span.from) p.lines)

-- some images of a run, or none of a run without images
pub record IsSpan (s : Span) : Type 0 where
  pub rising : s.from ≤ s.to
  pub within : s.to ≤ s.images
  pub some : s.from ≡ s.to → s.images ≡ 0
  pub small : s.images < 2 ^ 63
  pub number : s.inputs < 2 ^ 64

-- a line of the head: no failing line and no last line, which begin with `image`
pub record IsHeadLine (line : List ℕ) : Type 0 where
  pub one : lacks 10 line ≡ true
  pub other : (rest : List ℕ) → line ≢ codes "image" ++ rest

-- some lines, each with its newline
abbrev pub lines_text : List (List ℕ) → List ℕ
lines_text ls = flat_map (λ line. line ++ 10 ∷ []) ls

abbrev pub AreHeadLines : List (List ℕ) → Type 0
AreHeadLines [] = Unit {0}
AreHeadLines (l ∷ ls) = IsHeadLine l × AreHeadLines ls

-- the lines of the options and of the programs
pub record IsHead (head : List ℕ) : Type 0 where
  pub lines : List (List ℕ)
  pub each : AreHeadLines lines
  pub is : head ≡ lines_text lines
  pub text : IsUtf8 head

-- a part: its head is that of a run, and says whether it is of the first failing image alone; its lines are lines of that run and of its images, in their order, each once; and of one image where it is of the first alone
pub record IsPart (p : PartValue) : Type 0 where
  pub span : IsSpan p.span
  pub head : IsHead p.head
  pub options : AreOptions p.head p.first
  pub printable : ArePrintable p.lines
  pub of_run : AreLinesOfRun options.head p.lines
  pub ordered : in_order p.span.from p.span.to None (marks_of p.lines) ≡ true
  pub one : p.first ≡ true → failing_images p.lines ≤ 1

-- a run: what its report says at its head, a number of its inputs, and the failing lines of each image
pub record RunValue : Type 0 where
  pub head : HeadValue
  pub inputs : ℕ
  pub image_lines : ℕ → List FailingLine

-- the failing lines of the images from a to below b
abbrev pub lines_between : RunValue → ℕ → ℕ → List FailingLine
lines_between r a b = flat_map r.image_lines (range_with_len a (b - a))

abbrev pub span_of : RunValue → ℕ → ℕ → Span
span_of r a b = record { from = a; to = b; images = r.head.images; inputs = r.inputs }

-- the text of the part of a run with the images from a to below b
unfoldable pub part_bytes : RunValue → ℕ → ℕ → List ℕ
part_bytes r a b = span_report r.head (span_of r a b) (lines_between r a b)

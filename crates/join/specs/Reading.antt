-- What is read of a text.
use Rattle.std.specs.Prelude.{ℕ, ◌+◌, ◌≡◌, ◌<◌, ◌≤◌, ◌^◌, ◌==◌, ◌&&◌, nat_lt, nat_le, not, Bool, true, false, if◌then◌else◌, List, [], ◌∷◌, ◌++◌, codes, length, Option, None, Some}
use Rattle.std.specs.Fmt.{decimal}
use Rattle.std.specs.List.{flat_map}
use Rattle.report.specs.declared.lines.marks.LineMark.{LineMark}
use Rattle.report.specs.Line.{FailingLine}
use Rattle.report.specs.Marks.{mark_of, marks_of}
use Rattle.report.specs.MarkReading.{lacks}
use Rattle.report.specs.LineText.{line_text}
use Rattle.report.specs.Report.{HeadValue, image_text}
use Rattle.report.specs.declared.span.Span.{Span}
use Rattle.join.specs.declared.line.LineWords.{LineWords}
use Rattle.join.specs.declared.tally.Tally.{Tally}
use Rattle.join.specs.Printable.{IsPrintable, ArePrintable, IsLineOfRun, AreLinesOfRun, end_text}
use Rattle.join.specs.Order.{follows}
use Rattle.report.specs.Part.{span_text}
use Rattle.join.specs.Text.{PartValue, IsPart, IsHead, IsSpan, part_text}

-- a text has other bytes, and then these last ones
pub record HasFront (text rest : List ℕ) : Type 0 where
  pub front : List ℕ
  pub is : text ≡ front ++ rest

-- a text is cut at its first c
pub record IsCut (c : ℕ) (text front back : List ℕ) : Type 0 where
  pub is : text ≡ front ++ c ∷ back
  pub first : lacks c front ≡ true

pub record NoCut (c : ℕ) (text : List ℕ) : Type 0 where
  pub none : lacks c text ≡ true

-- numbers within a u64
pub record IsSmall (s : Span) : Type 0 where
  pub from : s.from < 2 ^ 64
  pub to : s.to < 2 ^ 64
  pub images : s.images < 2 ^ 64
  pub inputs : s.inputs < 2 ^ 64

-- the span with which a text begins is read
pub record ReadsSpan (text : List ℕ) (span : Span) (rest : List ℕ) : Type 0 where
  pub read : (s : Span) (more : List ℕ) → IsSmall s → text ≡ span_text s ++ more → (span ≡ s) × (rest ≡ more)

-- a text begins with that span, and with no other
pub record IsSpanOf (text : List ℕ) (span : Span) (rest : List ℕ) : Type 0 where
  pub is : text ≡ span_text span ++ rest
  pub only : (s : Span) (more : List ℕ) → IsSmall s → text ≡ span_text s ++ more → span ≡ s

pub record NoSpan (text : List ℕ) : Type 0 where
  pub none : (s : Span) (more : List ℕ) → IsSmall s → text ≡ span_text s ++ more → ⊥

-- what a line says before its outcome
unfoldable pub words_text : LineWords → List ℕ
words_text w = codes "image " ++ decimal w.image ++ codes " cut " ++ decimal w.cut ++ codes " program " ++ decimal w.program ++ codes " "

abbrev pub words_of : FailingLine → LineWords
words_of l = record { image = l.image; cut = l.cut; program = l.program }

-- a line without its newline
abbrev pub body_text : FailingLine → List ℕ
body_text l = words_text (words_of l) ++ end_text l.ending l.by l.departures

pub record ReadsWords (line : List ℕ) (words : LineWords) : Type 0 where
  pub read : (w : LineWords) (more : List ℕ) → w.image < 2 ^ 64 → w.cut < 2 ^ 64 → w.program < 2 ^ 64 → line ≡ words_text w ++ more → words ≡ w

-- the words are within the ranges of a line
pub record Fit (w : LineWords) : Type 0 where
  pub cut : w.cut < 2 ^ 32
  pub program : w.program < 2 ^ 8

-- a text is a line without its newline, of a run with that head, and has that mark
pub record IsBody (h : HeadValue) (text : List ℕ) (mark : LineMark) : Type 0 where
  pub line : FailingLine
  pub printable : IsPrintable line
  pub of_run : IsLineOfRun h line
  pub is : text ≡ body_text line
  pub marked : mark ≡ mark_of line

pub record NoBody (h : HeadValue) (text : List ℕ) : Type 0 where
  pub none : (l : FailingLine) → IsPrintable l → IsLineOfRun h l → text ≡ body_text l → ⊥

-- a text begins with a line of a run with that head, that has that mark
pub record IsLine (h : HeadValue) (text : List ℕ) (mark : LineMark) (rest : List ℕ) : Type 0 where
  pub line : FailingLine
  pub printable : IsPrintable line
  pub of_run : IsLineOfRun h line
  pub is : text ≡ line_text line ++ rest
  pub marked : mark ≡ mark_of line

-- a text begins with no line of which P is so
pub record NoLine (P : FailingLine → Type 0) (text : List ℕ) : Type 0 where
  pub none : (l : FailingLine) (more : List ℕ) → IsPrintable l → P l → text ≡ line_text l ++ more → ⊥

-- whether a line is of another image than the last
abbrev pub is_new : Option LineMark → ℕ → Bool
is_new None image = true
is_new (Some last) image = not (last.image == image)

abbrev pub first_of : Option ℕ → ℕ → Option ℕ
first_of None image = Some image
first_of (Some first) image = Some first

-- what is counted of no line, of one more, and of some
abbrev pub none_read : Tally
none_read = record { last = None; first = None; lines = 0; images = 0; ordered = true }

abbrev pub one_more : Span → Tally → LineMark → Tally
one_more s t m = record {
  last = Some m;
  first = first_of t.first m.image;
  lines = t.lines + 1;
  images = t.images + (if is_new t.last m.image then 1 else 0);
  ordered = t.ordered && (nat_le s.from m.image && nat_lt m.image s.to && follows t.last m);
}

unfoldable pub tallied : Span → Tally → List LineMark → Tally
tallied s t [] = t
tallied s t (m ∷ ms) = tallied s (one_more s t m) ms

-- a text begins with lines of a run with that head, of which that was counted
pub record AreRead (h : HeadValue) (s : Span) (text : List ℕ) (tally : Tally) (rest : List ℕ) : Type 0 where
  pub lines : List FailingLine
  pub printable : ArePrintable lines
  pub of_run : AreLinesOfRun h lines
  pub is : text ≡ flat_map line_text lines ++ rest
  pub told : tally ≡ tallied s none_read (marks_of lines)
  pub few : tally.lines + length rest ≤ length text
  pub fewer : tally.images ≤ tally.lines

-- these can be the lines of a part of these images
pub record IsWhole (s : Span) (first : Bool) (t : Tally) : Type 0 where
  pub span : IsSpan s
  pub ordered : t.ordered ≡ true
  pub one : first ≡ true → t.images ≤ 1

-- the last line, by what was counted
unfoldable pub last_text : Bool → ℕ → Tally → List ℕ
last_text false images t = codes "images " ++ decimal images ++ codes " failing " ++ decimal t.images ++ codes " lines " ++ decimal t.lines ++ codes "\n"
last_text true images t = codes "images " ++ decimal images ++ codes " first " ++ image_text t.first ++ codes "\n"

-- a text begins with a line that begins with `image`
pub record BeginsImage (text : List ℕ) : Type 0 where
  pub word : List ℕ
  pub more : List ℕ
  pub is : text ≡ (codes "image" ++ word) ++ 10 ∷ more
  pub one : lacks 10 word ≡ true

-- a text has a head, and after it a line that begins with `image`
pub record IsAfterHead (text rest : List ℕ) : Type 0 where
  pub head : List ℕ
  pub is_head : IsHead head
  pub is : text ≡ head ++ rest
  pub begins : BeginsImage rest

pub record NoHead (text : List ℕ) : Type 0 where
  pub none : (head rest : List ℕ) → IsHead head → BeginsImage rest → text ≡ head ++ rest → ⊥

-- what is read of a text of a part: the bytes of its head and of its lines, and what was counted of these; and the number of its file
pub record PartRead : Type 0 where
  pub span : Span
  pub head : List ℕ
  pub first : Bool
  pub lines : List ℕ
  pub tally : Tally
  pub file : ℕ

pub record Tells (p : PartValue) (r : PartRead) : Type 0 where
  pub span : r.span ≡ p.span
  pub head : r.head ≡ p.head
  pub first : r.first ≡ p.first
  pub lines : r.lines ≡ flat_map line_text p.lines
  pub tally : r.tally ≡ tallied p.span none_read (marks_of p.lines)

-- the bytes are the text of a part, of which that is read
pub record IsPartText (bytes : List ℕ) (r : PartRead) : Type 0 where
  pub part : PartValue
  pub is : IsPart part
  pub text : bytes ≡ part_text part
  pub told : Tells part r

pub record NoPartText (bytes : List ℕ) : Type 0 where
  pub none : (p : PartValue) → IsPart p → bytes ≡ part_text p → ⊥

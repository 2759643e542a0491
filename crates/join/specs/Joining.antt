-- What texts of parts come to together, and when they are not joined (docs/COMMANDS.md, Joining parts).
use Rattle.std.specs.Prelude.{ℕ, ◌+◌, ◌-◌, ◌≡◌, ◌≢◌, ◌↔◌, IsTrue, ◌<◌, ◌≤◌, ◌⊎◌, ◌^◌, ◌==◌, ◌&&◌, Bool, true, false, if◌then◌else◌, List, [], ◌∷◌, ◌++◌, length, codes, slice_get, slice_index_or, take, Option, None, Some}
use Rattle.std.specs.List.{All, flat_map, sum_by}
use Rattle.std.specs.List.Sorted.{IsPermutation, IsNonDecreasingBy}
use Rattle.report.specs.Line.{FailingLine}
use Rattle.report.specs.Report.{findings_text}
use Rattle.report.specs.declared.span.Span.{Span}
use Rattle.join.specs.declared.tally.Tally.{Tally}
use Rattle.base.specs.declared.causes.JoinCause.TheVariants as cause
use Rattle.join.specs.declared.fault.JoinFault.{JoinFault}
use Rattle.report.specs.Part.{span_text}
use Rattle.join.specs.Text.{PartValue, IsPart}
use Rattle.join.specs.Reading.{PartRead, Tells, IsPartText, NoPartText}

-- the texts are of parts, of which these are read; the first is file n
abbrev pub ArePartTexts : ℕ → List (List ℕ) → List PartRead → Type 0
ArePartTexts n [] [] = Unit {0}
ArePartTexts n [] (r ∷ rs) = ⊥
ArePartTexts n (t ∷ ts) [] = ⊥
ArePartTexts n (t ∷ ts) (r ∷ rs) = IsPartText t r × (r.file ≡ n) × ArePartTexts (n + 1) ts rs

-- two parts are of one run
pub record IsOfRun (run r : PartRead) : Type 0 where
  pub head : r.head ≡ run.head
  pub first : r.first ≡ run.first
  pub images : r.span.images ≡ run.span.images
  pub inputs : r.span.inputs ≡ run.span.inputs

abbrev pub AreOfRun : PartRead → List PartRead → Type 0
AreOfRun run rs = All (IsOfRun run) rs

-- in a row each begins where the one before ends
abbrev pub AreInRow : ℕ → List PartRead → ℕ → Type 0
AreInRow from [] to = from ≡ to
AreInRow from (r ∷ rs) to = (r.span.from ≡ from) × AreInRow r.span.to rs to

-- the lines of the parts, one after the other
abbrev pub AreLinesOf : List PartRead → List FailingLine → Type 0
AreLinesOf [] ls = ls ≡ []
AreLinesOf (r ∷ rs) ls = (p : PartValue) × (more : List FailingLine) × IsPart p × Tells p r × (ls ≡ p.lines ++ more) × AreLinesOf rs more

-- the first lines of the report, or of a part of it
abbrev pub opening_text : Span → List ℕ
opening_text s = if s.from == 0 && s.to == s.images then codes "crash report 2\n" else span_text s

abbrev pub span_between : PartRead → ℕ → ℕ → Span
span_between r from to = record { from = from; to = to; images = r.span.images; inputs = r.span.inputs }

-- the text of all images from `from` to below `to` of the run of that part, with these lines
unfoldable pub joined_text : PartRead → ℕ → ℕ → List FailingLine → List ℕ
joined_text run from to ls = opening_text (span_between run from to) ++ (run.head ++ findings_text run.first (to - from) ls)

-- these bytes are what the texts come to: all are texts of parts of one run, in a row of their images; and whether they have a
-- failing line
pub record IsJoined (texts : List (List ℕ)) (bytes : List ℕ) (failing : Bool) : Type 0 where
  pub reads : List PartRead
  pub each : ArePartTexts 0 texts reads
  pub row : List PartRead
  pub order : IsPermutation reads row
  pub some : 0 < length row
  pub run : PartRead
  pub one : AreOfRun run row
  pub from : ℕ
  pub to : ℕ
  pub in_row : AreInRow from row to
  pub lines : List FailingLine
  pub of_parts : AreLinesOf row lines
  pub is : bytes ≡ joined_text run from to lines
  pub fails : IsTrue failing ↔ (0 < length lines)

-- these bytes are what is asked of the texts: with `part` the text of the images that they have, and without it the report of a run, of
-- which they have all images
pub record IsJoin (part : Bool) (texts : List (List ℕ)) (bytes : List ℕ) (failing : Bool) : Type 0 where
  pub joined : IsJoined texts bytes failing
  pub whole : part ≡ false → (joined.from ≡ 0) × (joined.to ≡ joined.run.span.images)

-- how many bytes texts have
abbrev pub size_of : List (List ℕ) → ℕ
size_of texts = sum_by (λ (t : List ℕ). length t) texts

-- with that file the texts first have more than 1 GiB
pub record IsFirstLong (texts : List (List ℕ)) (file : ℕ) : Type 0 where
  pub there : file < length texts
  pub before : size_of (take file texts) ≤ 2 ^ 30
  pub past : 2 ^ 30 < size_of (take (file + 1) texts)

-- the first file that isn't the text of a part
pub record IsFirstOther (texts : List (List ℕ)) (file : ℕ) : Type 0 where
  pub before : List PartRead
  pub parts : ArePartTexts 0 (take file texts) before
  pub text : List ℕ
  pub there : slice_get texts file ≡ Some text
  pub other : NoPartText text

-- the first part of another run than the first file
pub record IsFirstStrange (texts : List (List ℕ)) (file : ℕ) : Type 0 where
  pub reads : List PartRead
  pub each : ArePartTexts 0 texts reads
  pub run : PartRead
  pub run_there : slice_get reads 0 ≡ Some run
  pub before : AreOfRun run (take file reads)
  pub read : PartRead
  pub there : slice_get reads file ≡ Some read
  pub strange : IsOfRun run read → ⊥

-- parts by their first images, and those that begin alike by their files
pub record AreByImages (row : List PartRead) : Type 0 where
  pub rising : IsNonDecreasingBy (λ (r : PartRead). r.span.from) row
  pub files : (k : ℕ) (d : PartRead) → k + 1 < length row → (slice_index_or row k d).span.from ≡ (slice_index_or row (k + 1) d).span.from
      → (slice_index_or row k d).file ≤ (slice_index_or row (k + 1) d).file

-- of parts by their images, the first that doesn't begin where the one before it ends
pub record IsFirstApart (texts : List (List ℕ)) (left right : PartRead) : Type 0 where
  pub reads : List PartRead
  pub each : ArePartTexts 0 texts reads
  pub run : PartRead
  pub one : AreOfRun run reads
  pub row : List PartRead
  pub order : IsPermutation reads row
  pub by_images : AreByImages row
  pub front : List PartRead
  pub back : List PartRead
  pub parted : row ≡ front ++ left ∷ right ∷ back
  pub from : ℕ
  pub before : AreInRow from (front ++ left ∷ []) left.span.to

-- a row that ends at `to` hasn't all images of its run: its first part, which is that file, doesn't begin at 0; or else its last one
-- doesn't end at the last image, and the others would be in a file after all these
abbrev pub LacksImages : PartRead → ℕ → ℕ → ℕ → Type 0
LacksImages first to files file = ((0 < first.span.from) × (file ≡ first.file)) ⊎ ((first.span.from ≡ 0) × (to ≢ first.span.images) × (file ≡ files))

-- parts of one run in a row, which haven't all of its images
pub record IsShortOfRun (texts : List (List ℕ)) (file : ℕ) : Type 0 where
  pub reads : List PartRead
  pub each : ArePartTexts 0 texts reads
  pub first : PartRead
  pub others : List PartRead
  pub order : IsPermutation reads (first ∷ others)
  pub one : AreOfRun first (first ∷ others)
  pub to : ℕ
  pub in_row : AreInRow first.span.from (first ∷ others) to
  pub lacking : LacksImages first to (length texts) file

-- why texts are not joined; `part` says whether they may have a part of the images alone
pub data RefusesJoin (part : Bool) (texts : List (List ℕ)) : JoinFault → Type 0 where
  too_long : (file : ℕ) → IsFirstLong texts file → RefusesJoin part texts (record { cause = cause.TooLong; file = file })
  no_part : (file : ℕ) → IsFirstOther texts file → RefusesJoin part texts (record { cause = cause.NotPart; file = file })
  of_other_run : (file : ℕ) → IsFirstStrange texts file → RefusesJoin part texts (record { cause = cause.OtherRun; file = file })
  with_gap : (left right : PartRead) → IsFirstApart texts left right → left.span.to < right.span.from → RefusesJoin part texts (record { cause = cause.Gap; file = right.file })
  with_overlap : (left right : PartRead) → IsFirstApart texts left right → right.span.from < left.span.to → RefusesJoin part texts (record { cause = cause.Overlap; file = right.file })
  short_of_run : (file : ℕ) → part ≡ false → IsShortOfRun texts file → RefusesJoin part texts (record { cause = cause.Gap; file = file })
  no_memory : RefusesJoin part texts (record { cause = cause.Memory; file = 0 })

-- what is counted of parts together
abbrev pub earlier : Option ℕ → Option ℕ → Option ℕ
earlier None other = other
earlier (Some image) other = Some image

abbrev pub added : Tally → Tally → Tally
added t u = record { last = u.last; first = earlier t.first u.first; lines = t.lines + u.lines; images = t.images + u.images; ordered = t.ordered && u.ordered }

unfoldable pub totalled : Tally → List PartRead → Tally
totalled t [] = t
totalled t (r ∷ rs) = totalled (added t r.tally) rs

-- the lines that are shown of parts: of all, or of the first that has some
abbrev pub first_some : List PartRead → List ℕ
first_some [] = []
first_some (r ∷ rs) = if length r.lines == 0 then first_some rs else r.lines

abbrev pub shown_bytes : Bool → List PartRead → List ℕ
shown_bytes false rs = flat_map (λ (r : PartRead). r.lines) rs
shown_bytes true rs = first_some rs

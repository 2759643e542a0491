-- Parts of one run that have each image once, joined, are the text of these images, and of all images the report.
use Rattle.std.specs.Prelude.{ℕ, ◌+◌, ◌≡◌, ◌<◌, ◌≤◌, ◌⊎◌, ◌^◌, ◌==◌, ◌&&◌, nat_le, nat_lt, Bool, true, false, if◌then◌else◌, List, map, None}
use Rattle.std.specs.List.{All, sum_by}
use Rattle.report.specs.Marks.{marks_of}
use Rattle.report.specs.Report.{options_text, report_bytes}
use Rattle.base.specs.declared.causes.JoinCause.TheVariants as cause
use Rattle.join.specs.declared.fault.JoinFault.{JoinFault}
use Rattle.join.specs.Heads.{IsPrintedHead}
use Rattle.join.specs.Printable.{ArePrintable, AreLinesOfRun}
use Rattle.join.specs.Order.{in_order}
use Rattle.join.specs.Text.{RunValue, IsSpan, IsHead, span_of, lines_between, part_bytes}
use Rattle.join.specs.Joining.{IsJoined, RefusesJoin}

-- what a run has to be: its head is one, and the lines of each image are of it, by program, each once
pub record IsRun (r : RunValue) : Type 0 where
  pub head : IsHead (options_text r.head)
  pub printed : IsPrintedHead r.head
  pub lines : (image : ℕ) → in_order image (image + 1) None (marks_of (r.image_lines image)) ≡ true
  pub printable : (image : ℕ) → ArePrintable (r.image_lines image)
  pub of_run : (image : ℕ) → AreLinesOfRun r.head (r.image_lines image)
  pub number : r.inputs < 2 ^ 64
  pub few : r.head.images < 2 ^ 63

-- some images, from one number to below another
pub record Range : Type 0 where
  pub from : ℕ
  pub to : ℕ

-- whether a range has an image
abbrev pub has : ℕ → Range → Bool
has image x = nat_le x.from image && nat_lt image x.to

-- each image from A to below B is in one range, and no other image is in any
pub record CoverOnce (ranges : List Range) (from to : ℕ) : Type 0 where
  pub up : from ≤ to
  pub once : (image : ℕ) → sum_by (λ (x : Range). if has image x then 1 else 0) ranges ≡ (if nat_le from image && nat_lt image to then 1 else 0)

-- the texts of these parts of a run
abbrev pub texts_of : RunValue → List Range → List (List ℕ)
texts_of r ranges = map (λ (x : Range). part_bytes r x.from x.to) ranges

abbrev pub AreRanges : RunValue → List Range → Type 0
AreRanges r ranges = All (λ (x : Range). IsSpan (span_of r x.from x.to)) ranges

-- the text of the images from A to below B: the report where these are all images, else the text of the part
unfoldable pub run_bytes : RunValue → ℕ → ℕ → List ℕ
run_bytes r from to = if from == 0 && to == r.head.images then report_bytes r.head (lines_between r from to) else part_bytes r from to

-- parts of one run that have each image from A to below B once
pub record ArePartsOf (r : RunValue) (ranges : List Range) (from to : ℕ) : Type 0 where
  pub run : IsRun r
  pub ranges_are : AreRanges r ranges
  pub cover : CoverOnce ranges from to
  pub within : to ≤ r.head.images

-- what they come to together is the text of these images by definition
abbrev pub JoinIsRun : Type 0
JoinIsRun = (r : RunValue) (ranges : List Range) (from to : ℕ) (bytes : List ℕ) (failing : Bool) → ArePartsOf r ranges from to → IsJoined (texts_of r ranges) bytes failing
    → bytes ≡ run_bytes r from to

-- and they are refused for their length or for want of memory alone, where they are all parts of the run, or may be some
abbrev pub PartsAreJoined : Type 0
PartsAreJoined = (part : Bool) (r : RunValue) (ranges : List Range) (from to : ℕ) (fault : JoinFault) → ArePartsOf r ranges from to
    → (part ≡ false → (from ≡ 0) × (to ≡ r.head.images)) → RefusesJoin part (texts_of r ranges) fault
    → (fault.cause ≡ cause.TooLong) ⊎ (fault.cause ≡ cause.Memory)

-- What a row of parts that were read may be: each of the run of the first, each begins where the one before it ends; or the first
-- place at which that fails. And what is printed where it holds (docs/COMMANDS.md, Joining parts).
use Rattle.std.specs.Prelude.{ℕ, ◌+◌, ◌-◌, ◌≡◌, ◌↔◌, IsTrue, Bool, ◌<◌, ◌⊎◌, false, List, ◌++◌, length, slice_get, Some}
use Rattle.std.specs.List.Sorted.{IsPermutation, IsNonDecreasingBy, IsStableByKey}
use Rattle.std.specs.Ordering.{nat_cmp}
use Rattle.base.specs.declared.causes.JoinCause.{JoinCause}
use Rattle.base.specs.declared.causes.JoinCause.TheVariants as cause
use Rattle.join.specs.declared.fault.JoinFault.{JoinFault}
use Rattle.report.specs.declared.span.Span.{Span}
use Rattle.join.specs.Reading.{PartRead, none_read, last_text}
use Rattle.join.specs.Joining.{IsOfRun, LacksImages, opening_text, shown_bytes, totalled}

-- each of the first n parts is of the run of the first one
abbrev pub AreAlikeTo : List PartRead → ℕ → Type 0
AreAlikeTo rs n = (k : ℕ) (run r : PartRead) → k < n → slice_get rs 0 ≡ Some run → slice_get rs k ≡ Some r → IsOfRun run r

-- every part is of the run of the first one
pub record NoneIsStrange (rs : List PartRead) : Type 0 where
  pub alike : (n : ℕ) → AreAlikeTo rs n

-- the first part that is of another run stands at this place
pub record IsStrangeAt (rs : List PartRead) (place : ℕ) : Type 0 where
  pub within : place < length rs
  pub run : PartRead
  pub run_there : slice_get rs 0 ≡ Some run
  pub read : PartRead
  pub there : slice_get rs place ≡ Some read
  pub alike : AreAlikeTo rs place
  pub strange : IsOfRun run read → ⊥

-- each of the first n parts ends where the next one begins
abbrev pub AreJoinedTo : List PartRead → ℕ → Type 0
AreJoinedTo rs n = (k : ℕ) (left right : PartRead) → k < n → slice_get rs k ≡ Some left → slice_get rs (k + 1) ≡ Some right → left.span.to ≡ right.span.from

-- every part ends where the next one begins
pub record NoneIsApart (rs : List PartRead) : Type 0 where
  pub joined : (n : ℕ) → AreJoinedTo rs n

-- images, or cuts, are missing between the end of a text and the start of the next one, or both have some
abbrev pub IsApart : ℕ → ℕ → JoinCause → Type 0
IsApart end start kind = ((kind ≡ cause.Gap) × (end < start)) ⊎ ((kind ≡ cause.Overlap) × (start < end))

-- the first part that doesn't end where the next one begins is told, by the file of the next one
pub record IsApartAt (rs : List PartRead) (fault : JoinFault) : Type 0 where
  pub place : ℕ
  pub left : PartRead
  pub left_there : slice_get rs place ≡ Some left
  pub right : PartRead
  pub right_there : slice_get rs (place + 1) ≡ Some right
  pub joined : AreJoinedTo rs place
  pub file : fault.file ≡ right.file
  pub kind : IsApart left.span.to right.span.from fault.cause

-- the bytes are the text of a row of parts: the head of the first one, the lines of all, and the totals over all
pub record IsWritten (span : Span) (rs : List PartRead) (bytes : List ℕ) : Type 0 where
  pub run : PartRead
  pub there : slice_get rs 0 ≡ Some run
  pub is : bytes ≡ opening_text span ++ (run.head ++ (shown_bytes run.first rs ++ last_text run.first (span.to - span.from) (totalled none_read rs)))

-- the span begins where the first part begins, and ends where the last one ends
pub record IsSpanOfRow (rs : List PartRead) (span : Span) : Type 0 where
  pub run : PartRead
  pub there : slice_get rs 0 ≡ Some run
  pub last : PartRead
  pub last_there : slice_get rs (length rs - 1) ≡ Some last
  pub is : span ≡ record { from = run.span.from; to = last.span.to; images = run.span.images; inputs = run.span.inputs }

-- parts in a row have all images of their run
pub record IsRowWhole (rs : List PartRead) : Type 0 where
  pub ends : (first last : PartRead) → slice_get rs 0 ≡ Some first → slice_get rs (length rs - 1) ≡ Some last → (first.span.from ≡ 0) × (last.span.to ≡ first.span.images)

-- parts in a row, of that many files, haven't all images of their run
pub record IsRowShort (rs : List PartRead) (fault : JoinFault) : Type 0 where
  pub first : PartRead
  pub first_there : slice_get rs 0 ≡ Some first
  pub last : PartRead
  pub last_there : slice_get rs (length rs - 1) ≡ Some last
  pub kind : fault.cause ≡ cause.Gap
  pub lacking : LacksImages first last.span.to (length rs) fault.file

-- parts in the order of their images are joined: each begins where the one before it ends, and they are the whole run, unless they may
-- be a part of it
pub record IsRow (part : Bool) (rs : List PartRead) : Type 0 where
  pub joined : NoneIsApart rs
  pub whole : part ≡ false → IsRowWhole rs

-- why they aren't: the row breaks, or it has to be whole and isn't
pub data WhyNoRow (part : Bool) (rs : List PartRead) (fault : JoinFault) : Type 0 where
  for_break : IsApartAt rs fault → WhyNoRow part rs fault
  for_ends : part ≡ false → NoneIsApart rs → IsRowShort rs fault → WhyNoRow part rs fault

-- the bytes are the text of parts in a row, with a failing line or without
pub record IsRowText (part : Bool) (rs : List PartRead) (bytes : List ℕ) (failing : Bool) : Type 0 where
  pub stands : IsRow part rs
  pub span : Span
  pub of_row : IsSpanOfRow rs span
  pub written : IsWritten span rs bytes
  pub fails : IsTrue failing ↔ (0 < (totalled none_read rs).lines)

-- the bytes are the text of parts, put into the order of their images
pub record IsSortedText (part : Bool) (reads : List PartRead) (bytes : List ℕ) (failing : Bool) : Type 0 where
  pub row : List PartRead
  pub order : IsPermutation reads row
  pub text : IsRowText part row bytes failing

-- parts, put into the order of their images, are no such row
pub record IsSortedApart (part : Bool) (reads : List PartRead) (fault : JoinFault) : Type 0 where
  pub row : List PartRead
  pub order : IsPermutation reads row
  pub rising : IsNonDecreasingBy (λ (r : PartRead). r.span.from) row
  pub stable : IsStableByKey (λ (r : PartRead). r.span.from) nat_cmp reads row
  pub apart : WhyNoRow part row fault

-- why parts that were read are not joined
pub data WhyNotJoined (part : Bool) (reads : List PartRead) : JoinFault → Type 0 where
  for_memory : WhyNotJoined part reads (record { cause = cause.Memory; file = 0 })
  for_run : (place : ℕ) → IsStrangeAt reads place → WhyNotJoined part reads (record { cause = cause.OtherRun; file = place })
  for_images : (fault : JoinFault) → NoneIsStrange reads → IsSortedApart part reads fault → WhyNotJoined part reads fault

-- What a row of texts of cases that were read may be: each of the run of the first, each begins right after the one before it ends, and
-- they have no more cases than a run; or the first place at which that fails. And what is printed where it holds.
use Rattle.std.specs.Prelude.{ℕ, ◌+◌, ◌-◌, ◌≡◌, ◌↔◌, IsTrue, ◌<◌, ◌≤◌, ◌^◌, ◌⊎◌, Bool, false, List, length, take, slice_get, Some}
use Rattle.std.specs.List.Sorted.{IsPermutation, IsNonDecreasingBy, IsStableByKey}
use Rattle.std.specs.Ordering.{nat_cmp}
use Rattle.base.specs.declared.causes.JoinCause.TheVariants as cause
use Rattle.join.specs.declared.fault.JoinFault.{JoinFault}
use Rattle.join.specs.declared.case_parts.fault.CasesFault.{CasesFault}
use Rattle.join.specs.declared.case_parts.fault.CasesFault.TheVariants as refused
use Rattle.losses.specs.FoundCases.{most_cases}
use Rattle.join.specs.Rows.{IsApart}
use Rattle.join.specs.CaseTexts.{first_of, last_of}
use Rattle.join.specs.CaseReading.{CasesRead}
use Rattle.join.specs.CaseJoining.{IsOfCaseRun, Adjoins, HaveAllCuts, LackCuts, all_cases, all_totals, joined_cases}

-- the numbers of a text that was read are within their ranges
pub record IsSmallPart (r : CasesRead) : Type 0 where
  pub last : last_of r.head ≤ 65536
  pub cuts : r.totals.cuts ≤ 65537
  pub cases : r.totals.cases ≤ most_cases
  pub failing : r.totals.failing ≤ r.totals.cases
  pub torn : r.totals.torn < 2 ^ 64
  pub lost : r.totals.lost < 2 ^ 64

-- each of the first n texts is of the run of the first one
abbrev pub AreOfRunTo : List CasesRead → ℕ → Type 0
AreOfRunTo rs n = (k : ℕ) (run r : CasesRead) → k < n → slice_get rs 0 ≡ Some run → slice_get rs k ≡ Some r → IsOfCaseRun run r

-- every text is
pub record NoneIsForeign (rs : List CasesRead) : Type 0 where
  pub alike : (n : ℕ) → AreOfRunTo rs n

-- the first text that is of another run stands at this place
pub record IsForeignAt (rs : List CasesRead) (place : ℕ) : Type 0 where
  pub within : place < length rs
  pub run : CasesRead
  pub run_there : slice_get rs 0 ≡ Some run
  pub read : CasesRead
  pub there : slice_get rs place ≡ Some read
  pub alike : AreOfRunTo rs place
  pub foreign : IsOfCaseRun run read → ⊥

-- each of the first n texts adjoins the next one
abbrev pub AreAdjoining : List CasesRead → ℕ → Type 0
AreAdjoining rs n = (k : ℕ) (left right : CasesRead) → k < n → slice_get rs k ≡ Some left → slice_get rs (k + 1) ≡ Some right → Adjoins left right

pub record NoneIsApart (rs : List CasesRead) : Type 0 where
  pub joined : (n : ℕ) → AreAdjoining rs n

-- the first text that doesn't adjoin the next one is told, by the file of the next one
pub record IsApartAt (rs : List CasesRead) (fault : JoinFault) : Type 0 where
  pub place : ℕ
  pub left : CasesRead
  pub left_there : slice_get rs place ≡ Some left
  pub right : CasesRead
  pub right_there : slice_get rs (place + 1) ≡ Some right
  pub joined : AreAdjoining rs place
  pub file : fault.file ≡ right.file
  pub kind : IsApart (last_of left.head + 1) (first_of right.head) fault.cause

-- with the text at a place they first have more cases than a run may have
pub record IsManyAt (rs : List CasesRead) (file : ℕ) : Type 0 where
  pub place : ℕ
  pub read : CasesRead
  pub there : slice_get rs place ≡ Some read
  pub named : file ≡ read.file
  pub before : all_cases (take place rs) ≤ most_cases
  pub past : most_cases < all_cases (take (place + 1) rs)

-- the first and the last text of a row
pub record AreEnds (rs : List CasesRead) (first last : CasesRead) : Type 0 where
  pub there : slice_get rs 0 ≡ Some first
  pub last_there : slice_get rs (length rs - 1) ≡ Some last

-- it has all cuts of its log
pub record RowHasAllCuts (rs : List CasesRead) : Type 0 where
  pub first : CasesRead
  pub last : CasesRead
  pub ends : AreEnds rs first last
  pub have : HaveAllCuts first last

-- or it hasn't, which is told at that file
pub record RowLacksCuts (rs : List CasesRead) (file : ℕ) : Type 0 where
  pub first : CasesRead
  pub last : CasesRead
  pub ends : AreEnds rs first last
  pub lack : LackCuts first last (length rs) file

-- texts in the order of their cuts are joined
pub record IsCasesRow (part : Bool) (rs : List CasesRead) : Type 0 where
  pub joined : NoneIsApart rs
  pub few : all_cases rs ≤ most_cases
  pub whole : part ≡ false → RowHasAllCuts rs

-- or why they aren't
pub data WhyNoCasesRow (part : Bool) (rs : List CasesRead) : CasesFault → Type 0 where
  for_break : (fault : JoinFault) → IsApartAt rs fault → WhyNoCasesRow part rs (refused.Part fault)
  for_many : (file : ℕ) → NoneIsApart rs → IsManyAt rs file → WhyNoCasesRow part rs (refused.TooMany file)
  for_ends : (file : ℕ) → part ≡ false → NoneIsApart rs → all_cases rs ≤ most_cases → RowLacksCuts rs file → WhyNoCasesRow part rs (refused.Part (record { cause = cause.Gap; file = file }))

-- the bytes are the text of a row
pub record IsCasesWritten (rs : List CasesRead) (bytes : List ℕ) : Type 0 where
  pub first : CasesRead
  pub there : slice_get rs 0 ≡ Some first
  pub last : CasesRead
  pub last_there : slice_get rs (length rs - 1) ≡ Some last
  pub is : bytes ≡ joined_cases first last rs

-- with a failing line or without
pub record IsCasesRowText (part : Bool) (rs : List CasesRead) (bytes : List ℕ) (failing : Bool) : Type 0 where
  pub stands : IsCasesRow part rs
  pub written : IsCasesWritten rs bytes
  pub fails : IsTrue failing ↔ (0 < (all_totals rs).failing)

-- texts, put into the order of their cuts, are joined, or aren't
pub record IsSortedCases (part : Bool) (reads : List CasesRead) (bytes : List ℕ) (failing : Bool) : Type 0 where
  pub row : List CasesRead
  pub order : IsPermutation reads row
  pub text : IsCasesRowText part row bytes failing

pub record IsSortedFault (part : Bool) (reads : List CasesRead) (fault : CasesFault) : Type 0 where
  pub row : List CasesRead
  pub order : IsPermutation reads row
  pub rising : IsNonDecreasingBy (λ (r : CasesRead). first_of r.head) row
  pub stable : IsStableByKey (λ (r : CasesRead). first_of r.head) nat_cmp reads row
  pub why : WhyNoCasesRow part row fault

-- why texts that were read are not joined
pub data WhyNoCases (part : Bool) (reads : List CasesRead) : CasesFault → Type 0 where
  for_memory : WhyNoCases part reads (refused.Part (record { cause = cause.Memory; file = 0 }))
  for_run : (place : ℕ) → IsForeignAt reads place → WhyNoCases part reads (refused.Part (record { cause = cause.OtherRun; file = place }))
  for_cuts : (fault : CasesFault) → NoneIsForeign reads → IsSortedFault part reads fault → WhyNoCases part reads fault

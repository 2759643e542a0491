-- What texts of cases come to together, and when they are not joined (docs/COMMANDS.md, Joining parts).
use Rattle.std.specs.Prelude.{ℕ, ◌+◌, ◌-◌, ◌≡◌, ◌≢◌, ◌<◌, ◌≤◌, ◌⊎◌, ◌==◌, ◌&&◌, if◌then◌else◌, Bool, false, List, [], ◌∷◌, ◌++◌, length, slice_get, take, Option, None, Some}
use Rattle.std.specs.List.{All, flat_map, sum_by}
use Rattle.std.specs.List.Sorted.{IsPermutation, IsNonDecreasingBy, IsStableByKey}
use Rattle.std.specs.Ordering.{nat_cmp}
use Rattle.base.specs.declared.causes.JoinCause.TheVariants as cause
use Rattle.epochs.specs.declared.cuts.Cuts.{Cuts}
use Rattle.report.specs.Report.{HeadValue}
use Rattle.losses.specs.FoundCases.{most_cases}
use Rattle.case_text.specs.Text.{in_word, are_all_cuts, cases_head}
use Rattle.join.specs.declared.fault.JoinFault.{JoinFault}
use Rattle.join.specs.declared.case_parts.fault.CasesFault.{CasesFault}
use Rattle.join.specs.declared.case_parts.fault.CasesFault.TheVariants as refused
use Rattle.join.specs.declared.case_parts.totals.CaseTotals.{CaseTotals}
use Rattle.join.specs.Joining.{IsFirstLong}
use Rattle.join.specs.CaseTexts.{totals_line, first_of, last_of, NoCasesText}
use Rattle.join.specs.CaseReading.{CasesRead, IsCasesPart}

-- the texts are of cases, of which these are read; the first is file n
abbrev pub AreCasesParts : ℕ → List (List ℕ) → List CasesRead → Type 0
AreCasesParts n [] [] = Unit {0}
AreCasesParts n [] (r ∷ rs) = ⊥
AreCasesParts n (t ∷ ts) [] = ⊥
AreCasesParts n (t ∷ ts) (r ∷ rs) = IsCasesPart t r × (r.file ≡ n) × AreCasesParts (n + 1) ts rs

-- a head over another range of cuts
abbrev pub cuts_between : Cuts → Option ℕ → Option ℕ → Cuts
cuts_between cuts from to = record { kind = cuts.kind; from = from; to = to; flushes = cuts.flushes }

abbrev pub head_between : HeadValue → Option ℕ → Option ℕ → HeadValue
head_between h from to = record {
  sectors = h.sectors;
  entries = h.entries;
  cuts = cuts_between h.cuts from to;
  bound = h.bound;
  tears = h.tears;
  by = h.by;
  first = h.first;
  programs = h.programs;
  images = h.images;
  base = h.base;
}

-- what a text says of its run: the number of the inputs, and its options and programs but for the range
abbrev pub run_text : CasesRead → List ℕ
run_text r = cases_head r.inputs (head_between r.head None None) r.asked

-- two texts are of one run: they say the same of it
abbrev pub IsOfCaseRun : CasesRead → CasesRead → Type 0
IsOfCaseRun run r = run_text r ≡ run_text run

-- in a row each begins right after the one before ends
abbrev pub Adjoins : CasesRead → CasesRead → Type 0
Adjoins left right = last_of left.head + 1 ≡ first_of right.head

abbrev pub FollowInRow : List CasesRead → Type 0
FollowInRow [] = Unit {0}
FollowInRow (r ∷ []) = Unit {0}
FollowInRow (r ∷ s ∷ rs) = Adjoins r s × FollowInRow (s ∷ rs)

-- what all of them come to
abbrev pub all_cases : List CasesRead → ℕ
all_cases rs = sum_by (λ (r : CasesRead). r.totals.cases) rs

abbrev pub all_totals : List CasesRead → CaseTotals
all_totals rs = record {
  cuts = sum_by (λ (r : CasesRead). r.totals.cuts) rs;
  cases = all_cases rs;
  failing = sum_by (λ (r : CasesRead). r.totals.failing) rs;
  torn = in_word (sum_by (λ (r : CasesRead). r.totals.torn) rs);
  lost = in_word (sum_by (λ (r : CasesRead). r.totals.lost) rs);
}

abbrev pub both_totals : CaseTotals → CaseTotals → CaseTotals
both_totals t u = record {
  cuts = t.cuts + u.cuts;
  cases = t.cases + u.cases;
  failing = t.failing + u.failing;
  torn = in_word (t.torn + u.torn);
  lost = in_word (t.lost + u.lost);
}

-- The range of cuts that the text of a row tells: from the first cut of its first text to the last cut of its last one, with the number of
-- the inputs. Where these are all cuts of the log it tells none, and no number, as the run that was asked for no range.
abbrev pub have_all_cuts : CasesRead → CasesRead → Bool
have_all_cuts first last = (first_of first.head == 0) && (last_of last.head == last.head.entries)

abbrev pub told_from : CasesRead → CasesRead → Option ℕ
told_from first last = if have_all_cuts first last then None else first.head.cuts.from

abbrev pub told_to : CasesRead → CasesRead → Option ℕ
told_to first last = if have_all_cuts first last then None else last.head.cuts.to

abbrev pub told_number : CasesRead → CasesRead → Option ℕ
told_number first last = if have_all_cuts first last then None else first.inputs

abbrev pub joined_head : CasesRead → CasesRead → HeadValue
joined_head first last = head_between first.head (told_from first last) (told_to first last)

-- the text of a row
abbrev pub joined_cases : CasesRead → CasesRead → List CasesRead → List ℕ
joined_cases first last row =
    cases_head (told_number first last) (joined_head first last) first.asked ++ (flat_map (λ (r : CasesRead). r.lines) row ++ totals_line (are_all_cuts (joined_head first last).cuts) (all_totals row))

-- a row has all cuts of its log: its first text begins at cut 0, and its last one ends at the last cut
pub record HaveAllCuts (first last : CasesRead) : Type 0 where
  pub begins : first_of first.head ≡ 0
  pub ends : last_of last.head ≡ last.head.entries

-- these bytes are what is asked of the texts: all are of one run, they follow one another, and they have no more cases than a run may
-- have; with `part` the text of the cuts that they have, and without it that of a run of all cuts
pub record AreJoinedCases (part : Bool) (texts : List (List ℕ)) (bytes : List ℕ) : Type 0 where
  pub reads : List CasesRead
  pub each : AreCasesParts 0 texts reads
  pub row : List CasesRead
  pub order : IsPermutation reads row
  pub first : CasesRead
  pub last : CasesRead
  pub begins : slice_get row 0 ≡ Some first
  pub ends : slice_get row (length row - 1) ≡ Some last
  pub one : All (IsOfCaseRun first) row
  pub follow : FollowInRow row
  pub few : all_cases row ≤ most_cases
  pub whole : part ≡ false → HaveAllCuts first last
  pub is : bytes ≡ joined_cases first last row

-- the texts have a failing line
abbrev pub HasFailing : List (List ℕ) → Type 0
HasFailing texts = (reads : List CasesRead) × AreCasesParts 0 texts reads × (0 < sum_by (λ (r : CasesRead). r.totals.failing) reads)

-- the first file that isn't the text of cases
pub record IsFirstNone (texts : List (List ℕ)) (file : ℕ) : Type 0 where
  pub before : List CasesRead
  pub parts : AreCasesParts 0 (take file texts) before
  pub text : List ℕ
  pub there : slice_get texts file ≡ Some text
  pub other : NoCasesText text

-- the first one of another run than the first file
pub record IsFirstForeign (texts : List (List ℕ)) (file : ℕ) : Type 0 where
  pub reads : List CasesRead
  pub each : AreCasesParts 0 texts reads
  pub run : CasesRead
  pub run_there : slice_get reads 0 ≡ Some run
  pub before : All (IsOfCaseRun run) (take file reads)
  pub read : CasesRead
  pub there : slice_get reads file ≡ Some read
  pub foreign : IsOfCaseRun run read → ⊥

-- all of one run, by their first cuts, and those that begin alike by their files
pub record AreByCuts (texts : List (List ℕ)) (reads row : List CasesRead) : Type 0 where
  pub each : AreCasesParts 0 texts reads
  pub run : CasesRead
  pub one : All (IsOfCaseRun run) reads
  pub order : IsPermutation reads row
  pub rising : IsNonDecreasingBy (λ (r : CasesRead). first_of r.head) row
  pub stable : IsStableByKey (λ (r : CasesRead). first_of r.head) nat_cmp reads row

-- of these the first that doesn't begin right after the one before it ends
pub record IsFirstApart (texts : List (List ℕ)) (left right : CasesRead) : Type 0 where
  pub reads : List CasesRead
  pub row : List CasesRead
  pub by_cuts : AreByCuts texts reads row
  pub front : List CasesRead
  pub back : List CasesRead
  pub parted : row ≡ front ++ left ∷ right ∷ back
  pub before : FollowInRow (front ++ left ∷ [])

-- they follow one another, and with this one they first have more cases than a run may have
pub record IsFirstMany (texts : List (List ℕ)) (read : CasesRead) : Type 0 where
  pub reads : List CasesRead
  pub row : List CasesRead
  pub by_cuts : AreByCuts texts reads row
  pub follow : FollowInRow row
  pub front : List CasesRead
  pub back : List CasesRead
  pub parted : row ≡ front ++ read ∷ back
  pub before : all_cases front ≤ most_cases
  pub past : most_cases < all_cases (front ++ read ∷ [])

-- a row hasn't all cuts of its log: its first text, which is that file, doesn't begin at cut 0; or else its last one ends before the last
-- cut, and the others would be in a file after all these
abbrev pub LackCuts : CasesRead → CasesRead → ℕ → ℕ → Type 0
LackCuts first last files file = ((0 < first_of first.head) × (file ≡ first.file)) ⊎ ((first_of first.head ≡ 0) × (last_of last.head ≢ last.head.entries) × (file ≡ files))

-- texts of one run that follow one another, and that haven't all cuts of its log
pub record AreShortOfCuts (texts : List (List ℕ)) (file : ℕ) : Type 0 where
  pub reads : List CasesRead
  pub row : List CasesRead
  pub by_cuts : AreByCuts texts reads row
  pub follow : FollowInRow row
  pub few : all_cases row ≤ most_cases
  pub first : CasesRead
  pub last : CasesRead
  pub begins : slice_get row 0 ≡ Some first
  pub ends : slice_get row (length row - 1) ≡ Some last
  pub lacking : LackCuts first last (length texts) file

-- why texts of cases are not joined; `part` says whether they may have a part of the cuts alone
pub data RefusesCases (part : Bool) (texts : List (List ℕ)) : CasesFault → Type 0 where
  too_long : (file : ℕ) → IsFirstLong texts file → RefusesCases part texts (refused.Part (record { cause = cause.TooLong; file = file }))
  no_part : (file : ℕ) → IsFirstNone texts file → RefusesCases part texts (refused.Part (record { cause = cause.NotPart; file = file }))
  of_other_run : (file : ℕ) → IsFirstForeign texts file → RefusesCases part texts (refused.Part (record { cause = cause.OtherRun; file = file }))
  with_gap : (left right : CasesRead) → IsFirstApart texts left right → last_of left.head + 1 < first_of right.head → RefusesCases part texts (refused.Part (record { cause = cause.Gap; file = right.file }))
  with_overlap : (left right : CasesRead) → IsFirstApart texts left right → first_of right.head < last_of left.head + 1 → RefusesCases part texts (refused.Part (record { cause = cause.Overlap; file = right.file }))
  with_many : (read : CasesRead) → IsFirstMany texts read → RefusesCases part texts (refused.TooMany read.file)
  short_of_cuts : (file : ℕ) → part ≡ false → AreShortOfCuts texts file → RefusesCases part texts (refused.Part (record { cause = cause.Gap; file = file }))
  no_memory : RefusesCases part texts (refused.Part (record { cause = cause.Memory; file = 0 }))

-- for their length
abbrev pub IsTooLong : CasesFault → Type 0
IsTooLong (refused.Part fault) = fault.cause ≡ cause.TooLong
IsTooLong (refused.TooMany file) = ⊥

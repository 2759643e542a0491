-- Texts of consecutive ranges of cuts of one run, joined, are the text of the run of the whole range: of all cuts that of the run that was
-- asked for no range. And they are joined.
use Rattle.std.specs.Prelude.{ℕ, ◌+◌, ◌≡◌, ◌<◌, ◌⊎◌, ◌==◌, ◌&&◌, if◌then◌else◌, None, Bool, true, false, List, [], ◌∷◌, length, map, Option, unwrap_or}
use Rattle.std.specs.List.{All, flat_map, sum_by}
use Rattle.base.specs.declared.causes.JoinCause.TheVariants as cause
use Rattle.report.specs.Report.{HeadValue}
use Rattle.losses.specs.FoundCases.{most_cases}
use Rattle.losses.specs.declared.found.Losses.{Losses}
use Rattle.case_text.specs.Text.{in_word, inputs_told}
use Rattle.join.specs.declared.case_parts.fault.CasesFault.{CasesFault}
use Rattle.join.specs.declared.case_parts.fault.CasesFault.TheVariants as refused
use Rattle.join.specs.CaseTexts.{ToldCase, CasesValue, told_text, IsCasesText}
use Rattle.join.specs.CaseJoining.{cuts_between, head_between, AreJoinedCases, IsTooLong, RefusesCases}

-- a run by its cuts: a number of its inputs, at which cuts of a range cases are looked for, and what is found at each with all programs
pub record CaseRun : Type 0 where
  pub inputs : ℕ
  pub head : HeadValue
  pub asked : Losses
  pub cuts : ℕ → ℕ → List ℕ
  pub told : ℕ → List ToldCase
  pub cases : ℕ → ℕ
  pub torn : ℕ → ℕ
  pub lost : ℕ → ℕ

-- a range as it is asked for
pub record AskedRange : Type 0 where
  pub from : Option ℕ
  pub to : Option ℕ

abbrev pub start_of : AskedRange → ℕ
start_of x = unwrap_or x.from 0

abbrev pub end_of : CaseRun → AskedRange → ℕ
end_of r x = unwrap_or x.to r.head.entries

abbrev pub cuts_of_range : CaseRun → AskedRange → List ℕ
cuts_of_range r x = r.cuts (start_of x) (end_of r x)

-- a range as the text of its run tells it: none where it has all cuts of the log
abbrev pub has_all : CaseRun → AskedRange → Bool
has_all r x = (start_of x == 0) && (end_of r x == r.head.entries)

abbrev pub as_told : CaseRun → AskedRange → AskedRange
as_told r x = if has_all r x then record { from = None; to = None } else x

-- the number of the inputs, as that text tells it
abbrev pub number_in : CaseRun → AskedRange → Option ℕ
number_in r x = inputs_told (cuts_between r.head.cuts x.from x.to) r.inputs

-- what a run of that range prints
abbrev pub cases_between : CaseRun → AskedRange → CasesValue
cases_between r x = record {
  inputs = number_in r x;
  head = head_between r.head x.from x.to;
  asked = r.asked;
  told = flat_map r.told (cuts_of_range r x);
  totals = record {
    cuts = length (cuts_of_range r x);
    cases = in_word (sum_by r.cases (cuts_of_range r x));
    failing = in_word (sum_by (λ (cut : ℕ). length (r.told cut)) (cuts_of_range r x));
    torn = in_word (sum_by r.torn (cuts_of_range r x));
    lost = in_word (sum_by r.lost (cuts_of_range r x));
  };
}

-- ranges of a run that follow one another, of which the last ends with the whole one
abbrev pub FollowToEnd : CaseRun → ℕ → AskedRange → List AskedRange → Type 0
FollowToEnd r from whole [] = ⊥
FollowToEnd r from whole (x ∷ []) = (start_of x ≡ from) × (x.to ≡ whole.to)
FollowToEnd r from whole (x ∷ y ∷ more) = (start_of x ≡ from) × FollowToEnd r (end_of r x + 1) whole (y ∷ more)

-- They are parts of the run of the whole range: together they have its cuts, as they have where each ends at a last cut
-- (`cut_parts_are_run` of `inspect`).
pub record ArePartsOfCases (r : CaseRun) (ranges : List AskedRange) (whole : AskedRange) : Type 0 where
  pub first : AskedRange
  pub others : List AskedRange
  pub are : ranges ≡ first ∷ others
  pub begins : first.from ≡ whole.from
  pub follow : FollowToEnd r (start_of whole) whole ranges
  pub cuts : flat_map (cuts_of_range r) ranges ≡ cuts_of_range r whole
  pub printed : All (λ (x : AskedRange). IsCasesText (told_text (cases_between r x)) (cases_between r x)) ranges

abbrev pub JoinIsCases : Type 0
JoinIsCases = (part : Bool) (r : CaseRun) (ranges : List AskedRange) (whole : AskedRange) (bytes : List ℕ) → ArePartsOfCases r ranges whole
    → AreJoinedCases part (map (λ (x : AskedRange). told_text (cases_between r x)) ranges) bytes → bytes ≡ told_text (cases_between r (as_told r whole))

-- the fault is the number of their cases, and the run of the whole range has more cases than a run may have
abbrev pub HasTooMany : CaseRun → AskedRange → CasesFault → Type 0
HasTooMany r whole (refused.Part fault) = ⊥
HasTooMany r whole (refused.TooMany file) = most_cases < sum_by r.cases (cuts_of_range r whole)

-- They are refused for their length, for want of memory, or since they have too many cases, and for nothing else, where they have all cuts
-- of the log, or may have some.
abbrev pub CasesAreJoined : Type 0
CasesAreJoined = (part : Bool) (r : CaseRun) (ranges : List AskedRange) (whole : AskedRange) (fault : CasesFault) → ArePartsOfCases r ranges whole
    → (part ≡ false → has_all r whole ≡ true) → RefusesCases part (map (λ (x : AskedRange). told_text (cases_between r x)) ranges) fault
    → IsTooLong fault ⊎ (fault ≡ refused.Part (record { cause = cause.Memory; file = 0 })) ⊎ HasTooMany r whole fault

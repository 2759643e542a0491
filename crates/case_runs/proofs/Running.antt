-- Runs of a checker on the images of cases.
use Rattle.std.proofs.Common.{ℕ, suc, ◌≡◌, ◌+◌, ◌-◌, ◌<◌, ◌≤◌, ◌==◌, nat_lt, Bool, true, false, if◌then◌else◌, List, [], ◌∷◌, ◌++◌, length, Option, None, Some, MatchOption, refl, sym, ◌∙◌, ap, arith}
use Rattle.std.specs.List.{range_with_len}
use Rattle.std.proofs.lemmas.Bool.Decides.{nat_tests}
use Rattle.std.proofs.lemmas.Bool.{eq-eqb, ne_eqb}
use Rattle.std.proofs.lemmas.Option.{MatchOption-at_none}
use Rattle.base.proofs.Lists.{range_with_len-more, range_with_len-append}
use Rattle.logfmt.specs.Bounds.{IsLog}
use Rattle.helpers.specs.declared.device.Context.{Context}
use Rattle.helpers.specs.Footprint.{FootprintValue, lists, footprint_with, footprint_after}
use Rattle.machine.specs.Outcome.{OutOfSteps}
use Rattle.interp.specs.Ending.{ending_of}
use Rattle.checker.specs.Checker.{CheckerValue, Suits, judgement}
use Rattle.checker.specs.Footprints.{footprint_of, kept_footprint}
use Rattle.checker.proofs.Suiting.{suits_image}
use Rattle.images.specs.Views.{sectors_of}
use Rattle.images.proofs.Devices.{images_are_devices}
use Rattle.cases.specs.declared.split.Parted.{Parted}
use Rattle.cases.specs.Choices.{departures}
use Rattle.cases.specs.Risk.{parts_at_risk}
use Rattle.cases.specs.Rows.{row}
use Rattle.cases.specs.Cases.{Split, representative, or_else, first_split, split_in_row}
use Rattle.cases.specs.AtCut.{parts_of, case_of}
use Rattle.interp.specs.declared.outcome.Outcome.{Outcome}
use Rattle.case_runs.specs.declared.runs.Looked.{Looked}
use Rattle.case_runs.specs.Images.{ImageValue, sectors_in, count_sectors}
use Rattle.case_runs.specs.Judges.{or_all, looks, program_of, looked_in, IsSplitAt, RunsSo, JudgesSo}
use Rattle.case_runs.specs.Leaves.{IsFit}

-- the part that splits a case, of some sectors
abbrev pub first_of : ImageValue → List ℕ → Option Split
first_of v sectors = first_split v.at.log v.at.way v.at.cut (case_of v.tears (parts_of v.at) v.sets) sectors

first_append : (v : ImageValue) (xs ys : List ℕ) → first_of v xs ≡ None → first_of v (xs ++ ys) ≡ first_of v ys
first_append v [] ys none = refl
first_append v (x ∷ xs) ys none = by (split_in_row v.at.log v.at.way v.at.cut x (case_of v.tears (parts_of v.at) v.sets) (row v.at.log.entries v.at.cut x) (range_with_len 0 8)) none (first_append v xs ys)
  where
    by : (o : Option Split) → or_else o (first_of v xs) ≡ None → (first_of v xs ≡ None → first_of v (xs ++ ys) ≡ first_of v ys) → or_else o (first_of v (xs ++ ys)) ≡ first_of v ys
    by None none rest = rest none
    by (Some it) none rest = absurd (let bad : Some it ≡ None = none in cc)

or_some : (o r : Option Split) (x : Split) → or_else o None ≡ Some x → or_else o r ≡ Some x
or_some None r x is = absurd (let bad : None ≡ Some x = is in cc)
or_some (Some it) r x is = is

-- none of the sectors up to one
pub split_more : (v : ImageValue) (s : ℕ) → first_of v (range_with_len 0 s) ≡ None → first_of v (s ∷ []) ≡ None → first_of v (range_with_len 0 (s + 1)) ≡ None
split_more v s none own =
    let here : 0 + s ≡ s = omega arith in
    ap (first_of v) (range_with_len-more 0 s) ∙ first_append v (range_with_len 0 s) ((0 + s) ∷ []) none ∙ ap (λ n. first_of v (n ∷ [])) here ∙ own

pub split_found : (v : ImageValue) (s n : ℕ) (it : Parted) → s < n → first_of v (range_with_len 0 s) ≡ None → IsSplitAt v.at v.tears v.sets (Some it) (s ∷ []) → IsSplitAt v.at v.tears v.sets (Some it) (range_with_len 0 n)
split_found v s n it less none found =
    let many : n ≡ s + suc (n - s - 1) = omega (arith, less) in
    let here : 0 + s ≡ s = omega arith in (
      found.0,
      ap (λ m. first_of v (range_with_len 0 m)) many
          ∙ ap (first_of v) (range_with_len-append 0 s (suc (n - s - 1)))
          ∙ first_append v (range_with_len 0 s) (range_with_len (0 + s) (suc (n - s - 1))) none
          ∙ ap (λ a. first_of v (range_with_len a (suc (n - s - 1)))) here
          ∙ or_some (split_in_row v.at.log v.at.way v.at.cut s (case_of v.tears (parts_of v.at) v.sets) (row v.at.log.entries v.at.cut s) (range_with_len 0 8))
          (first_of v (range_with_len (s + 1) (n - s - 1))) _ found.1,
    )

pub split_none : (v : ImageValue) (s n : ℕ) → s ≤ n → n ≤ s → first_of v (range_with_len 0 s) ≡ None → first_of v (range_with_len 0 n) ≡ None
split_none v s n low high none = let same : n ≡ s = omega (arith, low, high) in ap (λ m. first_of v (range_with_len 0 m)) same ∙ none

-- more room keeps the same list

after : ℕ → Option (List ℕ) → List ℕ → Option (List ℕ)
after room o ns = (footprint_after (record { room = room; sectors = o }) ns).sectors

none_after : (room : ℕ) (ns : List ℕ) → after room None ns ≡ None
unfolding footprint_with after
none_after room [] = refl
none_after room (n ∷ ns) = none_after room ns

kept_up : (r q : ℕ) → r ≤ q → (ns : List ℕ) (o : Option (List ℕ)) (l : List ℕ) → after r o ns ≡ Some l → after q o ns ≡ Some l
unfolding footprint_with after
kept_up r q le [] o l is = is
kept_up r q le (n ∷ ns) None l is = kept_up r q le ns None l is
kept_up r q le (n ∷ ns) (Some numbers) l is = by (λ o h. kept_up r q le ns o l h) (lists numbers n) (nat_lt (length numbers) r) refl is
  where
    by : ((o : Option (List ℕ)) → after r o ns ≡ Some l → after q o ns ≡ Some l) → (there fits : Bool) → nat_lt (length numbers) r ≡ fits
        → after r (if there then Some numbers else if fits then Some (numbers ++ n ∷ []) else None) ns ≡ Some l
        → after q (if there then Some numbers else if nat_lt (length numbers) q then Some (numbers ++ n ∷ []) else None) ns ≡ Some l
    by rest true fits e h = rest (Some numbers) h
    by rest false true e h =
        let few : length numbers < r = grind (arith, nat_tests, e) in
        let fewer : length numbers < q = omega (arith, few, le) in
        let more : nat_lt (length numbers) q ≡ true = grind (arith, nat_tests, fewer) in
        ap (λ b. after q (if b then Some (numbers ++ n ∷ []) else None) ns) more ∙ rest (Some (numbers ++ n ∷ [])) h
    by rest false false e h = absurd (let bad : None ≡ Some l = sym (none_after r ns) ∙ h in cc)

pub looks_kept : (room : ℕ) (checker : CheckerValue) (context : Context) (device : List (List ℕ)) (kept : FootprintValue) (l : List ℕ) → room ≤ 16384
    → kept ≡ kept_footprint room checker device context → kept.sectors ≡ Some l → looks checker context device ≡ l
unfolding looks after
looks_kept room checker context device kept l le is some =
    ap (or_all device) (by (room == 0) (sym (ap (λ (f : FootprintValue). f.sectors) is) ∙ some))
  where
    ns : List ℕ
    ns = footprint_of checker device context

    by : (b : Bool) → after room (if b then None else Some []) (footprint_of checker device context) ≡ Some l → after 16384 (Some []) (footprint_of checker device context) ≡ Some l
    by true h = absurd (let bad : None ≡ Some l = sym (none_after room (footprint_of checker device context)) ∙ h in cc)
    by false h = kept_up room 16384 le (footprint_of checker device context) (Some []) l h

pub looks_all : (checker : CheckerValue) (context : Context) (v : ImageValue) → (kept_footprint 16384 checker (sectors_in v) context).sectors ≡ None
    → looks checker context (sectors_in v) ≡ range_with_len 0 v.at.log.sectors
unfolding looks
looks_all checker context v none = ap (or_all (sectors_in v)) none ∙ ap (range_with_len 0) (count_sectors v)

-- a run whose footprint was kept
pub runs_kept : (room : ℕ) (checker : CheckerValue) (context : Context) (v : ImageValue) (outcome : Outcome) (looked : Looked) (kept : FootprintValue) (old l : List ℕ) → room ≤ 16384
    → ending_of outcome ≡ judgement checker (sectors_in v) context → kept ≡ kept_footprint room checker (sectors_in v) context → kept.sectors ≡ Some l
    → looked.all ≡ false → old ≡ [] → looked.sectors.items ≡ old ++ l → RunsSo checker context v outcome looked
runs_kept room checker context v outcome looked kept old l le ends is some one none put = record {
  ending = ends;
  sectors =
      ap (λ b. if b then range_with_len 0 v.at.log.sectors else looked.sectors.items) one ∙ put ∙ ap (λ ns. ns ++ l) none
      ∙ sym (looks_kept room checker context (sectors_in v) kept l le is some);
}

-- one that looked at too many sectors
pub runs_all : (checker : CheckerValue) (context : Context) (v : ImageValue) (outcome : Outcome) (looked : Looked) → ending_of outcome ≡ judgement checker (sectors_in v) context
    → (kept_footprint 16384 checker (sectors_in v) context).sectors ≡ None → looked.all ≡ true → RunsSo checker context v outcome looked
runs_all checker context v outcome looked ends none all = record {
  ending = ends;
  sectors = ap (λ b. if b then range_with_len 0 v.at.log.sectors else looked.sectors.items) all ∙ sym (looks_all checker context v none);
}

-- a checker may be run on an image of a device of its size
pub suits : (checker : CheckerValue) (context : Context) (v : ImageValue) → IsLog v.at.log → v.at.log.sectors ≡ context.sectors → IsFit checker context
    → Suits checker.verified (sectors_in v) context
unfolding sectors_of
suits checker context v is size fit =
    let shows = images_are_devices (record { log = v.at.log; cut = v.at.cut; departures = departures (representative (case_of v.tears (parts_of v.at) v.sets)) (parts_at_risk v.at.way v.at.log.entries v.at.cut) }) is in
    suits_image checker.verified context.sectors (sectors_in v) context fit.device (record {
      count = shows.count ∙ size;
      whole = λ n sector there. record { long = shows.long n sector there; bytes = shows.bytes n sector there };
      told = refl;
      epoch = fit.epoch;
      marks = fit.marks;
    })

-- on a device of its size
pub judges_so : (checker : CheckerValue) (context : Context) (v : ImageValue) (outcome : Outcome) (looked : Looked) → v.at.log.sectors ≡ context.sectors
    → RunsSo checker context v outcome looked → JudgesSo (program_of checker context) v.at v.tears v.sets outcome (looked_in context.sectors looked)
judges_so checker context v outcome looked size so =
    let own : (length (sectors_in v) == context.sectors) ≡ true = eq-eqb (length (sectors_in v)) context.sectors (count_sectors v ∙ size) in
    record {
      ending = so.ending ∙ sym (ap (λ b. if b then judgement checker (sectors_in v) context else OutOfSteps) own);
      sectors = ap (λ n. looked_in n looked) (sym size) ∙ so.sectors ∙ sym (ap (λ b. if b then looks checker context (sectors_in v) else []) own);
    }

-- on any other
pub judges_none : (checker : CheckerValue) (context : Context) (v : ImageValue) (outcome : Outcome) (looked : List ℕ) → (v.at.log.sectors ≡ context.sectors → ⊥)
    → ending_of outcome ≡ OutOfSteps → looked ≡ [] → JudgesSo (program_of checker context) v.at v.tears v.sets outcome looked
judges_none checker context v outcome looked apart ends none =
    let own : (length (sectors_in v) == context.sectors) ≡ false = ne_eqb (length (sectors_in v)) context.sectors (λ e. apart (sym (count_sectors v) ∙ e)) in
    record {
      ending = ends ∙ sym (ap (λ b. if b then judgement checker (sectors_in v) context else OutOfSteps) own);
      sectors = none ∙ sym (ap (λ b. if b then looks checker context (sectors_in v) else []) own);
    }

-- at which sectors it looked

pub looked_all : (count : ℕ) (looked : Looked) → looked.all ≡ true → range_with_len 0 count ≡ looked_in count looked
looked_all count looked is = sym (ap (λ b. if b then range_with_len 0 count else looked.sectors.items) is)

pub looked_kept : (count : ℕ) (looked : Looked) → looked.all ≡ false → looked.sectors.items ≡ looked_in count looked
looked_kept count looked is = sym (ap (λ b. if b then range_with_len 0 count else looked.sectors.items) is)

-- there was no room for its footprint
pub run_long : (checker : CheckerValue) (context : Context) (v : ImageValue) (found : Option Outcome) (looked : Looked) → found ≡ None
    → MatchOption found ((kept_footprint 16384 checker (sectors_in v) context).sectors ≡ None) (λ outcome. RunsSo checker context v outcome looked)
    → (kept_footprint 16384 checker (sectors_in v) context).sectors ≡ None
run_long checker context v found looked is told =
    MatchOption-at_none ((kept_footprint 16384 checker (sectors_in v) context).sectors ≡ None) (λ outcome. RunsSo checker context v outcome looked) is told

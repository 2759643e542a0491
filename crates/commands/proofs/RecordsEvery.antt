-- What records tell of every cut that was asked for: its images are those of a cut at which cases were looked for.
use Rattle.std.proofs.Common.{ℕ, zero, suc, ◌≡◌, ◌+◌, ◌-◌, ◌<◌, ◌≤◌, ◌&&◌, min, nat_le, Bool, true, false, if◌then◌else◌, List, ◌∷◌, length, filter, slice_get, Option, None, Some, unwrap_or, refl, sym, ◌∙◌, ap, arith, inl, inr}
use Rattle.std.specs.List.{range_with_len}
use Rattle.std.proofs.lemmas.Bool.Decides.{eqb_tells, nat_tests}
use Rattle.logfmt.specs.Bounds.{LogValue, IsLog}
use Rattle.logfmt.specs.declared.entry.Entry.{Entry}
use Rattle.epochs.specs.declared.part.By.{By}
use Rattle.epochs.specs.declared.cuts.Cuts.{Cuts}
use Rattle.epochs.specs.Cuts.{is_of_kind, is_after_first, is_before_last, is_wanted, cuts_of}
use Rattle.epochs.specs.Units.{marks_at}
use Rattle.machine.specs.Outcome.{Ending, fails}
use Rattle.cases.specs.Choices.{Choice, image_at}
use Rattle.cases.specs.Laws.{IsChoice, LastCutsHaveAll}
use Rattle.case_runs.specs.Cuts.{is_explored, explored_cuts, are_last_enough, first_wanted, last_wanted, case_cuts}
use Rattle.known.specs.declared.found.KnownAt.{KnownAt}
use Rattle.known.specs.Found.{AreKnown}
use Rattle.known.specs.Laws.{CompleteHasAll, IsInFailing, IsInFailingOf, truth_at}
use Rattle.known_runs.specs.Asked.{asked_losses, asked_cuts}
use Rattle.known_runs.specs.Told.{records_of}
use Rattle.commands.specs.Records.{Found, IsAskedCut, IsComplete, TrueOf, cut_in}
use Rattle.commands.proofs.RecordsTotals.{both_true, found_there}

-- what passes a test in a range stands among what passes
kept_there : (p : ℕ → Bool) (a n k : ℕ) → a ≤ k → k < a + n → p k ≡ true → (i : ℕ) × (slice_get (filter p (range_with_len a n)) i ≡ Some k)
kept_there p a zero k low high is = absurd (omega (arith, low, high))
kept_there p a (suc n) k low high is = elim (eqb_tells a k) [
  | inl same ↦ here (p a) refl same.1
  | inr other ↦ let apart = other.1 in let rest = kept_there p (a + 1) n k (omega (arith, low, apart)) (omega (arith, high)) is in later (p a) rest
]
  where
    here : (b : Bool) → p a ≡ b → a ≡ k → (i : ℕ) × (slice_get (if b then a ∷ filter p (range_with_len (a + 1) n) else filter p (range_with_len (a + 1) n)) i ≡ Some k)
    here true kept same = (0, ap Some same)
    here false out same = absurd (let bad : true ≡ false = sym is ∙ sym (ap p same) ∙ out in cc)

    later : (b : Bool) → (i : ℕ) × (slice_get (filter p (range_with_len (a + 1) n)) i ≡ Some k)
        → (i : ℕ) × (slice_get (if b then a ∷ filter p (range_with_len (a + 1) n) else filter p (range_with_len (a + 1) n)) i ≡ Some k)
    later true it = (suc it.0, it.1)
    later false it = it

-- where the range of the wanted cuts begins and ends
begins : (from : Option ℕ) (n cut : ℕ) → is_after_first from cut ≡ true → min (unwrap_or from 0) n ≤ cut
begins None n cut is = omega arith
begins (Some k) n cut is = let low : nat_le k cut ≡ true = is in grind (arith, nat_tests, low)

ends : (to : Option ℕ) (n cut : ℕ) → cut ≤ n → is_before_last to cut ≡ true → cut ≤ min (unwrap_or to n) n
ends None n cut within is = omega (arith, within)
ends (Some k) n cut within is = let high : nat_le cut k ≡ true = is in grind (arith, nat_tests, within, high)

-- the image of a choice of a cut is one of a cut at which cases are looked for, after as many marks
record IsSearched (at_most : Option ℕ) (wanted : Cuts) (log : LogValue) (way : By) (tears : Bool) (cut : ℕ) (choice : Choice) : Type 0 where
  pub place : ℕ
  pub last : ℕ
  pub there : slice_get (case_cuts at_most wanted log.entries) place ≡ Some last
  pub within : last ≤ length log.entries
  pub other : Choice
  pub possible : IsChoice tears other
  pub image : image_at log way last other ≡ image_at log way cut choice
  pub marks : marks_at log.entries last ≡ marks_at log.entries cut

-- what stands in one of two lists that are the same
placed : (cuts others : List ℕ) (i k : ℕ) → cuts ≡ others → slice_get others i ≡ Some k → slice_get cuts i ≡ Some k
placed cuts others i k same there = ap (λ (cs : List ℕ). slice_get cs i) same ∙ there

searched : LastCutsHaveAll → (at_most : Option ℕ) (wanted : Cuts) (log : LogValue) (way : By) (tears : Bool) (cut : ℕ) (choice : Choice) → IsLog log
    → cut ≤ length log.entries → is_wanted wanted log.entries cut ≡ true → IsChoice tears choice → IsSearched at_most wanted log way tears cut choice
unfolding case_cuts
searched all at_most wanted log way tears cut choice is_log within is possible = by_way (are_last_enough at_most wanted) refl
  where
    es : List Entry
    es = log.entries

    n : ℕ
    n = length es

    explored : List ℕ
    explored = explored_cuts es (first_wanted wanted n) (last_wanted wanted n)

    cuts_are : (b : Bool) → are_last_enough at_most wanted ≡ b → case_cuts at_most wanted es ≡ (if b then explored else cuts_of wanted es)
    cuts_are b way_is = ap (λ x. if x then explored else cuts_of wanted es) way_is

    tests : ((is_of_kind wanted.kind es cut && is_after_first wanted.from cut) ≡ true) × (is_before_last wanted.to cut ≡ true)
    tests = both_true (is_of_kind wanted.kind es cut && is_after_first wanted.from cut) (is_before_last wanted.to cut) is

    low : first_wanted wanted n ≤ cut
    low = begins wanted.from n cut (both_true (is_of_kind wanted.kind es cut) (is_after_first wanted.from cut) tests.0).1

    high : cut ≤ last_wanted wanted n
    high = ends wanted.to n cut within tests.1

    by_way : (b : Bool) → are_last_enough at_most wanted ≡ b → IsSearched at_most wanted log way tears cut choice
    by_way true enough =
        let found = all log way tears cut (last_wanted wanted n) choice is_log high (omega arith) possible in
        let to = found.1.within in
        let from = found.1.from in
        let at = kept_there (is_explored es (last_wanted wanted n)) (first_wanted wanted n) (last_wanted wanted n + 1 - first_wanted wanted n) found.0
        (omega (arith, low, from)) (omega (arith, to, low, from)) found.1.is_last in
        record {
          place = at.0;
          last = found.0;
          there = placed (case_cuts at_most wanted es) explored at.0 found.0 (cuts_are true enough) at.1;
          within = omega (arith, to);
          other = found.1.other;
          possible = found.1.possible;
          image = found.1.image;
          marks = found.1.marks;
        }
    by_way false each =
        let at = kept_there (is_wanted wanted es) 0 (n + 1) cut (omega arith) (omega (arith, within)) is in
        record {
          place = at.0;
          last = cut;
          there = placed (case_cuts at_most wanted es) (cuts_of wanted es) at.0 cut (cuts_are false each) at.1;
          within = within;
          other = choice;
          possible = possible;
          image = refl;
          marks = refl;
        }

-- where it is complete, each image of a cut that was asked for on which the program fails is one of a failing case that is told
pub every_is_told : CompleteHasAll → LastCutsHaveAll → (f : Found) (truth : ℕ → List (List ℕ) → Ending) → IsLog f.value → TrueOf f truth
    → AreKnown (asked_losses f.asked) f.value f.asked.settings.by (asked_cuts f.asked f.value) (records_of f.asked f.plain f.runs) f.asked.stops f.found
    → IsComplete f → (k : ℕ) (choice : Choice) → IsAskedCut f k → IsChoice f.asked.settings.tears choice → fails (truth_at truth (cut_in f k) choice) ≡ true
    → IsInFailingOf (asked_losses f.asked) f.value f.asked.settings.by (asked_cuts f.asked f.value) f.found k choice (truth_at truth (cut_in f k) choice)
every_is_told has_all all f truth is_log true_of are complete k choice is possible failing = record {
  place = it.place;
  last = it.last;
  own = it.there;
  at_last = at.0;
  there = at.1;
  other = it.other;
  image = it.image;
  in_leaf = record { number = own.number; own = own.own; there = own.there; includes = own.includes; ends = sym same ∙ own.ends };
}
  where
    it : IsSearched f.asked.losses.at_most f.asked.settings.cuts f.value f.asked.settings.by f.asked.settings.tears k choice
    it = searched all f.asked.losses.at_most f.asked.settings.cuts f.value f.asked.settings.by f.asked.settings.tears k choice is_log is.within is.wanted possible

    at : (x : KnownAt) × (slice_get f.found it.place ≡ Some x)
    at = found_there (asked_cuts f.asked f.value) f.found it.place it.last are.count it.there

    same : truth_at truth (cut_in f it.last) it.other ≡ truth_at truth (cut_in f k) choice
    same = λ i. truth (it.marks i) (it.image i)

    own : IsInFailing (asked_losses f.asked) (cut_in f it.last) at.0 it.other (truth_at truth (cut_in f it.last) it.other)
    own =
        has_all (asked_losses f.asked) (cut_in f it.last) (records_of f.asked f.plain f.runs) f.asked.stops at.0 truth it.other it.within true_of
        (are.each it.place it.last at.0 it.there at.1) (complete it.place at.0 at.1) it.possible (ap fails same ∙ failing)

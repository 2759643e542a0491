-- Looking for the first leaf on which a checker fails.
use Rattle.std.proofs.Common.{ℕ, ◌≡◌, ◌+◌, ◌<◌, ◌≤◌, ◌⊎◌, Bool, true, false, if◌then◌else◌, List, [], ◌∷◌, ◌++◌, length, map, slice_get, Some, IsTrue, refl, sym, subst, ◌∙◌, ap, arith, inl, inr}
use Rattle.std.proofs.Math.ListN.{length-append}
use Rattle.std.proofs.lemmas.List.{length-map}
use Rattle.std.proofs.lemmas.List.Elements.{All-push}
use Rattle.logfmt.specs.Bounds.{LogValue}
use Rattle.epochs.specs.declared.part.By.{By}
use Rattle.machine.specs.Outcome.{Ending, fails}
use Rattle.images.specs.Views.{context_at}
use Rattle.checker.specs.Checker.{CheckerValue}
use Rattle.cases.specs.Cases.{whole_case, representative}
use Rattle.cases.specs.AtCut.{CutValue}
use Rattle.cases.specs.Trees.{Program, ending_of}
use Rattle.cases.specs.Search.{Asked, subject_of, SearchValue, case_in, pending, SameSearch, Went, LeafValue, Ran, FoundCases, BegunCases}
use Rattle.cases.proofs.Runs.{ran_start, ran_more, ran_end, found_all, begun_all}
use Rattle.losses.specs.declared.found.Losses.{Losses}
use Rattle.losses.specs.declared.found.CaseFindings.{CaseFindings}
use Rattle.losses.specs.declared.found.CutFound.{CutFound}
use Rattle.case_runs.specs.declared.found.SearchFault.{SearchFault}
use Rattle.case_runs.specs.declared.found.SearchFault.TheVariants as fault
use Rattle.losses.specs.declared.found.FirstCase.{FirstCase}
use Rattle.losses.specs.declared.found.FailingCase.{FailingCase}
use Rattle.case_runs.specs.Judges.{program_of}
use Rattle.losses.specs.FoundCases.{FailingValue, failing_value, cases_at, cases_in, most_cases}
use Rattle.case_runs.specs.Leaves.{failing_if, failing_from}
use Rattle.case_runs.specs.Laws.{subject_at}
use Rattle.case_runs.specs.Found.{IsFoundAt, AreFirstAt, AreFirstIn, StopsAtOne}
use Rattle.case_runs.specs.First.{NoneFailsAt, NoneFails, FailsFirst, PassesMost, FailsFirstAt, IsFirstFailing, PassesMostIn, EndsIn}
use Rattle.case_runs.specs.Walk.{PassToLast, SeeksTo, EndsAtOne, EndsAt}
use Rattle.case_runs.proofs.Telling.{failing_push}
use Rattle.case_runs.proofs.Stretching.{none_left}

-- a search that a judge was told of went over n leaves, of which none fails
pub record PassedSo (program : Program) (old now : SearchValue) (leaves : List LeafValue) (n : ℕ) : Type 0 where
  pub same : SameSearch old now
  pub ran : Ran (subject_of old.asked program) old now [] leaves
  pub many : length leaves ≡ n
  pub passing : failing_from 0 leaves ≡ []

pub passed_none : (program : Program) (v : SearchValue) (leaves : List LeafValue) → leaves ≡ [] → PassedSo program v v leaves 0
passed_none program v leaves none = record {
  same = record { asked = refl; tears = refl };
  ran = subst (λ (ls : List LeafValue). Ran (subject_of v.asked program) v v [] ls) (sym none) (ran_start (subject_of v.asked program) v []);
  many = ap (λ (ls : List LeafValue). length ls) none;
  passing = ap (failing_from 0) none;
}

abbrev one_more : List LeafValue → List ℕ → Ending → List LeafValue
one_more leaves sets ending = leaves ++ record { sets = sets; ending = ending } ∷ []

-- it went to the next leaf, of which the judge was told
pub record WentTo (program : Program) (now new : SearchValue) (leaves after : List LeafValue) : Type 0 where
  pub same : SameSearch now new
  pub went : Went (subject_of now.asked program) now new true
  pub ending : Ending
  pub ends : ending ≡ ending_of (subject_of now.asked program) (representative (case_in new))
  pub put : after ≡ leaves ++ record { sets = new.sets; ending = ending } ∷ []

pub went_to : (program was : Program) (now new : SearchValue) (leaves mid after : List LeafValue) (ending : Ending) (sets : List ℕ) (found : Bool) → was ≡ program → SameSearch now new
    → Went (subject_of now.asked was) now new found → (IsTrue found → ending ≡ ending_of (subject_of now.asked was) (representative (case_in new))) → found ≡ true → mid ≡ leaves → sets ≡ new.sets
    → after ≡ mid ++ record { sets = sets; ending = ending } ∷ [] → WentTo program now new leaves after
went_to program was now new leaves mid after ending sets found same kept went ends is stays own put = record {
  same = kept;
  went = subst (λ (p : Program). Went (subject_of now.asked p) now new true) same (subst (λ b. Went (subject_of now.asked was) now new b) is went);
  ending = ending;
  ends = ends is ∙ ap (λ (p : Program). ending_of (subject_of now.asked p) (representative (case_in new))) same;
  put = put ∙ (λ i. one_more (stays i) (own i) ending);
}

ran_next : (program : Program) (old now new : SearchValue) (leaves after : List LeafValue) (n : ℕ) → PassedSo program old now leaves n → WentTo program now new leaves after
    → Ran (subject_of old.asked program) old new [] after
ran_next program old now new leaves after n so to = ran_more program old now new [] leaves after to.ending true so.same so.ran to.same to.went refl to.ends to.put

same_next : (old now new : SearchValue) → SameSearch old now → SameSearch now new → SameSearch old new
same_next old now new a b = record { asked = b.asked ∙ a.asked; tears = b.tears ∙ a.tears }

long_next : (program : Program) (old now new : SearchValue) (leaves after : List LeafValue) (n : ℕ) → PassedSo program old now leaves n → WentTo program now new leaves after → length after ≡ n + 1
long_next program old now new leaves after n so to =
    let many = so.many in
    let all = ap (λ (ls : List LeafValue). length ls) to.put ∙ length-append leaves (record { sets = new.sets; ending = to.ending } ∷ []) in
    omega (arith, many, all)

-- one more leaf that passes
pub passed_more : (program : Program) (old now new : SearchValue) (leaves after : List LeafValue) (n : ℕ) → PassedSo program old now leaves n → WentTo program now new leaves after
    → failing_from 0 after ≡ [] → PassedSo program old new after (n + 1)
passed_more program old now new leaves after n so to none = record {
  same = same_next old now new so.same to.same;
  ran = ran_next program old now new leaves after n so to;
  many = long_next program old now new leaves after n so to;
  passing = none;
}

-- the first leaf that fails
pub seeks_failing : (program : Program) (old now new : SearchValue) (leaves after : List LeafValue) (n most : ℕ) → PassedSo program old now leaves n → WentTo program now new leaves after → n < most
    → (failing_from 0 after ≡ [] → ⊥) → SeeksTo program old new after most
seeks_failing program old now new leaves after n most so to few failing =
    let long = long_next program old now new leaves after n so to in
    record {
      same = same_next old now new so.same to.same;
      ran = ran_next program old now new leaves after n so to;
      few = omega (arith, long, few);
      passing = inr (record { before = leaves; last = record { sets = new.sets; ending = to.ending }; are = to.put; passing = so.passing });
      ended = λ less none. absurd (failing none);
    }

-- no leaf more
pub seeks_ended : (program was : Program) (old now new : SearchValue) (leaves after : List LeafValue) (n most : ℕ) (found : Bool) → PassedSo program old now leaves n → n < most → was ≡ program
    → SameSearch now new → Went (subject_of now.asked was) now new found → found ≡ false → after ≡ leaves → SeeksTo program old new after most
seeks_ended program was old now new leaves after n most found so few same kept went is stays =
    let one : Went (subject_of now.asked program) now new false =
    subst (λ (p : Program). Went (subject_of now.asked p) now new false) same (subst (λ b. Went (subject_of now.asked was) now new b) is went) in
    let many = so.many in
    let long = ap (λ (ls : List LeafValue). length ls) stays in
    record {
      same = same_next old now new so.same kept;
      ran = ran_end program old now new [] leaves after false so.same so.ran one refl stays;
      few = omega (arith, many, long, few);
      passing = inl (ap (failing_from 0) stays ∙ so.passing);
      ended = λ less none. one.ended refl;
    }

-- as many as are wanted
pub seeks_most : (program : Program) (old now : SearchValue) (leaves : List LeafValue) (n most : ℕ) → PassedSo program old now leaves n → n ≤ most → most ≤ n → SeeksTo program old now leaves most
seeks_most program old now leaves n most so low high =
    let many = so.many in
    record {
      same = so.same;
      ran = so.ran;
      few = omega (arith, many, low);
      passing = inl so.passing;
      ended = λ less none. absurd (omega (arith, less, many, high));
    }

-- how many fail, by what a judge kept of them

pub none_failing : (n : ℕ) (kept vs : List FailingValue) → n ≡ length kept → kept ≡ vs → n ≤ 0 → vs ≡ []
none_failing n kept vs is own low = sym own ∙ none_left kept n is (omega (arith, low))

pub some_failing : (n : ℕ) (kept vs : List FailingValue) → n ≡ length kept → kept ≡ vs → 0 < n → vs ≡ [] → ⊥
some_failing n kept vs is own low none = let long = ap (λ (ws : List FailingValue). length ws) (own ∙ none) in omega (arith, is, low, long)

-- the number of a leaf that fails
number_of : (n : ℕ) (leaf : LeafValue) (v : FailingValue) → failing_if n leaf ≡ v ∷ [] → n ≡ v.number
number_of n leaf v is = by (fails leaf.ending) is
  where
    by : (b : Bool) → (if b then record { number = n; ending = leaf.ending; sets = leaf.sets } ∷ [] else []) ≡ v ∷ [] → n ≡ v.number
    by true h = ap (λ (vs : List FailingValue). first_number vs) h
      where
        first_number : List FailingValue → ℕ
        first_number [] = 0
        first_number (w ∷ ws) = w.number
    by false h = absurd (let bad : [] ≡ v ∷ [] = h in cc)

few_if : (n : ℕ) (leaf : LeafValue) → length (failing_if n leaf) ≤ 1
few_if n leaf = by (fails leaf.ending)
  where
    by : (b : Bool) → length {A = FailingValue} (if b then record { number = n; ending = leaf.ending; sets = leaf.sets } ∷ [] else []) ≤ 1
    by true = omega arith
    by false = omega arith

-- where one leaf at most fails, the last one of those that were kept is all of them
all_failing : (n : ℕ) (leaf : LeafValue) (front : List FailingCase) (f : FailingCase) → map failing_value (front ++ f ∷ []) ≡ failing_if n leaf → failing_if n leaf ≡ failing_value f ∷ []
all_failing n leaf [] f is = sym is
all_failing n leaf (g ∷ front) f is =
    let long = ap (λ (vs : List FailingValue). length vs) is in
    let same = length-map ((g ∷ front) ++ f ∷ []) failing_value in
    let all = length-append front (f ∷ []) in
    let few = few_if n leaf in
    absurd (omega (arith, long, same, all, few))

not_none : (front : List FailingCase) (f : FailingCase) → map failing_value (front ++ f ∷ []) ≡ [] → ⊥
not_none [] f is = let bad : failing_value f ∷ [] ≡ [] = is in cc
not_none (g ∷ front) f is = let bad : failing_value g ∷ map failing_value (front ++ f ∷ []) ≡ [] = is in cc

-- some leaves with the last one apart

last_apart : (leaf : LeafValue) (leaves : List LeafValue) → (before : List LeafValue) × (last : LeafValue) × (leaf ∷ leaves ≡ before ++ last ∷ [])
last_apart leaf [] = ([], leaf, refl)
last_apart leaf (next ∷ leaves) = let rest = last_apart next leaves in (leaf ∷ rest.0, rest.1, ap (λ (ls : List LeafValue). leaf ∷ ls) rest.2)

first_none : (vs ws : List FailingValue) → vs ++ ws ≡ [] → vs ≡ []
first_none [] ws none = refl
first_none (v ∷ vs) ws none = absurd (let bad : v ∷ (vs ++ ws) ≡ [] = none in cc)

pass_to_last : (leaves : List LeafValue) → 0 < length leaves → (failing_from 0 leaves ≡ []) ⊎ PassToLast leaves → PassToLast leaves
pass_to_last leaves some (inr so) = so
pass_to_last [] some (inl none) = absurd (omega (arith, some))
pass_to_last (leaf ∷ leaves) some (inl none) =
    let it = last_apart leaf leaves in
    record {
      before = it.0;
      last = it.1;
      are = it.2;
      passing = first_none (failing_from 0 it.0) (failing_if (0 + length it.0) it.1) (sym (failing_push 0 it.0 it.1) ∙ ap (failing_from 0) (sym it.2) ∙ none);
    }

-- what was looked for at a cut with a checker, and what was found of it
pub record SoughtSo (asked : Losses) (at : CutValue) (checker : CheckerValue) (program : Program) (old new : SearchValue) (leaves : List LeafValue) (left : ℕ) (found : CaseFindings) : Type 0 where
  pub program_is : program ≡ program_of checker (context_at at.log at.cut)
  pub asked_is : old.asked ≡ record { at = at; torn = asked.torn; lost = asked.lost }
  pub tears_is : old.tears ≡ asked.tears
  pub whole : pending old ≡ whole_case asked.tears ∷ []
  pub none : (old.torn_beyond ≡ 0) × (old.lost_beyond ≡ 0)
  pub seeks : SeeksTo program old new leaves (left + 1)
  pub cases : found.cases ≡ length leaves
  pub torn : found.torn_beyond ≡ new.torn_beyond
  pub lost : found.lost_beyond ≡ new.lost_beyond
  pub failing : map failing_value found.failing.items ≡ failing_from 0 leaves

begun_so : (asked : Losses) (at : CutValue) (checker : CheckerValue) (program : Program) (old new : SearchValue) (leaves : List LeafValue) (left n : ℕ) (found : CaseFindings)
    → SoughtSo asked at checker program old new leaves left found → length leaves ≡ n → BegunCases (subject_at at.log at.way at.cut checker asked.torn asked.lost) asked.tears at [] leaves n
begun_so asked at checker program old new leaves left n found so long =
    let own : Asked = record { at = at; torn = asked.torn; lost = asked.lost } in
    subst (λ (p : Program). BegunCases (subject_of own p) asked.tears at [] leaves n) so.program_is
    (begun_all own program asked.tears old new [] leaves n so.asked_is so.tears_is so.whole so.seeks.ran (omega (arith, long)))

-- the first leaf that fails
pub first_met : (asked : Losses) (at : CutValue) (checker : CheckerValue) (program : Program) (old new : SearchValue) (leaves : List LeafValue) (left : ℕ) (found : CaseFindings)
    (front : List FailingCase) (f : FailingCase) → SoughtSo asked at checker program old new leaves left found → found.failing.items ≡ front ++ f ∷ [] → found.cases ≤ left
    → FailsFirst asked at checker f × (f.number < left)
first_met asked at checker program old new leaves left found front f so put few = by so.seeks.passing
  where
    own : map failing_value (front ++ f ∷ []) ≡ failing_from 0 leaves
    own = ap (map failing_value) (sym put) ∙ so.failing

    by : (failing_from 0 leaves ≡ []) ⊎ PassToLast leaves → FailsFirst asked at checker f × (f.number < left)
    by (inl none) = absurd (not_none front f (own ∙ none))
    by (inr to) =
        let n : ℕ = 0 + length to.before in
        let last : failing_from 0 leaves ≡ failing_if n to.last = ap (failing_from 0) to.are ∙ failing_push 0 to.before to.last ∙ ap (λ (vs : List FailingValue). vs ++ failing_if n to.last) to.passing in
        let one : failing_if n to.last ≡ failing_value f ∷ [] = all_failing n to.last front f (own ∙ last) in
        let number = number_of n to.last (failing_value f) one in
        let all = ap (λ (ls : List LeafValue). length ls) to.are ∙ length-append to.before (to.last ∷ []) in
        let cases = so.cases in (
          record {
            leaves = leaves;
            those = begun_so asked at checker program old new leaves left (f.number + 1) found so (omega (arith, all, number));
            failing = last ∙ one;
          },
          omega (arith, all, number, cases, few),
        )

-- no leaf fails
pub all_met : (asked : Losses) (at : CutValue) (checker : CheckerValue) (program : Program) (old new : SearchValue) (leaves : List LeafValue) (left : ℕ) (found : CaseFindings)
    → SoughtSo asked at checker program old new leaves left found → found.failing.items ≡ [] → found.cases ≤ left → IsFoundAt asked at checker found
all_met asked at checker program old new leaves left found so none few =
    let own : Asked = record { at = at; torn = asked.torn; lost = asked.lost } in
    let cases = so.cases in
    let ended = so.seeks.ended (omega (arith, cases, few)) (sym so.failing ∙ ap (map failing_value) none) in
    let all = found_all own program asked.tears old new [] leaves so.asked_is so.tears_is so.whole so.none so.seeks.ran ended in
    record {
      leaves = leaves;
      those =
          subst (λ (p : Program). FoundCases (subject_of own p) asked.tears at [] leaves found.torn_beyond found.lost_beyond) so.program_is
          (subst (λ m. FoundCases (subject_of own program) asked.tears at [] leaves m found.lost_beyond) (sym so.torn)
          (subst (λ m. FoundCases (subject_of own program) asked.tears at [] leaves new.torn_beyond m) (sym so.lost) all));
      cases = so.cases;
      failing = so.failing;
    }

-- more leaves than may be met
pub most_met : (asked : Losses) (at : CutValue) (checker : CheckerValue) (program : Program) (old new : SearchValue) (leaves : List LeafValue) (left : ℕ) (found : CaseFindings)
    → SoughtSo asked at checker program old new leaves left found → left < found.cases → PassesMost asked at checker left
most_met asked at checker program old new leaves left found so past =
    let cases = so.cases in
    let few = so.seeks.few in
    let long : length leaves ≡ left + 1 = omega (arith, cases, few, past) in
    let to = pass_to_last leaves (omega (arith, long)) so.seeks.passing in
    record {
      leaves = to.before;
      last = to.last;
      those =
          subst (λ (ls : List LeafValue). BegunCases (subject_at at.log at.way at.cut checker asked.torn asked.lost) asked.tears at [] ls (left + 1)) to.are
          (begun_so asked at checker program old new leaves left (left + 1) found so long);
      passing = to.passing;
    }

-- where the first leaves pass, and there is one more, there are too many
pub ends_stops : (asked : Losses) (at : CutValue) (checker : CheckerValue) (left : ℕ) (why : SearchFault) → EndsAtOne asked at checker left why → StopsAtOne asked at checker left why
ends_stops asked at checker left fault.Memory ends = tt
ends_stops asked at checker left (fault.TooMany cut) ends =
    (ends.0, record { more = left + 1; begun = record { leaves = ends.1.leaves ++ ends.1.last ∷ []; those = ends.1.those }; past = omega arith })

-- with each checker, and at each cut

pub none_more : (found now : List CaseFindings) (f : CaseFindings) → NoneFailsAt found → f.failing.items ≡ [] → now ≡ found ++ f ∷ [] → NoneFailsAt now
none_more found now f none own put = subst NoneFailsAt (sym put) (All-push (λ (g : CaseFindings). g.failing.items ≡ []) found f none own)

pub none_at_all : (found now : List CutFound) (c : CutFound) → NoneFails found → NoneFailsAt c.programs.items → now ≡ found ++ c ∷ [] → NoneFails now
none_at_all found now c none own put = subst NoneFails (sym put) (All-push (λ (d : CutFound). NoneFailsAt d.programs.items) found c none own)

pub ends_here : (asked : Losses) (at : CutValue) (checkers : List CheckerValue) (n first left : ℕ) (found : List CaseFindings) (c : CheckerValue) (why : SearchFault) → AreFirstAt asked at checkers n found
    → NoneFailsAt found → slice_get checkers n ≡ Some c → first ≡ left + cases_at found → EndsAtOne asked at c left why → EndsAt asked at checkers first why
ends_here asked at checkers n first left found c fault.Memory so none there counted stop = tt
ends_here asked at checkers n first left found c (fault.TooMany cut) so none there counted stop =
    (stop.0, record { number = n; before = found; are = so; none = none; checker = c; own = there; rest = left; counted = counted; past = stop.1 })

pub ends_there : (asked : Losses) (log : LogValue) (way : By) (cuts : List ℕ) (checkers : List CheckerValue) (n k left : ℕ) (found : List CutFound) (why : SearchFault)
    → AreFirstIn asked log way cuts checkers n found → NoneFails found → slice_get cuts n ≡ Some k → most_cases ≡ left + cases_in found
    → EndsAt asked (record { log = log; way = way; cut = k }) checkers left why → EndsIn asked log way cuts checkers why
ends_there asked log way cuts checkers n k left found fault.Memory so none there counted stop = tt
ends_there asked log way cuts checkers n k left found (fault.TooMany cut) so none there counted stop =
    subst (λ m. PassesMostIn asked log way cuts checkers m) (sym stop.0)
    (record { place = n; own = there; before = found; are = so; none = none; rest = left; counted = counted; past = stop.1 })

-- the first failing case of some cuts
pub first_there : (asked : Losses) (log : LogValue) (way : By) (cuts : List ℕ) (checkers : List CheckerValue) (n k left : ℕ) (found : List CutFound) (first : FirstCase)
    → AreFirstIn asked log way cuts checkers n found → NoneFails found → slice_get cuts n ≡ Some k → most_cases ≡ left + cases_in found → first.cut ≡ k
    → FailsFirstAt asked (record { log = log; way = way; cut = k }) checkers left first → IsFirstFailing asked log way cuts checkers first
first_there asked log way cuts checkers n k left found first so none there counted at_cut fails = record {
  place = n;
  own = there ∙ ap (λ m. Some m) (sym at_cut);
  before = found;
  are = so;
  none = none;
  rest = left;
  counted = counted;
  fails = subst (λ m. FailsFirstAt asked (record { log = log; way = way; cut = m }) checkers left first) (sym at_cut) fails;
}

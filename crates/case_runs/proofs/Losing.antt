-- What is found of every image that is asked for.
use Rattle.std.proofs.Common.{ℕ, zero, suc, ◌≡◌, ◌+◌, ◌-◌, ◌<◌, ◌≤◌, ◌==◌, ◌||◌, ◌&&◌, min, nat_le, Bool, true, false, if◌then◌else◌, List, [], ◌∷◌, ◌++◌, length, map, filter, count_by, slice_get, Option, None, Some, IfSome, is_none, unwrap_or, All, refl, sym, ◌∙◌, ap, subst, arith, inl, inr}
use Rattle.std.specs.List.{range_with_len}
use Rattle.std.proofs.lemmas.Bool.{eq-eqb}
use Rattle.std.proofs.lemmas.Bool.Decides.{eqb_tells, nat_tests}
use Rattle.std.proofs.lemmas.List.Elements.{All-head, All-tail}
use Rattle.std.proofs.lemmas.Option.{same_Some}
use Rattle.logfmt.specs.Bounds.{LogValue, IsLog}
use Rattle.logfmt.specs.declared.entry.Entry.{Entry}
use Rattle.epochs.specs.declared.part.Part.{Part}
use Rattle.epochs.specs.declared.part.By.{By}
use Rattle.epochs.specs.declared.cuts.Cuts.{Cuts}
use Rattle.epochs.specs.declared.cuts.CutKind.{CutKind}
use Rattle.epochs.specs.declared.cuts.CutKind.TheVariants as kind
use Rattle.epochs.specs.Cuts.{is_of_kind, is_after_first, is_before_last, is_wanted, cuts_of}
use Rattle.helpers.specs.declared.device.Context.{Context}
use Rattle.images.specs.Views.{context_at}
use Rattle.interp.specs.Ending.{ending_of}
use Rattle.machine.specs.Outcome.{Ending, OutOfSteps, fails}
use Rattle.checker.specs.Checker.{CheckerValue, judgement}
use Rattle.cases.specs.Risk.{parts_at_risk}
use Rattle.cases.specs.Choices.{Choice, image_at}
use Rattle.cases.specs.Cases.{Case, representative}
use Rattle.cases.specs.Trees as trees
use Rattle.cases.specs.Trees.{Subject, is_lost, is_torn}
use Rattle.cases.specs.Laws.{Includes, IsChoice, IsAsked, EachIsInOne, LeavesEndAlike, LastCutsHaveAll, IsOfCut}
use Rattle.cases.specs.AtCut.{CutValue, parts_of, case_of}
use Rattle.cases.specs.Search.{LeafValue, leaf_case, EndsSo}
use Rattle.losses.specs.declared.found.Losses.{Losses}
use Rattle.losses.specs.declared.found.CaseFindings.{CaseFindings}
use Rattle.losses.specs.declared.found.CutFound.{CutFound}
use Rattle.losses.specs.declared.found.FailingCase.{FailingCase}
use Rattle.losses.specs.FoundCases.{FailingValue, failing_value}
use Rattle.case_runs.specs.Leaves.{failing_from}
use Rattle.case_runs.specs.Laws.{CheckersTell, subject_at, judged_at}
use Rattle.case_runs.specs.Found.{IsFoundAt}
use Rattle.case_runs.specs.Cuts.{is_all, is_explored, explored_cuts, are_last_enough, first_wanted, last_wanted, case_cuts}
use Rattle.case_runs.specs.AnyLoss.{IsAskedFor, LossesAreFound, FoundCutsAreWanted}
use Rattle.case_runs.proofs.Judged.{in_leaves, length_image}

-- what passes a test in a range stands among what passes
kept_there : (p : ℕ → Bool) (a n k : ℕ) → a ≤ k → k < a + n → p k ≡ true → (i : ℕ) × (slice_get (filter p (range_with_len a n)) i ≡ Some k)
kept_there p a zero k low high is = absurd (omega (arith, low, high))
kept_there p a (suc n) k low high is = elim (eqb_tells a k) [
  | inl same ↦ here (p a) refl same.1
  | inr other ↦ let apart = other.1 in let rest = kept_there p (a + 1) n k (omega (arith, low, apart)) (omega (arith, high)) is in later (p a) rest
]
  where
    here : (b : Bool) → p a ≡ b → a ≡ k → (i : ℕ) × (slice_get (if b then a ∷ filter p (range_with_len (a + 1) n) else filter p (range_with_len (a + 1) n)) i ≡ Some k)
    here true kept same = (0, ap Some same)
    here false out same = absurd (let bad : true ≡ false = sym is ∙ sym (ap p same) ∙ out in cc)

    later : (b : Bool) → (i : ℕ) × (slice_get (filter p (range_with_len (a + 1) n)) i ≡ Some k)
        → (i : ℕ) × (slice_get (if b then a ∷ filter p (range_with_len (a + 1) n) else filter p (range_with_len (a + 1) n)) i ≡ Some k)
    later true it = (suc it.0, it.1)
    later false it = it

-- a list as long as another has an element at the same place
pub there_too : {A B : Type 0} (xs : List A) (ys : List B) (i : ℕ) (x : A) → length ys ≡ length xs → slice_get xs i ≡ Some x → (y : B) × (slice_get ys i ≡ Some y)
there_too [] ys i x long at = absurd (let bad : None ≡ Some x = at in cc)
there_too (a ∷ xs) [] i x long at = absurd (omega (arith, long))
there_too (a ∷ xs) (b ∷ ys) zero x long at = (b, refl)
there_too (a ∷ xs) (b ∷ ys) (suc i) x long at = there_too xs ys i x (omega (arith, long)) at

-- an element of a mapped list
mapped_there : {A B : Type 0} (f : A → B) (xs : List A) (i : ℕ) (y : B) → slice_get (map f xs) i ≡ Some y → (x : A) × (slice_get xs i ≡ Some x) × (f x ≡ y)
mapped_there f [] i y at = absurd (let bad : None ≡ Some y = at in cc)
mapped_there f (x ∷ xs) zero y at = (x, refl, same_Some (f x) y at)
mapped_there f (x ∷ xs) (suc i) y at = mapped_there f xs i y at

holds_there : {A : Type 0} (P : A → Type 0) (xs : List A) (i : ℕ) (x : A) → All P xs → slice_get xs i ≡ Some x → P x
holds_there P [] i x all at = absurd (let bad : None ≡ Some x = at in cc)
holds_there P (y ∷ xs) zero x all at = subst P (same_Some y x at) (All-head P y xs all)
holds_there P (y ∷ xs) (suc i) x all at = holds_there P xs i x (All-tail P y xs all) at

-- a leaf that fails stands among those that do
failing_there : (n : ℕ) (leaves : List LeafValue) (place : ℕ) (leaf : LeafValue) → slice_get leaves place ≡ Some leaf → fails leaf.ending ≡ true
    → (i : ℕ) × (f : FailingValue) × (slice_get (failing_from n leaves) i ≡ Some f) × (f.ending ≡ leaf.ending) × (f.sets ≡ leaf.sets)
failing_there n [] place leaf at is = absurd (let bad : None ≡ Some leaf = at in cc)
failing_there n (x ∷ leaves) zero leaf at is = here (fails x.ending) refl (same_Some x leaf at)
  where
    rest : List FailingValue
    rest = failing_from (n + 1) leaves

    here : (b : Bool) → fails x.ending ≡ b → x ≡ leaf → (i : ℕ) × (f : FailingValue) × (slice_get ((if b then record { number = n; ending = x.ending; sets = x.sets } ∷ [] else []) ++ rest) i ≡ Some f)
        × (f.ending ≡ leaf.ending) × (f.sets ≡ leaf.sets)
    here true kept same = (0, record { number = n; ending = x.ending; sets = x.sets }, refl, ap (λ (y : LeafValue). y.ending) same, ap (λ (y : LeafValue). y.sets) same)
    here false out same = absurd (let bad : true ≡ false = sym is ∙ sym (ap (λ (y : LeafValue). fails y.ending) same) ∙ out in cc)
failing_there n (x ∷ leaves) (suc place) leaf at is = later (fails x.ending) (failing_there (n + 1) leaves place leaf at is)
  where
    rest : List FailingValue
    rest = failing_from (n + 1) leaves

    later : (b : Bool) → (i : ℕ) × (f : FailingValue) × (slice_get rest i ≡ Some f) × (f.ending ≡ leaf.ending) × (f.sets ≡ leaf.sets)
        → (i : ℕ) × (f : FailingValue) × (slice_get ((if b then record { number = n; ending = x.ending; sets = x.sets } ∷ [] else []) ++ rest) i ≡ Some f)
        × (f.ending ≡ leaf.ending) × (f.sets ≡ leaf.sets)
    later true it = (suc it.0, it.1, it.2, it.3, it.4)
    later false it = it

-- a choice of a cut that fails there is one of a failing case that was found
record IsFoundAs (at : CutValue) (tears : Bool) (own : CaseFindings) (choice : Choice) (ending : Ending) : Type 0 where
  pub case : ℕ
  pub failing : FailingCase
  pub there : slice_get own.failing.items case ≡ Some failing
  pub includes : Includes choice (case_of tears (parts_of at) failing.sets.items)
  pub ends : ending ≡ ending_of failing.outcome

found_as : CheckersTell → EachIsInOne → LeavesEndAlike → (asked : Losses) (at : CutValue) (checker : CheckerValue) (own : CaseFindings) (choice : Choice) → IsLog at.log
    → at.cut ≤ length at.log.entries → IsFoundAt asked at checker own → IsChoice asked.tears choice → IsAsked (subject_at at.log at.way at.cut checker asked.torn asked.lost) choice
    → fails (trees.ending_of (subject_at at.log at.way at.cut checker asked.torn asked.lost) choice) ≡ true
    → IsFoundAs at asked.tears own choice (trees.ending_of (subject_at at.log at.way at.cut checker asked.torn asked.lost) choice)
found_as tell one alike asked at checker own choice is_log within is possible few fail = record {
  case = it.0;
  failing = f.0;
  there = f.1;
  includes = subst (λ (xs : List ℕ). Includes choice (case_of asked.tears (parts_of at) xs)) sets (subst (λ (c : Case). Includes choice c) (sym leaf.2) inside.3);
  ends = same ∙ sym it.3 ∙ sym (ap (λ (v : FailingValue). v.ending) f.2);
}
  where
    s : Subject
    s = subject_at at.log at.way at.cut checker asked.torn asked.lost

    F : LeafValue → Case
    F = leaf_case asked.tears at

    leaves : List LeafValue
    leaves = is.those.told

    inside : (i : ℕ) × (c : Case) × (slice_get (map F leaves) i ≡ Some c) × Includes choice c
    inside =
        in_leaves (Includes choice) (map F leaves) is.those.left (one.one s asked.tears (map F leaves) is.those.left choice is.those.are possible)
        (one.asked s asked.tears (map F leaves) is.those.left choice is.those.are few)

    leaf : (x : LeafValue) × (slice_get leaves inside.0 ≡ Some x) × (F x ≡ inside.1)
    leaf = mapped_there F leaves inside.0 inside.1 inside.2

    said : leaf.0.ending ≡ trees.ending_of s (representative (F leaf.0))
    said = holds_there (EndsSo s asked.tears at) leaves inside.0 leaf.0 is.those.endings leaf.1

    same : trees.ending_of s choice ≡ leaf.0.ending
    same =
        alike s asked.tears (map F leaves) is.those.left inside.0 inside.1 choice is_log within (tell checker (context_at at.log at.cut)) is.those.are inside.2 inside.3
        ∙ ap (λ (c : Case). trees.ending_of s (representative c)) (sym leaf.2)
        ∙ sym said

    it : (i : ℕ) × (v : FailingValue) × (slice_get (failing_from 0 leaves) i ≡ Some v) × (v.ending ≡ leaf.0.ending) × (v.sets ≡ leaf.0.sets)
    it = failing_there 0 leaves inside.0 leaf.0 leaf.1 (ap fails (sym same) ∙ fail)

    listed : slice_get (map failing_value own.failing.items) it.0 ≡ Some it.1
    listed = ap (λ (fs : List FailingValue). slice_get fs it.0) (is.failing ∙ ap (failing_from 0) is.those.added) ∙ it.2

    f : (x : FailingCase) × (slice_get own.failing.items it.0 ≡ Some x) × (failing_value x ≡ it.1)
    f = mapped_there failing_value own.failing.items it.0 it.1 listed

    sets : leaf.0.sets ≡ f.0.sets.items
    sets = sym it.4 ∙ sym (ap (λ (v : FailingValue). v.sets) f.2)

-- the image of a choice that is asked for is one of a cut at which cases are looked for, by a choice that is asked for there
record IsLookedAt (asked : Losses) (wanted : Cuts) (log : LogValue) (way : By) (cut : ℕ) (choice : Choice) : Type 0 where
  pub place : ℕ
  pub last : ℕ
  pub there : slice_get (case_cuts asked.lost wanted log.entries) place ≡ Some last
  pub within : last ≤ length log.entries
  pub other : Choice
  pub possible : IsChoice asked.tears other
  pub image : image_at log way last other ≡ image_at log way cut choice
  pub context : context_at log last ≡ context_at log cut
  pub torn : count_by (λ (p : Part). is_torn (other p)) (parts_at_risk way log.entries last) ≤ asked.torn
  pub lost : IfSome asked.lost (λ n. count_by (λ (p : Part). is_lost (other p)) (parts_at_risk way log.entries last) ≤ n)

both_true : (a b : Bool) → (a && b) ≡ true → (a ≡ true) × (b ≡ true)
both_true true b is = (refl, is)
both_true false b is = let bad : false ≡ true = is in cc

none_is : {A : Type 0} (o : Option A) → is_none o ≡ true → o ≡ None
none_is None is = refl
none_is (Some x) is = let bad : false ≡ true = is in cc

-- where the range of the wanted cuts begins and ends
begins : (from : Option ℕ) (n cut : ℕ) → is_after_first from cut ≡ true → min (unwrap_or from 0) n ≤ cut
begins None n cut is = omega arith
begins (Some k) n cut is = let low : nat_le k cut ≡ true = is in grind (arith, nat_tests, low)

ends : (to : Option ℕ) (n cut : ℕ) → cut ≤ n → is_before_last to cut ≡ true → cut ≤ min (unwrap_or to n) n
ends None n cut within is = omega (arith, within)
ends (Some k) n cut within is = let high : nat_le cut k ≡ true = is in grind (arith, nat_tests, within, high)

looked_at_last : LastCutsHaveAll → (asked : Losses) (wanted : Cuts) (log : LogValue) (way : By) (cut : ℕ) (choice : Choice) → IsLog log
    → are_last_enough asked.lost wanted ≡ true → IsAskedFor asked wanted log way cut choice → IsLookedAt asked wanted log way cut choice
unfolding case_cuts
looked_at_last last asked wanted log way cut choice is_log enough is = record {
  place = at.0;
  last = found.0;
  there = ap (λ (cs : List ℕ). slice_get cs at.0) explored ∙ at.1;
  within = (let inside = found.1.within in omega (arith, inside));
  other = found.1.other;
  possible = found.1.possible;
  image = found.1.image;
  context = (λ j. record { sectors = log.sectors; epoch = found.1.epoch j; marks = found.1.marks j });
  torn = (let same = found.1.torn in let few = is.torn in omega (arith, same, few));
  lost = subst (λ (o : Option ℕ). IfSome o (λ n. count_by (λ (p : Part). is_lost (found.1.other p)) (parts_at_risk way log.entries found.0) ≤ n)) (sym any) tt;
}
  where
    es : List Entry
    es = log.entries

    n : ℕ
    n = length es

    any : asked.lost ≡ None
    any = none_is asked.lost (both_true (is_all wanted.kind) (is_none asked.lost) enough).1

    tests : ((is_of_kind wanted.kind es cut && is_after_first wanted.from cut) ≡ true) × (is_before_last wanted.to cut ≡ true)
    tests = both_true (is_of_kind wanted.kind es cut && is_after_first wanted.from cut) (is_before_last wanted.to cut) is.at

    low : first_wanted wanted n ≤ cut
    low = begins wanted.from n cut (both_true (is_of_kind wanted.kind es cut) (is_after_first wanted.from cut) tests.0).1

    high : cut ≤ last_wanted wanted n
    high = ends wanted.to n cut is.within tests.1

    found : (k : ℕ) × IsOfCut log way asked.tears cut (last_wanted wanted n) k choice
    found = last log way asked.tears cut (last_wanted wanted n) choice is_log high (omega arith) is.possible

    at : (i : ℕ) × (slice_get (explored_cuts es (first_wanted wanted n) (last_wanted wanted n)) i ≡ Some found.0)
    at =
        kept_there (is_explored es (last_wanted wanted n)) (first_wanted wanted n) (last_wanted wanted n + 1 - first_wanted wanted n) found.0
        (let from = found.1.from in omega (arith, low, from)) (let to = found.1.within in let from = found.1.from in omega (arith, to, low, from)) found.1.is_last

    explored : case_cuts asked.lost wanted es ≡ explored_cuts es (first_wanted wanted n) (last_wanted wanted n)
    explored = ap (λ b. if b then explored_cuts es (first_wanted wanted n) (last_wanted wanted n) else cuts_of wanted es) enough

looked_at_itself : (asked : Losses) (wanted : Cuts) (log : LogValue) (way : By) (cut : ℕ) (choice : Choice) → are_last_enough asked.lost wanted ≡ false
    → IsAskedFor asked wanted log way cut choice → IsLookedAt asked wanted log way cut choice
unfolding case_cuts
looked_at_itself asked wanted log way cut choice each is = record {
  place = at.0;
  last = cut;
  there = ap (λ b. slice_get (if b then explored_cuts es (first_wanted wanted n) (last_wanted wanted n) else cuts_of wanted es) at.0) each ∙ at.1;
  within = is.within;
  other = choice;
  possible = is.possible;
  image = refl;
  context = refl;
  torn = is.torn;
  lost = is.lost;
}
  where
    es : List Entry
    es = log.entries

    n : ℕ
    n = length es

    at : (i : ℕ) × (slice_get (cuts_of wanted es) i ≡ Some cut)
    at = kept_there (is_wanted wanted es) 0 (n + 1) cut (omega arith) (let within = is.within in omega (arith, within)) is.at

looked_at : LastCutsHaveAll → (asked : Losses) (wanted : Cuts) (log : LogValue) (way : By) (cut : ℕ) (choice : Choice) → IsLog log
    → IsAskedFor asked wanted log way cut choice → IsLookedAt asked wanted log way cut choice
looked_at last asked wanted log way cut choice is_log is = by_way (are_last_enough asked.lost wanted) refl
  where
    by_way : (b : Bool) → are_last_enough asked.lost wanted ≡ b → IsLookedAt asked wanted log way cut choice
    by_way true enough = looked_at_last last asked wanted log way cut choice is_log enough is
    by_way false each = looked_at_itself asked wanted log way cut choice each is

-- on an image of a cut the checker ends as on the same image of another cut with the same context
same_ending : (log : LogValue) (way : By) (cut last : ℕ) (checker : CheckerValue) (choice other : Choice) (torn : ℕ) (lost : Option ℕ)
    → image_at log way last other ≡ image_at log way cut choice → context_at log last ≡ context_at log cut
    → trees.ending_of (subject_at log way last checker torn lost) other ≡ judged_at log way cut checker choice
same_ending log way cut last checker choice other torn lost image context =
    let own : (length (image_at log way last other) == log.sectors) ≡ true = eq-eqb (length (image_at log way last other)) log.sectors (length_image log way last other) in
    ap (λ b. if b then judgement checker (image_at log way last other) (context_at log last) else OutOfSteps) own
    ∙ ap (λ d. judgement checker d (context_at log last)) image
    ∙ ap (λ (c : Context). judgement checker (image_at log way cut choice) c) context

pub losses_found : CheckersTell → EachIsInOne → LeavesEndAlike → LastCutsHaveAll → LossesAreFound
losses_found tell one alike last asked wanted log way checkers found is_log are cut choice number checker is runs fail = record {
  place = looked.place;
  at = at.0;
  told = at.1;
  own = own.0;
  of_checker = own.1;
  case = said.case;
  failing = said.failing;
  there = said.there;
  other = looked.other;
  image = subst (λ k. image_at log way k looked.other ≡ image_at log way cut choice) (sym own_cut) looked.image;
  includes = subst (λ k. Includes looked.other (case_of asked.tears (parts_of (record { log = log; way = way; cut = k })) said.failing.sets.items)) (sym own_cut) said.includes;
  ends = sym same ∙ said.ends;
}
  where
    looked : IsLookedAt asked wanted log way cut choice
    looked = looked_at last asked wanted log way cut choice is_log is

    cuts : List ℕ
    cuts = case_cuts asked.lost wanted log.entries

    at : (f : CutFound) × (slice_get found looked.place ≡ Some f)
    at = there_too cuts found looked.place looked.last are.count looked.there

    own_cut : at.0.cut ≡ looked.last
    own_cut = are.cut looked.place looked.last at.0 looked.there at.1

    own : (f : CaseFindings) × (slice_get at.0.programs.items number ≡ Some f)
    own = there_too checkers at.0.programs.items number checker (are.each looked.place looked.last at.0 looked.there at.1).count runs

    here : CutValue
    here = record { log = log; way = way; cut = looked.last }

    same : trees.ending_of (subject_at log way looked.last checker asked.torn asked.lost) looked.other ≡ judged_at log way cut checker choice
    same = same_ending log way cut looked.last checker choice looked.other asked.torn asked.lost looked.image looked.context

    said : IsFoundAs here asked.tears own.0 looked.other (trees.ending_of (subject_at log way looked.last checker asked.torn asked.lost) looked.other)
    said =
        found_as tell one alike asked here checker own.0 looked.other is_log looked.within
        ((are.each looked.place looked.last at.0 looked.there at.1).each number checker own.0 runs own.1) looked.possible (record { torn = looked.torn; lost = looked.lost }) (ap fails same ∙ fail)

-- what stands among what passes a test in a range passes it, and is in the range
kept_from : (p : ℕ → Bool) (a n i k : ℕ) → slice_get (filter p (range_with_len a n)) i ≡ Some k → (p k ≡ true) × (a ≤ k) × (k < a + n)
kept_from p a zero i k at = absurd (let bad : None ≡ Some k = at in cc)
kept_from p a (suc n) i k at = by_first (λ j own. kept_from p (a + 1) n j k own) (p a) refl i at
  where
    rest : List ℕ
    rest = filter p (range_with_len (a + 1) n)

    Kept : ℕ → ℕ → Type 0
    Kept b m = (p k ≡ true) × (b ≤ k) × (k < b + m)

    later : Kept (a + 1) n → Kept a (suc n)
    later it = let low = it.1 in let high = it.2 in (it.0, omega (arith, low), omega (arith, high))

    by_first : ((j : ℕ) → slice_get rest j ≡ Some k → Kept (a + 1) n) → (b : Bool) → p a ≡ b → (j : ℕ) → slice_get (if b then a ∷ rest else rest) j ≡ Some k → Kept a (suc n)
    by_first next true is zero own = let same = same_Some a k own in (ap p (sym same) ∙ is, omega (arith, same), omega (arith, same))
    by_first next true is (suc j) own = later (next j own)
    by_first next false is j own = later (next j own)

of_all : (given : CutKind) (es : List Entry) (k : ℕ) → is_all given ≡ true → is_of_kind given es k ≡ true
of_all kind.All es k is = refl
of_all kind.BeforeFlush es k is = let bad : false ≡ true = is in cc
of_all kind.AfterMark es k is = let bad : false ≡ true = is in cc

-- a cut of the range that is looked at isn't before the first that is wanted, and not after the last
not_before : (from : Option ℕ) (n k : ℕ) → IfSome from (λ f. f ≤ n) → min (unwrap_or from 0) n ≤ k → is_after_first from k ≡ true
not_before None n k has low = refl
not_before (Some f) n k has low = let there : f ≤ n = has in let after : min f n ≤ k = low in grind (arith, nat_tests, there, after)

not_after : (to : Option ℕ) (n k : ℕ) → k ≤ min (unwrap_or to n) n → is_before_last to k ≡ true
not_after None n k high = refl
not_after (Some t) n k high = let before : k ≤ min t n = high in grind (arith, nat_tests, before)

cut_is_wanted : (lost : Option ℕ) (wanted : Cuts) (es : List Entry) (i k : ℕ) → IfSome wanted.from (λ f. f ≤ length es) → slice_get (case_cuts lost wanted es) i ≡ Some k
    → (k ≤ length es) × (is_wanted wanted es k ≡ true)
unfolding case_cuts
cut_is_wanted lost wanted es i k has at = by_way (are_last_enough lost wanted) refl at
  where
    n : ℕ
    n = length es

    first : ℕ
    first = first_wanted wanted n

    to : ℕ
    to = last_wanted wanted n

    by_way : (b : Bool) → are_last_enough lost wanted ≡ b → slice_get (if b then explored_cuts es first to else cuts_of wanted es) i ≡ Some k
        → (k ≤ length es) × (is_wanted wanted es k ≡ true)
    by_way true enough own =
        let it = kept_from (is_explored es to) first (to + 1 - first) i k own in
        let low = it.1 in
        let up = it.2 in
        let high : k ≤ to = omega (arith, low, up) in
        let kept : is_of_kind wanted.kind es k ≡ true = of_all wanted.kind es k (both_true (is_all wanted.kind) (is_none lost) enough).0 in (
          omega (arith, high),
          ap (λ b. b && is_after_first wanted.from k && is_before_last wanted.to k) kept
              ∙ ap (λ b. b && is_before_last wanted.to k) (not_before wanted.from n k has low)
              ∙ not_after wanted.to n k high,
        )
    by_way false each own =
        let it = kept_from (is_wanted wanted es) 0 (n + 1) i k own in
        let up = it.2 in (omega (arith, up), it.0)

pub found_cuts_wanted : FoundCutsAreWanted
found_cuts_wanted asked wanted log way checkers found has are place at told =
    let cuts = case_cuts asked.lost wanted log.entries in
    let k = there_too found cuts place at (sym are.count) told in
    let same = are.cut place k.0 at k.1 told in
    let it = cut_is_wanted asked.lost wanted log.entries place k.0 has k.1 in
    subst (λ n. (n ≤ length log.entries) × (is_wanted wanted log.entries n ≡ true)) (sym same) it

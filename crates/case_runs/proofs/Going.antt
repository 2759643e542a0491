-- What a run from a start finds.
use Rattle.std.proofs.Common.{ℕ, ◌≡◌, ◌+◌, ◌<◌, Bool, true, false, not, List, [], ◌∷◌, ◌++◌, length, map, count_by, IsTrue, IsFalse, refl, sym, subst, ◌∙◌, ap, arith}
use Rattle.std.specs.List.{All}
use Rattle.std.specs.Global.{Vec}
use Rattle.std.proofs.lemmas.List.{append-nil}
use Rattle.images.specs.Views.{context_at}
use Rattle.checker.specs.Checker.{CheckerValue}
use Rattle.cases.specs.Cases.{Case}
use Rattle.cases.specs.AtCut.{CutValue, parts_of, case_of}
use Rattle.cases.specs.Trees.{Program, Subject}
use Rattle.cases.specs.Search.{Asked, subject_of, SearchValue, pending, SameSearch, LeadTo, are_there, LeafValue, leaf_case, EndsSo, is_torn_beyond, plus, Ran as Went}
use Rattle.losses.specs.declared.found.Losses.{Losses}
use Rattle.case_runs.specs.declared.pieces.Ran.{Ran}
use Rattle.case_runs.specs.Judges.{program_of}
use Rattle.losses.specs.FoundCases.{failing_value}
use Rattle.case_runs.specs.Leaves.{failing_from}
use Rattle.case_runs.specs.Pieces.{subject_in, IsSearchOf, RanFrom}

none_mapped : {A B : Type 0} (f : A → B) (xs : List A) → map f xs ≡ [] → xs ≡ []
none_mapped f [] is = refl
none_mapped f (x ∷ xs) is = absurd (let bad : f x ∷ map f xs ≡ [] = is in cc)

-- the same search further on
pub search_on : (asked : Losses) (at : CutValue) (old new : SearchValue) → IsSearchOf asked at old → SameSearch old new → IsSearchOf asked at new
search_on asked at old new so same = record { asked_is = same.asked ∙ so.asked_is; tears_is = same.tears ∙ so.tears_is }

-- the cases that are left, by what is asked
left_is : (asked : Losses) (at : CutValue) (v : SearchValue) (left : List (Vec ℕ)) → IsSearchOf asked at v
    → map (λ (sets : Vec ℕ). case_of v.tears (parts_of v.asked.at) sets.items) left ≡ pending v
    → pending v ≡ map (λ (sets : Vec ℕ). case_of asked.tears (parts_of at) sets.items) left
left_is asked at v left so all = sym all ∙ (λ i. map (λ (sets : Vec ℕ). case_of (so.tears_is i) (parts_of (so.asked_is i).at) sets.items) left)

-- what a run came to
pub record Came (asked : Losses) (at : CutValue) (checker : CheckerValue) (most : ℕ) (old new : SearchValue) (before after : List LeafValue) (program : Program) (ended : Bool) (ran : Ran) : Type 0 where
  pub program_is : program ≡ program_of checker (context_at at.log at.cut)
  pub before_is : before ≡ []
  pub begins : IsSearchOf asked at old
  pub none : (old.torn_beyond ≡ 0) × (old.lost_beyond ≡ 0)
  pub same : SameSearch old new
  pub went : Went (subject_of old.asked program) old new before after
  pub done : IsTrue ended → pending new ≡ []
  pub many : IsFalse ended → length after ≡ length before + most
  pub cases : ran.found.cases ≡ length after
  pub torn : ran.found.torn_beyond ≡ new.torn_beyond
  pub lost : ran.found.lost_beyond ≡ new.lost_beyond
  pub failing : map failing_value ran.found.failing.items ≡ failing_from 0 after
  pub all : map (λ (sets : Vec ℕ). case_of new.tears (parts_of new.asked.at) sets.items) ran.left.items ≡ pending new
  pub each : All (λ (sets : Vec ℕ). length sets.items ≡ length (parts_of new.asked.at)) ran.left.items

pub ran_from : (asked : Losses) (at : CutValue) (checker : CheckerValue) (most : ℕ) (old new : SearchValue) (before after : List LeafValue) (program : Program) (ended : Bool) (ran : Ran)
    → Came asked at checker most old new before after program ended ran → RanFrom asked at checker most (pending old) ran
ran_from asked at checker most old new before after program ended ran so = record {
  stretch = record {
    leaves = own.told;
    left = own.left;
    leads = led;
    endings = subst (λ (P : LeafValue → Type 0). All P own.told) (λ i. EndsSo s (so.begins.tears_is i) (so.begins.asked_is i).at) own.endings;
    cases = so.cases ∙ ap (λ (ls : List LeafValue). length ls) told_is;
    torn = so.torn ∙ own.torn ∙ ap (λ n. plus n (count_by (is_torn_beyond s) own.left)) so.none.0;
    lost = so.lost ∙ own.lost ∙ ap (λ n. plus n (count_by (λ c. not (is_torn_beyond s c)) own.left)) so.none.1;
    failing = so.failing ∙ ap (failing_from 0) told_is;
  };
  each = subst (λ (a : Asked). All (λ (sets : Vec ℕ). length sets.items ≡ length (parts_of a.at)) ran.left.items) new_is.asked_is so.each;
  ended = by_end ended so.done so.many;
}
  where
    s : Subject
    s = subject_in asked at checker

    new_is : IsSearchOf asked at new
    new_is = search_on asked at old new so.begins so.same

    own : Went s old new before after
    own =
        subst (λ (q : Program). Went (subject_of (record { at = at; torn = asked.torn; lost = asked.lost }) q) old new before after) so.program_is
        (subst (λ (a : Asked). Went (subject_of a program) old new before after) so.begins.asked_is so.went)

    told_is : after ≡ own.told
    told_is = own.added ∙ ap (λ (ls : List LeafValue). ls ++ own.told) so.before_is

    to_is : pending new ≡ map (λ (sets : Vec ℕ). case_of asked.tears (parts_of at) sets.items) ran.left.items
    to_is = left_is asked at new ran.left.items new_is so.all

    same_leaf : leaf_case old.tears old.asked.at ≡ leaf_case asked.tears at
    same_leaf = λ i. leaf_case (so.begins.tears_is i) (so.begins.asked_is i).at

    led : LeadTo s (map (λ (sets : Vec ℕ). case_of asked.tears (parts_of at) sets.items) ran.left.items) (pending old) (map (leaf_case asked.tears at) own.told) own.left
    led =
        subst (λ (cs : List Case). LeadTo s cs (pending old) (map (leaf_case asked.tears at) own.told) own.left) to_is
        (subst (λ (cs : List Case). LeadTo s (pending new) (pending old) cs own.left)
        (append-nil (map (leaf_case old.tears old.asked.at) own.told) ∙ ap (λ (f : LeafValue → Case). map f own.told) same_leaf)
        (subst (λ (cs : List Case). LeadTo s (pending new) (pending old) (map (leaf_case old.tears old.asked.at) own.told ++ []) cs) (append-nil own.left)
        (own.leads (pending new) [] [] are_there)))

    by_end : (b : Bool) → (IsTrue b → pending new ≡ []) → (IsFalse b → length after ≡ length before + most) → ran.found.cases < most → ran.left.items ≡ []
    by_end true done many few = none_mapped (λ (sets : Vec ℕ). case_of new.tears (parts_of new.asked.at) sets.items) ran.left.items (so.all ∙ done refl)
    by_end false done many few =
        let cases = so.cases in
        let long = many refl in
        absurd (omega (arith, few, cases, long))

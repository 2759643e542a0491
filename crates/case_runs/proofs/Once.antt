-- What is found is one.
use Rattle.std.proofs.Common.{ℕ, ◌≡◌, ◌+◌, ◌≤◌, Bool, true, false, not, if◌then◌else◌, List, [], ◌∷◌, ◌++◌, length, map, count_by, refl, sym, ◌∙◌, ap, arith}
use Rattle.std.specs.List.{All}
use Rattle.std.proofs.lemmas.List.{map-append, length-map}
use Rattle.std.proofs.lemmas.List.Elements.{All-head, All-tail}
use Rattle.machine.specs.Outcome.{Ending, fails}
use Rattle.checker.specs.Checker.{CheckerValue}
use Rattle.cases.specs.Cases.{Case, whole_case, representative}
use Rattle.cases.specs.AtCut.{CutValue, parts_of, case_of}
use Rattle.cases.specs.Trees.{Subject, ending_of}
use Rattle.cases.specs.Search.{LeafValue, leaf_case, EndsSo, is_torn_beyond, plus}
use Rattle.cases.specs.Once.{TreeIsOne}
use Rattle.losses.specs.declared.found.Losses.{Losses}
use Rattle.losses.specs.declared.found.CaseFindings.{CaseFindings}
use Rattle.losses.specs.declared.found.FailingCase.{FailingCase}
use Rattle.losses.specs.FoundCases.{FailingValue, failing_value}
use Rattle.case_runs.specs.Leaves.{failing_if, failing_from}
use Rattle.case_runs.specs.Laws.{subject_at}
use Rattle.case_runs.specs.Found.{IsFoundAt, IsBegunAt, KnownCase, known_case, SameFound, FindingIsOne}

-- a failing leaf by what it says of each part
abbrev pub known_value : CutValue → Bool → FailingValue → KnownCase
known_value at tears f = record { number = f.number; ending = f.ending; is = case_of tears (parts_of at) f.sets }

pub known_items : (at : CutValue) (tears : Bool) (items : List FailingCase) → map (known_case at tears) items ≡ map (known_value at tears) (map failing_value items)
known_items at tears [] = refl
known_items at tears (f ∷ items) = ap (λ (ks : List KnownCase). known_case at tears f ∷ ks) (known_items at tears items)

-- those of some leaves, by their cases and by what the program ends in there
unfoldable pub known_if : ℕ → Case → Ending → List KnownCase
known_if n c e = if fails e then record { number = n; ending = e; is = c } ∷ [] else []

unfoldable pub known_from : ℕ → List Case → List Ending → List KnownCase
known_from n [] es = []
known_from n (c ∷ cs) [] = []
known_from n (c ∷ cs) (e ∷ es) = known_if n c e ++ known_from (n + 1) cs es

abbrev pub ending_in : LeafValue → Ending
ending_in leaf = leaf.ending

known_one : (at : CutValue) (tears : Bool) (n : ℕ) (leaf : LeafValue) → map (known_value at tears) (failing_if n leaf) ≡ known_if n (leaf_case tears at leaf) leaf.ending
unfolding known_if
known_one at tears n leaf = by_test (fails leaf.ending)
  where
    by_test : (b : Bool) → map (known_value at tears) (if b then record { number = n; ending = leaf.ending; sets = leaf.sets } ∷ [] else [])
        ≡ (if b then record { number = n; ending = leaf.ending; is = leaf_case tears at leaf } ∷ [] else [])
    by_test true = refl
    by_test false = refl

pub known_all : (at : CutValue) (tears : Bool) (n : ℕ) (leaves : List LeafValue) → map (known_value at tears) (failing_from n leaves) ≡ known_from n (map (leaf_case tears at) leaves) (map ending_in leaves)
unfolding known_from
known_all at tears n [] = refl
known_all at tears n (leaf ∷ leaves) =
    map-append (known_value at tears) (failing_if n leaf) (failing_from (n + 1) leaves)
    ∙ (λ i. known_one at tears n leaf i ++ known_all at tears (n + 1) leaves i)

-- what the program ends in is said by the cases
pub endings_told : (s : Subject) (tears : Bool) (at : CutValue) (leaves : List LeafValue) → All (EndsSo s tears at) leaves
    → map ending_in leaves ≡ map (λ (c : Case). ending_of s (representative c)) (map (leaf_case tears at) leaves)
endings_told s tears at [] all = refl
endings_told s tears at (leaf ∷ leaves) all =
    λ i. All-head (EndsSo s tears at) leaf leaves all i ∷ endings_told s tears at leaves (All-tail (EndsSo s tears at) leaf leaves all) i

same_found : TreeIsOne → (asked : Losses) (at : CutValue) (checker : CheckerValue) (found other : CaseFindings) → IsFoundAt asked at checker found → IsFoundAt asked at checker other
    → SameFound at asked.tears found other
same_found tree asked at checker found other a b = record {
  cases =
      a.cases ∙ ap length a.those.added ∙ sym (length-map a.those.told F) ∙ ap length same ∙ length-map b.those.told F
      ∙ sym (ap length b.those.added) ∙ sym b.cases;
  torn = a.those.torn_beyond ∙ ap (λ (cs : List Case). plus 0 (count_by (is_torn_beyond s) cs)) left ∙ sym b.those.torn_beyond;
  lost = a.those.lost_beyond ∙ ap (λ (cs : List Case). plus 0 (count_by (λ c. not (is_torn_beyond s c)) cs)) left ∙ sym b.those.lost_beyond;
  failing = told found a ∙ (λ i. known_from 0 (same i) (endings i)) ∙ sym (told other b);
}
  where
    s : Subject
    s = subject_at at.log at.way at.cut checker asked.torn asked.lost

    F : LeafValue → Case
    F = leaf_case asked.tears at

    both : (map F a.those.told ≡ map F b.those.told) × (a.those.left ≡ b.those.left)
    both = tree.same s (whole_case asked.tears ∷ []) (map F a.those.told) a.those.left (map F b.those.told) b.those.left a.those.are b.those.are

    same : map F a.those.told ≡ map F b.those.told
    same = both.0

    left : a.those.left ≡ b.those.left
    left = both.1

    endings : map ending_in a.those.told ≡ map ending_in b.those.told
    endings =
        endings_told s asked.tears at a.those.told a.those.endings ∙ ap (map (λ (c : Case). ending_of s (representative c))) same
        ∙ sym (endings_told s asked.tears at b.those.told b.those.endings)

    told : (f : CaseFindings) → (is : IsFoundAt asked at checker f) → map (known_case at asked.tears) f.failing.items ≡ known_from 0 (map F is.those.told) (map ending_in is.those.told)
    told f is =
        known_items at asked.tears f.failing.items ∙ ap (map (known_value at asked.tears)) (is.failing ∙ ap (failing_from 0) is.those.added)
        ∙ known_all at asked.tears 0 is.those.told

fewer_begun : TreeIsOne → (asked : Losses) (at : CutValue) (checker : CheckerValue) (found : CaseFindings) (most : ℕ) → IsFoundAt asked at checker found → IsBegunAt asked at checker most
    → most ≤ found.cases
fewer_begun tree asked at checker found most a b =
    let F : LeafValue → Case = leaf_case asked.tears at in
    let few = tree.fewer (subject_at at.log at.way at.cut checker asked.torn asked.lost) b.those.to (whole_case asked.tears ∷ []) (map F b.those.told) b.those.left (map F a.those.told) a.those.left
    b.those.leads a.those.are in
    let told = length-map b.those.told F in
    let all = length-map a.those.told F in
    let many = b.those.many in
    let cases = a.cases ∙ ap length a.those.added in
    omega (arith, few, told, all, many, cases)

pub finding_is_one : TreeIsOne → FindingIsOne
finding_is_one tree = record {
  same = λ asked at checker found other a b. same_found tree asked at checker found other a b;
  fewer = λ asked at checker found most a b. fewer_begun tree asked at checker found most a b;
}

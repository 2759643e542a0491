-- What is found from some cases up to others, one after the other.
use Rattle.std.proofs.Common.{ℕ, zero, suc, ◌≡◌, ◌+◌, ◌-◌, ◌^◌, ◌<◌, ◌≤◌, min, Bool, true, false, not, if◌then◌else◌, List, [], ◌∷◌, ◌++◌, length, map, count_by, refl, sym, subst, ◌∙◌, ap, arith, append_assoc}
use Rattle.std.specs.List.{All, AllByRecursion}
use Rattle.std.proofs.lemmas.List.{map-append, length-append}
use Rattle.std.proofs.lemmas.List.Elements.{All-append, All-nil, All-from_recursion, All-head, All-tail}
use Rattle.std.proofs.lemmas.List.Sums.{sum_by-append}
use Rattle.machine.specs.Outcome.{fails}
use Rattle.checker.specs.Checker.{CheckerValue}
use Rattle.cases.specs.Cases.{Case, whole_case, with_part}
use Rattle.cases.specs.AtCut.{CutValue}
use Rattle.cases.specs.Trees.{Subject}
use Rattle.cases.specs.Search.{LeadTo, are_there, past_beyond, past_leaf, past_split, LeafValue, leaf_case, EndsSo, is_torn_beyond, plus}
use Rattle.cases.proofs.Runs.{leads_all}
use Rattle.losses.specs.declared.found.Losses.{Losses}
use Rattle.losses.specs.declared.found.CaseFindings.{CaseFindings}
use Rattle.losses.specs.declared.found.FailingCase.{FailingCase}
use Rattle.losses.specs.FoundCases.{FailingValue, failing_value}
use Rattle.case_runs.specs.Leaves.{failing_if, failing_from}
use Rattle.case_runs.specs.Found.{IsFoundAt, IsPastOne}
use Rattle.case_runs.specs.Pieces.{subject_in, IsStretch, later, IsJoined}

-- from some cases to others, and on from these
pub leads_on : (s : Subject) (end mid from leaves more left rest : List Case) → LeadTo s mid from leaves left → LeadTo s end mid more rest → LeadTo s end from (leaves ++ more) (left ++ rest)
leads_on s end mid from leaves more left rest are_there on = on
leads_on s end mid from leaves more left rest (past_beyond c xs ls out is led) on = past_beyond c xs (ls ++ more) (out ++ rest) is (leads_on s end mid xs ls more out rest led on)
leads_on s end mid from leaves more left rest (past_leaf c xs ls out is none led) on = past_leaf c xs (ls ++ more) (out ++ rest) is none (leads_on s end mid xs ls more out rest led on)
leads_on s end mid from leaves more left rest (past_split c it xs ls out is some led) on =
    past_split c it xs (ls ++ more) (out ++ rest) is some (leads_on s end mid (map (with_part c it.part) it.groups ++ xs) ls more out rest led on)

-- with other cases after them
pub leads_beside : (s : Subject) (to from leaves left cs : List Case) → LeadTo s to from leaves left → LeadTo s (to ++ cs) (from ++ cs) leaves left
leads_beside s to from leaves left cs are_there = are_there
leads_beside s to from leaves left cs (past_beyond c xs ls out is led) = past_beyond c (xs ++ cs) ls out is (leads_beside s to xs ls out cs led)
leads_beside s to from leaves left cs (past_leaf c xs ls out is none led) = past_leaf c (xs ++ cs) ls out is none (leads_beside s to xs ls out cs led)
leads_beside s to from leaves left cs (past_split c it xs ls out is some led) =
    past_split c it (xs ++ cs) ls out is some
    (subst (λ (zs : List Case). LeadTo s (to ++ cs) zs ls out) (append_assoc (map (with_part c it.part) it.groups) xs cs)
    (leads_beside s to (map (with_part c it.part) it.groups ++ xs) ls out cs led))

-- counts up to what a word holds

least_next : (m n : ℕ) → min (min n m + 1) m ≡ min (suc n) m
least_next m n = omega arith

least_both : (m a b : ℕ) → min (min a m + min b m) m ≡ min (a + b) m
least_both m a b = omega arith

plus_is : (n : ℕ) → plus 0 n ≡ min n (2 ^ 64 - 1)
plus_is zero = refl
plus_is (suc n) = ap (λ k. min (k + 1) (2 ^ 64 - 1)) (plus_is n) ∙ least_next (2 ^ 64 - 1) n

pub plus_both : (a b x y : ℕ) → x ≡ plus 0 a → y ≡ plus 0 b → min (x + y) (2 ^ 64 - 1) ≡ plus 0 (a + b)
plus_both a b x y one other =
    (λ i. min ((one ∙ plus_is a) i + (other ∙ plus_is b) i) (2 ^ 64 - 1)) ∙ least_both (2 ^ 64 - 1) a b ∙ sym (plus_is (a + b))

count_both : (p : Case → Bool) (left rest : List Case) → plus 0 (count_by p left + count_by p rest) ≡ plus 0 (count_by p (left ++ rest))
count_both p left rest = ap (plus 0) (sym (sum_by-append (λ c. if p c then 1 else 0) left rest))

-- those that fail

later_if : (k n : ℕ) (leaf : LeafValue) → failing_if (k + n) leaf ≡ map (later k) (failing_if n leaf)
later_if k n leaf = by (fails leaf.ending)
  where
    by : (b : Bool) → (if b then record { number = k + n; ending = leaf.ending; sets = leaf.sets } ∷ [] else [])
        ≡ map (later k) (if b then record { number = n; ending = leaf.ending; sets = leaf.sets } ∷ [] else [])
    by true = refl
    by false = refl

later_from : (k n : ℕ) (leaves : List LeafValue) → failing_from (k + n) leaves ≡ map (later k) (failing_from n leaves)
later_from k n [] = refl
later_from k n (leaf ∷ leaves) =
    (λ i. later_if k n leaf i ++ (ap (λ m. failing_from m leaves) (let e : k + n + 1 ≡ k + (n + 1) = omega arith in e) ∙ later_from k (n + 1) leaves) i)
    ∙ sym (map-append (later k) (failing_if n leaf) (failing_from (n + 1) leaves))

failing_both : (n : ℕ) (leaves more : List LeafValue) → failing_from n (leaves ++ more) ≡ failing_from n leaves ++ failing_from (length leaves + n) more
failing_both n [] more = ap (λ m. failing_from m more) (let e : n ≡ 0 + n = omega arith in e)
failing_both n (leaf ∷ leaves) more =
    ap (λ fs. failing_if n leaf ++ fs) (failing_both (n + 1) leaves more)
    ∙ ap (λ m. failing_if n leaf ++ (failing_from (n + 1) leaves ++ failing_from m more)) (let e : length leaves + (n + 1) ≡ suc (length leaves) + n = omega arith in e)
    ∙ sym (append_assoc (failing_if n leaf) (failing_from (n + 1) leaves) (failing_from (suc (length leaves) + n) more))

below_if : (n m : ℕ) (leaf : LeafValue) (rest : List FailingValue) → n < m → AllByRecursion (λ (v : FailingValue). v.number < m) rest
    → AllByRecursion (λ (v : FailingValue). v.number < m) (failing_if n leaf ++ rest)
below_if n m leaf rest low all = by (fails leaf.ending)
  where
    by : (b : Bool) → AllByRecursion (λ (v : FailingValue). v.number < m) ((if b then record { number = n; ending = leaf.ending; sets = leaf.sets } ∷ [] else []) ++ rest)
    by true = (low, all)
    by false = all

below_from : (n m : ℕ) (leaves : List LeafValue) → n + length leaves ≤ m → AllByRecursion (λ (v : FailingValue). v.number < m) (failing_from n leaves)
below_from n m [] low = tt
below_from n m (leaf ∷ leaves) low = below_if n m leaf (failing_from (n + 1) leaves) (omega (arith, low)) (below_from (n + 1) m leaves (omega (arith, low)))

below_items : (m : ℕ) (fs : List FailingCase) → AllByRecursion (λ (v : FailingValue). v.number < m) (map failing_value fs) → AllByRecursion (λ (f : FailingCase). f.number < m) fs
below_items m [] all = tt
below_items m (f ∷ fs) all = (all.0, below_items m fs all.1)

-- the numbers of failing leaves are those of leaves
pub numbers_below : (s : Subject) (tears : Bool) (at : CutValue) (from to : List Case) (found : CaseFindings) → IsStretch s tears at from found to
    → All (λ (f : FailingCase). f.number < found.cases) found.failing.items
numbers_below s tears at from to found is =
    let cases = is.cases in
    All-from_recursion (λ (f : FailingCase). f.number < found.cases) found.failing.items
    (below_items found.cases found.failing.items
    (subst (AllByRecursion (λ (v : FailingValue). v.number < found.cases)) (sym is.failing) (below_from 0 found.cases is.leaves (omega (arith, cases)))))

-- nothing was found yet
pub stretch_none : (s : Subject) (tears : Bool) (at : CutValue) (from : List Case) (found : CaseFindings) → (found.cases ≡ 0) × (found.torn_beyond ≡ 0) × (found.lost_beyond ≡ 0)
    → found.failing.items ≡ [] → IsStretch s tears at from found from
stretch_none s tears at from found none empty = record {
  leaves = [];
  left = [];
  leads = are_there;
  endings = All-nil (EndsSo s tears at);
  cases = none.0;
  torn = none.1;
  lost = none.2;
  failing = ap (map failing_value) empty;
}

pub stretch_beside : (s : Subject) (tears : Bool) (at : CutValue) (from to cs : List Case) (found : CaseFindings) → IsStretch s tears at from found to → IsStretch s tears at (from ++ cs) found (to ++ cs)
stretch_beside s tears at from to cs found is = record {
  leaves = is.leaves;
  left = is.left;
  leads = leads_beside s to from (map (leaf_case tears at) is.leaves) is.left cs is.leads;
  endings = is.endings;
  cases = is.cases;
  torn = is.torn;
  lost = is.lost;
  failing = is.failing;
}

leads_both : (s : Subject) (tears : Bool) (at : CutValue) (from mid to : List Case) (found more : CaseFindings) (one : IsStretch s tears at from found mid) (on : IsStretch s tears at mid more to)
    → LeadTo s to from (map (leaf_case tears at) (one.leaves ++ on.leaves)) (one.left ++ on.left)
leads_both s tears at from mid to found more one on =
    let F : LeafValue → Case = leaf_case tears at in
    subst (λ (cs : List Case). LeadTo s to from cs (one.left ++ on.left)) (sym (map-append F one.leaves on.leaves))
    (leads_on s to mid from (map F one.leaves) (map F on.leaves) one.left on.left one.leads on.leads)

pub stretch_on : (s : Subject) (tears : Bool) (at : CutValue) (from mid to : List Case) (found more both : CaseFindings) → IsStretch s tears at from found mid → IsStretch s tears at mid more to
    → IsJoined found more both → IsStretch s tears at from both to
stretch_on s tears at from mid to found more both one on so =
    let own = one.cases in
    let next = on.cases in
    let all = so.cases in
    let start : length one.leaves + 0 ≡ length one.leaves = omega arith in
    record {
      leaves = one.leaves ++ on.leaves;
      left = one.left ++ on.left;
      leads = leads_both s tears at from mid to found more one on;
      endings = All-append (EndsSo s tears at) one.leaves on.leaves one.endings on.endings;
      cases = omega (arith, own, next, all, length-append one.leaves on.leaves);
      torn = so.torn ∙ plus_both _ _ _ _ one.torn on.torn ∙ count_both (is_torn_beyond s) one.left on.left;
      lost = so.lost ∙ plus_both _ _ _ _ one.lost on.lost ∙ count_both (λ c. not (is_torn_beyond s c)) one.left on.left;
      failing =
          so.failing
          ∙ (λ i. one.failing i ++ map (later (own i)) (on.failing i))
          ∙ ap (λ fs. failing_from 0 one.leaves ++ fs)
          (sym (later_from (length one.leaves) 0 on.leaves))
          ∙ sym (failing_both 0 one.leaves on.leaves);
    }

-- all leaves were found
pub found_whole : (asked : Losses) (at : CutValue) (checker : CheckerValue) (found : CaseFindings) (to : List Case) → to ≡ []
    → IsStretch (subject_in asked at checker) asked.tears at (whole_case asked.tears ∷ []) found to → IsFoundAt asked at checker found
found_whole asked at checker found to none is =
    let s = subject_in asked at checker in
    record {
      leaves = is.leaves;
      those = record {
        told = is.leaves;
        left = is.left;
        added = refl;
        are = leads_all s (whole_case asked.tears ∷ []) (map (leaf_case asked.tears at) is.leaves) is.left
            (subst (λ (cs : List Case). LeadTo s cs (whole_case asked.tears ∷ []) (map (leaf_case asked.tears at) is.leaves) is.left) none is.leads);
        endings = is.endings;
        torn_beyond = is.torn;
        lost_beyond = is.lost;
      };
      cases = is.cases;
      failing = is.failing;
    }

-- there are more than the limit
pub past_both : (asked : Losses) (at : CutValue) (checker : CheckerValue) (mid to : List Case) (found more : CaseFindings) (left : ℕ)
    → IsStretch (subject_in asked at checker) asked.tears at (whole_case asked.tears ∷ []) found mid → IsStretch (subject_in asked at checker) asked.tears at mid more to
    → left < found.cases + more.cases → IsPastOne asked at checker left
past_both asked at checker mid to found more left one on low =
    let own = one.cases in
    let next = on.cases in
    record {
      more = length (one.leaves ++ on.leaves);
      begun = record {
        leaves = one.leaves ++ on.leaves;
        those = record {
          told = one.leaves ++ on.leaves;
          left = one.left ++ on.left;
          to = to;
          added = refl;
          many = refl;
          leads = leads_both (subject_in asked at checker) asked.tears at (whole_case asked.tears ∷ []) mid to found more one on;
          endings = All-append (EndsSo (subject_in asked at checker) asked.tears at) one.leaves on.leaves one.endings on.endings;
        };
      };
      past = omega (arith, own, next, low, length-append one.leaves on.leaves);
    }

-- one failing case more, after k leaves
pub later_next : (k : ℕ) (head : List FailingValue) (was now xs : List FailingCase) (x y : FailingCase) → map failing_value was ≡ head ++ map (later k) (map failing_value xs)
    → now ≡ was ++ y ∷ [] → failing_value y ≡ later k (failing_value x) → map failing_value now ≡ head ++ map (later k) (map failing_value (xs ++ x ∷ []))
later_next k head was now xs x y so is same =
    ap (map failing_value) is ∙ map-append failing_value was (y ∷ []) ∙ (λ i. so i ++ same i ∷ [])
    ∙ append_assoc head (map (later k) (map failing_value xs)) (later k (failing_value x) ∷ [])
    ∙ ap (λ (fs : List FailingValue). head ++ fs)
    (sym (ap (map (later k)) (map-append failing_value xs (x ∷ [])) ∙ map-append (later k) (map failing_value xs) (failing_value x ∷ [])))

pub middle : {X : Type 0} (P : X → Type 0) (ys zs : List X) (x : X) → All P (ys ++ (x ∷ zs)) → P x
middle P [] zs x all = All-head P x zs all
middle P (y ∷ ys) zs x all = middle P ys zs x (All-tail P y (ys ++ (x ∷ zs)) all)

pub none_left : {X : Type 0} (xs : List X) (n : ℕ) → n ≡ length xs → n ≡ 0 → xs ≡ []
none_left [] n is none = refl
none_left (x ∷ xs) n is none = absurd (omega (arith, is, none))

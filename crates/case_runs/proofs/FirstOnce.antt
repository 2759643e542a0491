-- The first failing case at a cut with a checker is one.
use Rattle.std.proofs.Common.{ℕ, suc, ◌≡◌, ◌+◌, ◌≤◌, ◌⊎◌, Bool, true, false, if◌then◌else◌, List, [], ◌∷◌, ◌++◌, length, map, None, Some, refl, sym, subst, ◌∙◌, ap, arith, inl, inr}
use Rattle.std.proofs.Math.ListN.{length-append}
use Rattle.std.proofs.lemmas.Bool.{false≢true}
use Rattle.std.proofs.lemmas.List.{length-map, append_assoc, append-nil}
use Rattle.machine.specs.Outcome.{Ending, fails}
use Rattle.checker.specs.Checker.{CheckerValue}
use Rattle.cases.specs.Cases.{Case, Split, whole_case, with_part, representative}
use Rattle.cases.specs.AtCut.{CutValue}
use Rattle.cases.specs.Trees.{Subject, split_of, ending_of}
use Rattle.cases.specs.Once.{TreeIsOne}
use Rattle.cases.specs.Search.{LeafValue, leaf_case, LeadTo, are_there, past_beyond, past_leaf, past_split, BegunCases}
use Rattle.losses.specs.declared.found.Losses.{Losses}
use Rattle.losses.specs.declared.found.CaseFindings.{CaseFindings}
use Rattle.losses.specs.declared.found.FailingCase.{FailingCase}
use Rattle.case_runs.specs.Laws.{subject_at}
use Rattle.losses.specs.FoundCases.{FailingValue}
use Rattle.case_runs.specs.Leaves.{failing_if, failing_from}
use Rattle.case_runs.specs.Found.{IsFoundAt, KnownCase, known_case}
use Rattle.case_runs.specs.First.{FailsFirst, PassesMost, FirstIsOne}
use Rattle.case_runs.proofs.Finding.{led}
use Rattle.case_runs.proofs.Telling.{failing_push}
use Rattle.case_runs.proofs.Once.{known_value, known_items, known_if, known_from, known_all, endings_told}

-- of two ways through the leaves of some cases one goes on where the other ends

no_split : (s : Subject) (c : Case) (it : Split) → split_of s c ≡ None → split_of s c ≡ Some it → ⊥
no_split s c it none some = let bad : None ≡ Some it = sym none ∙ some in cc

one_split : (s : Subject) (c : Case) (it other : Split) → split_of s c ≡ Some it → split_of s c ≡ Some other → other ≡ it
one_split s c it other here there = let both : Some other ≡ Some it = sym there ∙ here in cc

abbrev children : Case → Split → List Case → List Case
children c it rest = map (with_part c it.part) it.groups ++ rest

abbrev pub GoesOn : List Case → List Case → Type 0
GoesOn ls ms = (rest : List Case) × ((ms ≡ ls ++ rest) ⊎ (ls ≡ ms ++ rest))

go_on : (c : Case) (ls ms : List Case) → GoesOn ls ms → GoesOn (c ∷ ls) (c ∷ ms)
go_on c ls ms (rest, inl more) = (rest, inl (ap (λ (cs : List Case). c ∷ cs) more))
go_on c ls ms (rest, inr more) = (rest, inr (ap (λ (cs : List Case). c ∷ cs) more))

pub goes_on : (s : Subject) (to end cs ls left ms rest : List Case) → LeadTo s to cs ls left → LeadTo s end cs ms rest → GoesOn ls ms
goes_on s to end cs ls left ms rest are_there b = (ms, inl refl)
goes_on s to end cs ls left ms rest (past_beyond c xs ls1 left1 out a) are_there = (ls, inr refl)
goes_on s to end cs ls left ms rest (past_leaf c xs ls1 left1 within whole a) are_there = (ls, inr refl)
goes_on s to end cs ls left ms rest (past_split c it xs ls1 left1 within some a) are_there = (ls, inr refl)
goes_on s to end cs ls left ms rest (past_beyond c xs ls1 left1 out a) (past_beyond d ys ms2 rest2 over b) = goes_on s to end xs ls1 left1 ms2 rest2 a b
goes_on s to end cs ls left ms rest (past_beyond c xs ls1 left1 out a) (past_leaf d ys ms2 rest2 within whole b) = absurd (false≢true (sym out ∙ within))
goes_on s to end cs ls left ms rest (past_beyond c xs ls1 left1 out a) (past_split d it ys ms2 rest2 within some b) = absurd (false≢true (sym out ∙ within))
goes_on s to end cs ls left ms rest (past_leaf c xs ls1 left1 within whole a) (past_beyond d ys ms2 rest2 out b) = absurd (false≢true (sym out ∙ within))
goes_on s to end cs ls left ms rest (past_leaf c xs ls1 left1 within whole a) (past_leaf d ys ms2 rest2 inside none b) = go_on c ls1 ms2 (goes_on s to end xs ls1 left1 ms2 rest2 a b)
goes_on s to end cs ls left ms rest (past_leaf c xs ls1 left1 within whole a) (past_split d it ys ms2 rest2 inside some b) = absurd (no_split s c it whole some)
goes_on s to end cs ls left ms rest (past_split c it xs ls1 left1 within some a) (past_beyond d ys ms2 rest2 out b) = absurd (false≢true (sym out ∙ within))
goes_on s to end cs ls left ms rest (past_split c it xs ls1 left1 within some a) (past_leaf d ys ms2 rest2 inside whole b) = absurd (no_split s c it whole some)
goes_on s to end cs ls left ms rest (past_split c it xs ls1 left1 within some a) (past_split d other ys ms2 rest2 inside there b) =
    goes_on s to end (children c it xs) ls left ms rest a
    (subst (λ (x : Split). LeadTo s end (children c x xs) ms rest) (one_split s c it other some there) b)

-- the failing ones of some leaves, by their cases
abbrev ends_at : Subject → List Case → List Ending
ends_at s cs = map (λ (c : Case). ending_of s (representative c)) cs

abbrev bad : Subject → ℕ → List Case → List KnownCase
bad s n cs = known_from n cs (ends_at s cs)

regroup : (xs ys zs : List KnownCase) → xs ++ (ys ++ zs) ≡ (xs ++ ys) ++ zs
regroup xs ys zs = simp append_assoc

bad_both : (s : Subject) (n : ℕ) (cs ds : List Case) → bad s n (cs ++ ds) ≡ bad s n cs ++ bad s (n + length cs) ds
unfolding known_from
bad_both s n [] ds = ap (λ m. bad s m ds) (let e : n ≡ n + 0 = omega arith in e)
bad_both s n (c ∷ cs) ds =
    ap (λ (ks : List KnownCase). known_if n c (ending_of s (representative c)) ++ ks) (bad_both s (n + 1) cs ds)
    ∙ regroup (known_if n c (ending_of s (representative c))) (bad s (n + 1) cs) (bad s (n + 1 + length cs) ds)
    ∙ ap (λ m. (known_if n c (ending_of s (representative c)) ++ bad s (n + 1) cs) ++ bad s m ds) (let e : n + 1 + length cs ≡ n + suc (length cs) = omega arith in e)

-- those of a search are those of its leaves
bad_of : (asked : Losses) (at : CutValue) (checker : CheckerValue) (leaves : List LeafValue) (most : ℕ)
    → (b : BegunCases (subject_at at.log at.way at.cut checker asked.torn asked.lost) asked.tears at [] leaves most)
    → map (known_value at asked.tears) (failing_from 0 leaves) ≡ bad (subject_at at.log at.way at.cut checker asked.torn asked.lost) 0 (map (leaf_case asked.tears at) b.told)
bad_of asked at checker leaves most b =
    let s = subject_at at.log at.way at.cut checker asked.torn asked.lost in
    let F : LeafValue → Case = leaf_case asked.tears at in
    ap (λ (ls : List LeafValue). map (known_value at asked.tears) (failing_from 0 ls)) b.added ∙ known_all at asked.tears 0 b.told
    ∙ ap (λ (es : List Ending). known_from 0 (map F b.told) es) (endings_told s asked.tears at b.told b.endings)

first_bad : (asked : Losses) (at : CutValue) (checker : CheckerValue) (f : FailingCase) → (a : FailsFirst asked at checker f)
    → bad (subject_at at.log at.way at.cut checker asked.torn asked.lost) 0 (map (leaf_case asked.tears at) a.those.told) ≡ known_case at asked.tears f ∷ []
first_bad asked at checker f a =
    sym (bad_of asked at checker a.leaves (f.number + 1) a.those) ∙ ap (map (known_value at asked.tears)) a.failing

heads : (k j : KnownCase) (ks js : List KnownCase) → k ∷ ks ≡ j ∷ js → k ≡ j
heads k j ks js both = let all : k ∷ ks ≡ j ∷ js = both in cc

pub first_once : (asked : Losses) (at : CutValue) (checker : CheckerValue) (f g : FailingCase) → FailsFirst asked at checker f → FailsFirst asked at checker g
    → known_case at asked.tears f ≡ known_case at asked.tears g
first_once asked at checker f g a b = by (goes_on s a.those.to b.those.to (whole_case asked.tears ∷ []) (map F a.those.told) a.those.left (map F b.those.told) b.those.left a.those.leads b.those.leads)
  where
    s : Subject
    s = subject_at at.log at.way at.cut checker asked.torn asked.lost

    F : LeafValue → Case
    F = leaf_case asked.tears at

    more : (k j : KnownCase) (cs ds rest : List Case) → bad s 0 cs ≡ k ∷ [] → bad s 0 ds ≡ j ∷ [] → ds ≡ cs ++ rest → k ≡ j
    more k j cs ds rest own other is =
        heads k j (bad s (0 + length cs) rest) []
        (sym (bad_both s 0 cs rest ∙ ap (λ (ks : List KnownCase). ks ++ bad s (0 + length cs) rest) own) ∙ ap (bad s 0) (sym is) ∙ other)

    by : GoesOn (map F a.those.told) (map F b.those.told) → known_case at asked.tears f ≡ known_case at asked.tears g
    by (rest, inl is) = more _ _ (map F a.those.told) (map F b.those.told) rest (first_bad asked at checker f a) (first_bad asked at checker g b) is
    by (rest, inr is) = sym (more _ _ (map F b.those.told) (map F a.those.told) rest (first_bad asked at checker g b) (first_bad asked at checker f a) is)

-- a way that is as long as another goes on where that ends
pub longer : (ls ms : List Case) → length ls ≤ length ms → GoesOn ls ms → (rest : List Case) × (ms ≡ ls ++ rest)
longer ls ms few (rest, inl is) = (rest, is)
longer ls ms few ([], inr is) = ([], sym (append-nil ls ∙ is ∙ append-nil ms))
longer ls ms few (c ∷ rest, inr is) = absurd (let long = ap (λ (cs : List Case). length cs) is ∙ length-append ms (c ∷ rest) in omega (arith, few, long))

pub first_found : TreeIsOne
    → (asked : Losses) (at : CutValue) (checker : CheckerValue) (f : FailingCase) (found : CaseFindings) → FailsFirst asked at checker f → IsFoundAt asked at checker found
    → (rest : List KnownCase) × (map (known_case at asked.tears) found.failing.items ≡ known_case at asked.tears f ∷ rest)
first_found tree asked at checker f found a is = (bad s (0 + length (map F a.those.told)) it.0, told)
  where
    s : Subject
    s = subject_at at.log at.way at.cut checker asked.torn asked.lost

    F : LeafValue → Case
    F = leaf_case asked.tears at

    b : BegunCases s asked.tears at [] is.leaves found.cases
    b = record {
      told = is.those.told;
      left = is.those.left;
      to = [];
      added = is.those.added;
      many = sym (is.cases ∙ ap (λ (ls : List LeafValue). length ls) is.those.added);
      leads = led s (whole_case asked.tears ∷ []) (map F is.those.told) is.those.left is.those.are;
      endings = is.those.endings;
    }

    it : (rest : List Case) × (map F b.told ≡ map F a.those.told ++ rest)
    it =
        longer (map F a.those.told) (map F b.told)
        (tree.fewer s a.those.to (whole_case asked.tears ∷ []) (map F a.those.told) a.those.left (map F is.those.told) is.those.left a.those.leads is.those.are)
        (goes_on s a.those.to [] (whole_case asked.tears ∷ []) (map F a.those.told) a.those.left (map F b.told) b.left a.those.leads b.leads)

    told : map (known_case at asked.tears) found.failing.items ≡ known_case at asked.tears f ∷ bad s (0 + length (map F a.those.told)) it.0
    told =
        known_items at asked.tears found.failing.items ∙ ap (map (known_value at asked.tears)) is.failing ∙ bad_of asked at checker is.leaves found.cases b
        ∙ ap (bad s 0) it.1 ∙ bad_both s 0 (map F a.those.told) it.0
        ∙ ap (λ (ks : List KnownCase). ks ++ bad s (0 + length (map F a.those.told)) it.0) (first_bad asked at checker f a)

-- the first failing one isn't among leaves that pass

abbrev first_number : List KnownCase → ℕ
first_number [] = 0
first_number (k ∷ ks) = k.number

at_last : (at : CutValue) (tears : Bool) (most : ℕ) (last : LeafValue) (k : KnownCase) (ks : List KnownCase) → map (known_value at tears) (failing_if most last) ≡ k ∷ ks → most ≤ k.number
at_last at tears most last k ks is = by (fails last.ending) is
  where
    by : (b : Bool) → map (known_value at tears) (if b then record { number = most; ending = last.ending; sets = last.sets } ∷ [] else []) ≡ k ∷ ks → most ≤ k.number
    by true h = let same : most ≡ k.number = ap first_number h in omega (arith, same)
    by false h = absurd (let bad : [] ≡ k ∷ ks = h in cc)

pub first_after : (asked : Losses) (at : CutValue) (checker : CheckerValue) (f : FailingCase) (most : ℕ) → FailsFirst asked at checker f → PassesMost asked at checker most → most ≤ f.number
first_after asked at checker f most a b = by (goes_on s a.those.to b.those.to (whole_case asked.tears ∷ []) (map F a.those.told) a.those.left (map F b.those.told) b.those.left a.those.leads b.those.leads)
  where
    s : Subject
    s = subject_at at.log at.way at.cut checker asked.torn asked.lost

    F : LeafValue → Case
    F = leaf_case asked.tears at

    many : length b.leaves ≡ most
    many =
        let all = ap (λ (ls : List LeafValue). length ls) b.those.added in
        let long = length-append b.leaves (b.last ∷ []) in
        let told = b.those.many in
        omega (arith, all, long, told)

    own : bad s 0 (map F b.those.told) ≡ map (known_value at asked.tears) (failing_if most b.last)
    own =
        sym (bad_of asked at checker (b.leaves ++ b.last ∷ []) (most + 1) b.those)
        ∙ ap (map (known_value at asked.tears)) (failing_push 0 b.leaves b.last ∙ ap (λ (vs : List FailingValue). vs ++ failing_if (0 + length b.leaves) b.last) b.passing)
        ∙ ap (λ m. map (known_value at asked.tears) (failing_if m b.last)) (let e : 0 + length b.leaves ≡ most = omega (arith, many) in e)

    by : GoesOn (map F a.those.told) (map F b.those.told) → most ≤ f.number
    by (rest, inl is) =
        at_last at asked.tears most b.last (known_case at asked.tears f) (bad s (0 + length (map F a.those.told)) rest)
        (sym own ∙ ap (bad s 0) is ∙ bad_both s 0 (map F a.those.told) rest
        ∙ ap (λ (ks : List KnownCase). ks ++ bad s (0 + length (map F a.those.told)) rest) (first_bad asked at checker f a))
    by (rest, inr is) =
        let all = ap (λ (cs : List Case). length cs) is ∙ length-append (map F b.those.told) rest in
        let here = length-map a.those.told F in
        let there = length-map b.those.told F in
        let own = a.those.many in
        let other = b.those.many in
        omega (arith, all, here, there, own, other)

pub first_is_one : TreeIsOne → FirstIsOne
first_is_one tree = record {
  same = λ asked at checker f g a b. first_once asked at checker f g a b;
  found = λ asked at checker f found a b. first_found tree asked at checker f found a b;
  after = λ asked at checker f most a b. first_after asked at checker f most a b;
}

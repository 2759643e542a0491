-- What records tell of a cut is one.
use Rattle.std.proofs.Common.{ℕ, zero, suc, ◌≡◌, ◌⊎◌, ◌+◌, ◌<◌, ◌≤◌, ◌==◌, nat_le, nat_lt, Bool, true, false, not, ◌&&◌, ◌||◌, if◌then◌else◌, List, [], ◌∷◌, ◌++◌, length, map, filter, take, count_by, slice_get, Option, None, Some, option_map, refl, sym, subst, ◌∙◌, ap, arith, inl, inr}
use Rattle.std.specs.List.{All, list_any, find}
use Rattle.std.specs.Option.{option_map_or}
use Rattle.std.proofs.lemmas.Bool.{false≢true, cases_lt}
use Rattle.std.proofs.lemmas.List.{length-map, length-append}
use Rattle.std.proofs.lemmas.List.Elements.{All-head, All-tail}
use Rattle.machine.specs.Outcome.{Ending, Verdict, Stopped, OutOfSteps, Stray, fails}
use Rattle.cases.specs.Cases.{Case, Split, whole_case, with_part, representative}
use Rattle.logfmt.specs.Bounds.{LogValue}
use Rattle.epochs.specs.declared.part.By.{By}
use Rattle.epochs.specs.Units.{marks_at}
use Rattle.cases.specs.AtCut.{CutValue, parts_of, case_of, image_of}
use Rattle.cases.specs.Trees.{Program, Subject, ending_of as ending_at, is_within, split_of}
use Rattle.cases.specs.Search.{LeafValue, leaf_case, LeadTo, are_there, past_beyond, past_leaf, past_split, EndsSo, is_torn_beyond, plus}
use Rattle.losses.specs.declared.found.Losses.{Losses}
use Rattle.losses.specs.FoundCases.{FailingValue}
use Rattle.case_runs.specs.Leaves.{failing_from}
use Rattle.case_runs.specs.Found.{KnownCase}
use Rattle.case_runs.proofs.FirstOnce.{GoesOn as GoOn, goes_on, longer}
use Rattle.case_runs.proofs.Once.{known_value, known_from, known_all, ending_in, endings_told}
use Rattle.known.specs.declared.run.RunEnd.{RunEnd}
use Rattle.known.specs.declared.run.RunEnd.TheVariants as ended
use Rattle.known.specs.declared.found.Stops.{Stops}
use Rattle.known.specs.declared.found.KnownAt.{KnownAt}
use Rattle.known.specs.declared.found.KnownFailing.{KnownFailing}
use Rattle.known.specs.declared.found.OpenCase.{OpenCase}
use Rattle.known.specs.declared.run.KnownRun.{KnownRun}
use Rattle.known.specs.Contradictions.{both_contradict, contradict_at}
use Rattle.known.specs.Ends.{ending_of, is_open, open_ending, same_end}
use Rattle.known.specs.Records.{RecordsValue, agree, contradict, first_telling, in_both, program_of, tells, told_ending, told_looks}
use Rattle.known.specs.Leaves.{is_told, told_of, open_of, is_told_failing, has_stopped, failing_value, open_sets, sets_of_leaf}
use Rattle.known.specs.Found.{subject_at, Reached, StopsAtLeaf, StopsRight, IsKnownAt, IsPast, cases_at}
use Rattle.known.specs.Once.{FailingCaseValue, failing_case_value, open_case, RunValue, run_value, SaySame, SameKnown, FoundIsOne}
use Rattle.known.proofs.Meeting.{told_and_open}

-- TWO WAYS THROUGH A TREE

-- nothing is waiting, or a leaf is next
pub record NextIsLeaf (s : Subject) (to : List Case) : Type 0 where
  pub leaf : Case
  pub rest : List Case
  pub is : to ≡ leaf ∷ rest
  pub within : is_within s leaf ≡ true
  pub whole : split_of s leaf ≡ None

abbrev Ends : Subject → List Case → Type 0
Ends s to = (to ≡ []) ⊎ NextIsLeaf s to

-- what is next is no case that is left out, and none that is split
not_beyond : (s : Subject) (c : Case) (cs : List Case) → Ends s (c ∷ cs) → is_within s c ≡ false → ⊥
not_beyond s c cs (inl none) out = let bad : ◌≡◌ {A = List Case} (c ∷ cs) [] = none in cc
not_beyond s c cs (inr next) out =
    let both : c ∷ cs ≡ next.leaf ∷ next.rest = next.is in
    let same : c ≡ next.leaf = cc in
    false≢true (sym out ∙ ap (is_within s) same ∙ next.within)

not_split : (s : Subject) (c : Case) (cs : List Case) (it : Split) → Ends s (c ∷ cs) → split_of s c ≡ Some it → ⊥
not_split s c cs it (inl none) some = let bad : ◌≡◌ {A = List Case} (c ∷ cs) [] = none in cc
not_split s c cs it (inr next) some =
    let both : c ∷ cs ≡ next.leaf ∷ next.rest = next.is in
    let same : c ≡ next.leaf = cc in
    let bad : Some it ≡ None = sym some ∙ ap (split_of s) same ∙ next.whole in cc

no_split : (s : Subject) (c : Case) (it : Split) → split_of s c ≡ None → split_of s c ≡ Some it → ⊥
no_split s c it none some = let bad : None ≡ Some it = sym none ∙ some in cc

one_split : (s : Subject) (c : Case) (it other : Split) → split_of s c ≡ Some it → split_of s c ≡ Some other → other ≡ it
one_split s c it other here there = let both : Some other ≡ Some it = sym there ∙ here in cc

abbrev children : Case → Split → List Case → List Case
children c it rest = map (with_part c it.part) it.groups ++ rest

-- two ways with as many leaves, which end so, left out the same, and the same is waiting
abbrev Meet : List Case → List Case → List Case → List Case → Type 0
Meet left rest to end = (left ≡ rest) × (to ≡ end)

meet : (s : Subject) (to end cs ls left ms rest : List Case) → Ends s to → Ends s end → length ls ≡ length ms → LeadTo s to cs ls left → LeadTo s end cs ms rest → Meet left rest to end
meet s to end cs ls left ms rest et ee long are_there are_there = (refl, refl)
meet s to end cs ls left ms rest et ee long are_there (past_beyond c xs ms1 rest1 out b) = absurd (not_beyond s c xs et out)
meet s to end cs ls left ms rest et ee long are_there (past_leaf c xs ms1 rest1 within whole b) = absurd (omega (arith, long))
meet s to end cs ls left ms rest et ee long are_there (past_split c it xs ms1 rest1 within some b) = absurd (not_split s c xs it et some)
meet s to end cs ls left ms rest et ee long (past_beyond c xs ls1 left1 out a) are_there = absurd (not_beyond s c xs ee out)
meet s to end cs ls left ms rest et ee long (past_leaf c xs ls1 left1 within whole a) are_there = absurd (omega (arith, long))
meet s to end cs ls left ms rest et ee long (past_split c it xs ls1 left1 within some a) are_there = absurd (not_split s c xs it ee some)
meet s to end cs ls left ms rest et ee long (past_beyond c xs ls1 left1 out a) (past_beyond d ys ms2 rest2 over b) =
    let same = meet s to end xs ls1 left1 ms2 rest2 et ee long a b in (ap (λ (zs : List Case). c ∷ zs) same.0, same.1)
meet s to end cs ls left ms rest et ee long (past_beyond c xs ls1 left1 out a) (past_leaf d ys ms2 rest2 within whole b) = absurd (false≢true (sym out ∙ within))
meet s to end cs ls left ms rest et ee long (past_beyond c xs ls1 left1 out a) (past_split d it ys ms2 rest2 within some b) = absurd (false≢true (sym out ∙ within))
meet s to end cs ls left ms rest et ee long (past_leaf c xs ls1 left1 within whole a) (past_beyond d ys ms2 rest2 out b) = absurd (false≢true (sym out ∙ within))
meet s to end cs ls left ms rest et ee long (past_leaf c xs ls1 left1 within whole a) (past_leaf d ys ms2 rest2 inside none b) = meet s to end xs ls1 left1 ms2 rest2 et ee (omega (arith, long)) a b
meet s to end cs ls left ms rest et ee long (past_leaf c xs ls1 left1 within whole a) (past_split d it ys ms2 rest2 inside some b) = absurd (no_split s c it whole some)
meet s to end cs ls left ms rest et ee long (past_split c it xs ls1 left1 within some a) (past_beyond d ys ms2 rest2 out b) = absurd (false≢true (sym out ∙ within))
meet s to end cs ls left ms rest et ee long (past_split c it xs ls1 left1 within some a) (past_leaf d ys ms2 rest2 inside whole b) = absurd (no_split s c it whole some)
meet s to end cs ls left ms rest et ee long (past_split c it xs ls1 left1 within some a) (past_split d other ys ms2 rest2 inside there b) =
    meet s to end (children c it xs) ls left ms rest et ee long a (subst (λ (x : Split). LeadTo s end (children c x xs) ms rest) (one_split s c it other some there) b)

-- one that ends where nothing is waiting has all leaves
has_all : (s : Subject) (end cs ls left ms rest : List Case) → LeadTo s [] cs ls left → LeadTo s end cs ms rest → length ms ≤ length ls
has_all s end cs ls left ms rest a are_there = omega arith
has_all s end cs ls left ms rest (past_beyond c xs ls1 left1 out a) (past_beyond d ys ms2 rest2 over b) = has_all s end xs ls1 left1 ms2 rest2 a b
has_all s end cs ls left ms rest (past_beyond c xs ls1 left1 out a) (past_leaf d ys ms2 rest2 within whole b) = absurd (false≢true (sym out ∙ within))
has_all s end cs ls left ms rest (past_beyond c xs ls1 left1 out a) (past_split d it ys ms2 rest2 within some b) = absurd (false≢true (sym out ∙ within))
has_all s end cs ls left ms rest (past_leaf c xs ls1 left1 within whole a) (past_beyond d ys ms2 rest2 out b) = absurd (false≢true (sym out ∙ within))
has_all s end cs ls left ms rest (past_leaf c xs ls1 left1 within whole a) (past_leaf d ys ms2 rest2 inside none b) = let few = has_all s end xs ls1 left1 ms2 rest2 a b in omega (arith, few)
has_all s end cs ls left ms rest (past_leaf c xs ls1 left1 within whole a) (past_split d it ys ms2 rest2 inside some b) = absurd (no_split s c it whole some)
has_all s end cs ls left ms rest (past_split c it xs ls1 left1 within some a) (past_beyond d ys ms2 rest2 out b) = absurd (false≢true (sym out ∙ within))
has_all s end cs ls left ms rest (past_split c it xs ls1 left1 within some a) (past_leaf d ys ms2 rest2 inside whole b) = absurd (no_split s c it whole some)
has_all s end cs ls left ms rest (past_split c it xs ls1 left1 within some a) (past_split d other ys ms2 rest2 inside there b) =
    has_all s end (children c it xs) ls left ms rest a (subst (λ (x : Split). LeadTo s end (children c x xs) ms rest) (one_split s c it other some there) b)

-- WHAT IS SAID OF LEAVES IS SAID BY THEIR CASES

-- a leaf by its case and how the program ends there
abbrev Pair : Type 0
Pair = Case × Ending

abbrev pair_of : CutValue → Bool → LeafValue → Pair
pair_of at tears leaf = (leaf_case tears at leaf, leaf.ending)

abbrev pair_at : Subject → Case → Pair
pair_at s c = (c, ending_at s (representative c))

pairs_said : (s : Subject) (tears : Bool) (at : CutValue) (leaves : List LeafValue) → All (EndsSo s tears at) leaves
    → map (pair_of at tears) leaves ≡ map (pair_at s) (map (leaf_case tears at) leaves)
pairs_said s tears at [] all = refl
pairs_said s tears at (leaf ∷ leaves) all =
    λ i. (leaf_case tears at leaf, All-head (EndsSo s tears at) leaf leaves all i) ∷ pairs_said s tears at leaves (All-tail (EndsSo s tears at) leaf leaves all) i

-- some of them, by their endings
abbrev some_of : (Ending → Bool) → List LeafValue → List LeafValue
some_of p leaves = filter (λ (leaf : LeafValue). p leaf.ending) leaves

some_pairs : (p : Ending → Bool) (at : CutValue) (tears : Bool) (leaves : List LeafValue) → map (pair_of at tears) (some_of p leaves) ≡ filter (λ (x : Pair). p x.1) (map (pair_of at tears) leaves)
some_pairs p at tears [] = refl
some_pairs p at tears (leaf ∷ leaves) = by (p leaf.ending) (some_pairs p at tears leaves)
  where
    x : Pair
    x = pair_of at tears leaf

    by : (b : Bool) → map (pair_of at tears) (some_of p leaves) ≡ filter (λ (x : Pair). p x.1) (map (pair_of at tears) leaves)
        → map (pair_of at tears) (if b then leaf ∷ some_of p leaves else some_of p leaves)
        ≡ (if b then x ∷ filter (λ (x : Pair). p x.1) (map (pair_of at tears) leaves) else filter (λ (x : Pair). p x.1) (map (pair_of at tears) leaves))
    by true rest = ap (λ xs. x ∷ xs) rest
    by false rest = rest

cases_of_pairs : (at : CutValue) (tears : Bool) (leaves : List LeafValue) → map (λ (x : Pair). x.0) (map (pair_of at tears) leaves) ≡ map (leaf_case tears at) leaves
cases_of_pairs at tears [] = refl
cases_of_pairs at tears (leaf ∷ leaves) = ap (λ cs. leaf_case tears at leaf ∷ cs) (cases_of_pairs at tears leaves)

endings_of_pairs : (at : CutValue) (tears : Bool) (leaves : List LeafValue) → map (λ (x : Pair). x.1) (map (pair_of at tears) leaves) ≡ map ending_in leaves
endings_of_pairs at tears [] = refl
endings_of_pairs at tears (leaf ∷ leaves) = ap (λ (es : List Ending). leaf.ending ∷ es) (endings_of_pairs at tears leaves)

-- leaves with the same cases and endings
abbrev SamePairs : CutValue → Bool → List LeafValue → List LeafValue → Type 0
SamePairs at tears leaves others = map (pair_of at tears) leaves ≡ map (pair_of at tears) others

same_some : (p : Ending → Bool) (at : CutValue) (tears : Bool) (leaves others : List LeafValue) → SamePairs at tears leaves others → SamePairs at tears (some_of p leaves) (some_of p others)
same_some p at tears leaves others same = some_pairs p at tears leaves ∙ ap (filter (λ (x : Pair). p x.1)) same ∙ sym (some_pairs p at tears others)

same_cases : (at : CutValue) (tears : Bool) (leaves others : List LeafValue) → SamePairs at tears leaves others → map (leaf_case tears at) leaves ≡ map (leaf_case tears at) others
same_cases at tears leaves others same = sym (cases_of_pairs at tears leaves) ∙ ap (map (λ (x : Pair). x.0)) same ∙ cases_of_pairs at tears others

same_endings : (at : CutValue) (tears : Bool) (leaves others : List LeafValue) → SamePairs at tears leaves others → map ending_in leaves ≡ map ending_in others
same_endings at tears leaves others same = sym (endings_of_pairs at tears leaves) ∙ ap (map (λ (x : Pair). x.1)) same ∙ endings_of_pairs at tears others

same_length : (at : CutValue) (tears : Bool) (leaves others : List LeafValue) → SamePairs at tears leaves others → length leaves ≡ length others
same_length at tears leaves others same =
    sym (length-map leaves (pair_of at tears)) ∙ ap (λ (xs : List Pair). length xs) same ∙ length-map others (pair_of at tears)

-- whether a search is to stop
abbrev ends_told_failing : Ending → Bool
ends_told_failing e = not (is_open e) && fails e

any_by_endings : (leaves : List LeafValue) → list_any is_told_failing leaves ≡ list_any ends_told_failing (map ending_in leaves)
any_by_endings [] = refl
any_by_endings (leaf ∷ leaves) = ap (λ b. ends_told_failing leaf.ending || b) (any_by_endings leaves)

same_stop : (stops : Stops) (at : CutValue) (tears : Bool) (leaves others : List LeafValue) → SamePairs at tears leaves others → has_stopped stops leaves ≡ has_stopped stops others
same_stop stops at tears leaves others same =
    let any = any_by_endings leaves ∙ ap (list_any ends_told_failing) (same_endings at tears leaves others same) ∙ sym (any_by_endings others) in
    let long = same_length at tears leaves others same in
    λ i. (stops.at_failing && any i) || option_map_or (λ n. nat_le n (long i)) stops.cases false

-- THE LEAVES OF A CUT

-- the first of some leaves
taken_pairs : (at : CutValue) (tears : Bool) (n : ℕ) (leaves : List LeafValue) → map (pair_of at tears) (take n leaves) ≡ take n (map (pair_of at tears) leaves)
taken_pairs at tears zero leaves = refl
taken_pairs at tears (suc n) [] = refl
taken_pairs at tears (suc n) (leaf ∷ leaves) = ap (λ (xs : List Pair). pair_of at tears leaf ∷ xs) (taken_pairs at tears n leaves)

take_front : {A : Type 0} (xs ys : List A) → take (length xs) (xs ++ ys) ≡ xs
take_front [] ys = refl
take_front (x ∷ xs) ys = ap (λ zs. x ∷ zs) (take_front xs ys)

pairs_more : (s : Subject) (cs ds : List Case) → map (pair_at s) (cs ++ ds) ≡ map (pair_at s) cs ++ map (pair_at s) ds
pairs_more s [] ds = refl
pairs_more s (c ∷ cs) ds = ap (λ (xs : List Pair). pair_at s c ∷ xs) (pairs_more s cs ds)

-- of two searches that came to some leaves one came to those of the other first
begins_so : (asked : Losses) (at : CutValue) (records : RecordsValue) (stops : Stops) (leaves others : List LeafValue) (left rest waiting more : List Case)
    → Reached asked at records stops leaves left waiting → Reached asked at records stops others rest more → length leaves ≤ length others
    → SamePairs at asked.tears leaves (take (length leaves) others)
begins_so asked at records stops leaves others left rest waiting more a b few =
    let s = subject_at asked at records in
    let F : LeafValue → Case = leaf_case asked.tears at in
    let long = length-map leaves F in
    let others_long = length-map others F in
    let on = longer (map F leaves) (map F others) (omega (arith, few, long, others_long)) (goes_on s waiting more (whole_case asked.tears ∷ []) (map F leaves) left (map F others) rest a.leads b.leads) in
    let here : map (pair_of at asked.tears) leaves ≡ map (pair_at s) (map F leaves) = pairs_said s asked.tears at leaves a.endings in
    let there : map (pair_of at asked.tears) others ≡ map (pair_of at asked.tears) leaves ++ map (pair_at s) on.0 =
    pairs_said s asked.tears at others b.endings ∙ ap (map (pair_at s)) on.1 ∙ pairs_more s (map F leaves) on.0 ∙ ap (λ (xs : List Pair). xs ++ map (pair_at s) on.0) (sym here) in
    sym (
    taken_pairs at asked.tears (length leaves) others ∙ ap (take (length leaves)) there
    ∙ ap (λ n. take n (map (pair_of at asked.tears) leaves ++ map (pair_at s) on.0)) (sym (length-map leaves (pair_of at asked.tears)))
    ∙ take_front (map (pair_of at asked.tears) leaves) (map (pair_at s) on.0)
    )

-- where a search ended no other comes to more leaves
no_longer : (asked : Losses) (at : CutValue) (records : RecordsValue) (stops : Stops) (leaves others : List LeafValue) (left rest waiting more : List Case)
    → Reached asked at records stops leaves left waiting → (waiting ≡ []) ⊎ (has_stopped stops leaves ≡ true) → Reached asked at records stops others rest more → length others ≤ length leaves
no_longer asked at records stops leaves others left rest waiting more a (inl none) b =
    let s = subject_at asked at records in
    let F : LeafValue → Case = leaf_case asked.tears at in
    let long = length-map leaves F in
    let others_long = length-map others F in
    let few = has_all s more (whole_case asked.tears ∷ []) (map F leaves) left (map F others) rest
    (subst (λ (cs : List Case). LeadTo s cs (whole_case asked.tears ∷ []) (map F leaves) left) none a.leads) b.leads in
    omega (arith, few, long, others_long)
no_longer asked at records stops leaves others left rest waiting more a (inr stop) b = elim (cases_lt (length leaves) (length others)) [
  | inl less ↦
      let same = begins_so asked at records stops leaves others left rest waiting more a b (omega (arith, less)) in
      absurd (false≢true (sym (b.on (length leaves) less) ∙ sym (same_stop stops at asked.tears leaves (take (length leaves) others) same) ∙ stop))
  | inr few ↦ few
]

take_all : (leaves : List LeafValue) (n : ℕ) → length leaves ≡ n → take n leaves ≡ leaves
take_all [] zero long = refl
take_all [] (suc n) long = refl
take_all (x ∷ leaves) zero long = absurd (omega (arith, long))
take_all (x ∷ leaves) (suc n) long = ap (λ (ls : List LeafValue). x ∷ ls) (take_all leaves n (omega (arith, long)))

-- the leaves that were found are the same
same_leaves : (asked : Losses) (at : CutValue) (records : RecordsValue) (stops : Stops) (found other : KnownAt) → (a : IsKnownAt asked at records stops found) → (b : IsKnownAt asked at records stops other)
    → SamePairs at asked.tears a.leaves b.leaves
same_leaves asked at records stops found other a b =
    let low = no_longer asked at records stops b.leaves a.leaves b.left a.left b.waiting a.waiting b.reached b.ended a.reached in
    let high = no_longer asked at records stops a.leaves b.leaves a.left b.left a.waiting b.waiting a.reached a.ended b.reached in
    let long : length b.leaves ≡ length a.leaves = omega (arith, low, high) in
    begins_so asked at records stops a.leaves b.leaves a.left b.left a.waiting b.waiting a.reached b.reached low
    ∙ ap (map (pair_of at asked.tears)) (take_all b.leaves (length a.leaves) long)

-- WHAT WAS LEFT OUT, AND WHAT IS WAITING

last_of_both : (front others : List Case) (last end : Case) → front ++ last ∷ [] ≡ others ++ end ∷ [] → length front ≡ length others
last_of_both front others last end same =
    let long = ap (λ (cs : List Case). length cs) same in
    let here = length-append front (last ∷ []) in
    let there = length-append others (end ∷ []) in
    omega (arith, long, here, there)

tail_same : (c d : Case) (cs ds : List Case) → ◌≡◌ {A = List Case} (c ∷ cs) (d ∷ ds) → cs ≡ ds
tail_same c d cs ds same = let both : ◌≡◌ {A = List Case} (c ∷ cs) (d ∷ ds) = same in cc

-- two that stopped right after the same leaves
meet_right : (s : Subject) (from ls ms left rest waiting more : List Case) → ls ≡ ms → ((ls ≡ []) × (left ≡ []) × (waiting ≡ from)) ⊎ StopsAtLeaf s from ls left waiting
    → ((ms ≡ []) × (rest ≡ []) × (more ≡ from)) ⊎ StopsAtLeaf s from ms rest more → Meet left rest waiting more
meet_right s from ls ms left rest waiting more same (inl (na, la, wa)) (inl (nb, lb, wb)) = (la ∙ sym lb, wa ∙ sym wb)
meet_right s from ls ms left rest waiting more same (inl (na, la, wa)) (inr b) =
    absurd (let long = ap (λ (cs : List Case). length cs) (sym na ∙ same ∙ b.are) in let there = length-append b.front (b.last ∷ []) in omega (arith, long, there))
meet_right s from ls ms left rest waiting more same (inr a) (inl (nb, lb, wb)) =
    absurd (let long = ap (λ (cs : List Case). length cs) (sym nb ∙ sym same ∙ a.are) in let there = length-append a.front (a.last ∷ []) in omega (arith, long, there))
meet_right s from ls ms left rest waiting more same (inr a) (inr b) =
    let both = meet s (a.last ∷ waiting) (b.last ∷ more) from a.front left b.front rest
    (inr (record { leaf = a.last; rest = waiting; is = refl; within = a.within; whole = a.whole })) (inr (record { leaf = b.last; rest = more; is = refl; within = b.within; whole = b.whole }))
    (last_of_both a.front b.front a.last b.last (sym a.are ∙ same ∙ b.are)) a.leads b.leads in
    (both.0, tail_same a.last b.last waiting more both.1)

same_rest : (asked : Losses) (at : CutValue) (records : RecordsValue) (stops : Stops) (found other : KnownAt) → (a : IsKnownAt asked at records stops found) → (b : IsKnownAt asked at records stops other)
    → Meet a.left b.left a.waiting b.waiting
same_rest asked at records stops found other a b = by (has_stopped stops a.leaves) refl
  where
    s : Subject
    s = subject_at asked at records

    F : LeafValue → Case
    F = leaf_case asked.tears at

    pairs : SamePairs at asked.tears a.leaves b.leaves
    pairs = same_leaves asked at records stops found other a b

    cases : map F a.leaves ≡ map F b.leaves
    cases = same_cases at asked.tears a.leaves b.leaves pairs

    stop_same : has_stopped stops a.leaves ≡ has_stopped stops b.leaves
    stop_same = same_stop stops at asked.tears a.leaves b.leaves pairs

    none_waits : (leaves : List LeafValue) (waiting : List Case) → (waiting ≡ []) ⊎ (has_stopped stops leaves ≡ true) → has_stopped stops leaves ≡ false → waiting ≡ []
    none_waits leaves waiting (inl none) going = none
    none_waits leaves waiting (inr stop) going = absurd (false≢true (sym going ∙ stop))

    by : (t : Bool) → has_stopped stops a.leaves ≡ t → Meet a.left b.left a.waiting b.waiting
    by true stop =
        meet_right s (whole_case asked.tears ∷ []) (map F a.leaves) (map F b.leaves) a.left b.left a.waiting b.waiting cases (a.right stop) (b.right (sym stop_same ∙ stop))
    by false going =
        meet s a.waiting b.waiting (whole_case asked.tears ∷ []) (map F a.leaves) a.left (map F b.leaves) b.left (inl (none_waits a.leaves a.waiting a.ended going))
        (inl (none_waits b.leaves b.waiting b.ended (sym stop_same ∙ going))) (ap (λ (cs : List Case). length cs) cases) a.reached.leads b.reached.leads

-- WHAT IS FOUND

-- how a program ended is said by how the machine says it
abbrev end_by : Ending → RunEnd
end_by (Verdict answer codes) = ended.Answer answer
end_by (Stopped cause slot) = ended.OutOfTime
end_by OutOfSteps = ended.OutOfTime
end_by (Stray signal) = ended.Signal signal

end_back : (e : RunEnd) → end_by (ending_of e) ≡ e
end_back (ended.Answer answer) = refl
end_back (ended.Signal signal) = refl
end_back ended.OutOfTime = refl

-- a failing leaf, as one of a run
abbrev of_known : KnownCase → FailingCaseValue
of_known k = record { number = k.number; end = end_by k.ending; is = k.is }

failing_said : (at : CutValue) (tears : Bool) (items : List KnownFailing) → map (failing_case_value at tears) items ≡ map of_known (map (known_value at tears) (map failing_value items))
failing_said at tears [] = refl
failing_said at tears (f ∷ items) =
    λ i. record { number = f.number; end = sym (end_back f.end) i; is = case_of tears (parts_of at) f.sets.items } ∷ failing_said at tears items i

open_said : (at : CutValue) (tears : Bool) (items : List OpenCase) → map (open_case at tears) items ≡ map (case_of tears (parts_of at)) (map open_sets items)
open_said at tears [] = refl
open_said at tears (o ∷ items) = ap (λ (cs : List Case). open_case at tears o ∷ cs) (open_said at tears items)

open_leaves : (at : CutValue) (tears : Bool) (leaves : List LeafValue) → map (case_of tears (parts_of at)) (map sets_of_leaf leaves) ≡ map (leaf_case tears at) leaves
open_leaves at tears [] = refl
open_leaves at tears (leaf ∷ leaves) = ap (λ (cs : List Case). leaf_case tears at leaf ∷ cs) (open_leaves at tears leaves)

same_known : (asked : Losses) (at : CutValue) (records : RecordsValue) (stops : Stops) (found other : KnownAt) → IsKnownAt asked at records stops found → IsKnownAt asked at records stops other
    → SameKnown at asked.tears found other
same_known asked at records stops found other a b = record {
  cut = a.cut ∙ sym b.cut;
  told = a.told ∙ same_length at asked.tears (told_of a.leaves) (told_of b.leaves) told ∙ sym b.told;
  failing = failing found a ∙ (λ i. map of_known (known_from 0 (same_cases at asked.tears (told_of a.leaves) (told_of b.leaves) told i) (same_endings at asked.tears (told_of a.leaves) (told_of b.leaves) told i)))
      ∙ sym (failing other b);
  are_open = opened found a ∙ same_cases at asked.tears (open_of a.leaves) (open_of b.leaves) (same_some is_open at asked.tears a.leaves b.leaves pairs) ∙ sym (opened other b);
  torn = a.torn ∙ ap (λ (cs : List Case). plus 0 (count_by (is_torn_beyond s) cs)) rest.0 ∙ sym b.torn;
  lost = a.lost ∙ ap (λ (cs : List Case). plus 0 (count_by (λ c. not (is_torn_beyond s c)) cs)) rest.0 ∙ sym b.lost;
  stopped = a.stopped ∙ ap (λ (cs : List Case). not (length cs == 0)) rest.1 ∙ sym b.stopped;
}
  where
    s : Subject
    s = subject_at asked at records

    pairs : SamePairs at asked.tears a.leaves b.leaves
    pairs = same_leaves asked at records stops found other a b

    rest : Meet a.left b.left a.waiting b.waiting
    rest = same_rest asked at records stops found other a b

    told : SamePairs at asked.tears (told_of a.leaves) (told_of b.leaves)
    told = same_some (λ e. not (is_open e)) at asked.tears a.leaves b.leaves pairs

    failing : (f : KnownAt) → (is : IsKnownAt asked at records stops f)
        → map (failing_case_value at asked.tears) f.failing.items ≡ map of_known (known_from 0 (map (leaf_case asked.tears at) (told_of is.leaves)) (map ending_in (told_of is.leaves)))
    failing f is =
        failing_said at asked.tears f.failing.items ∙ ap (λ (fs : List FailingValue). map of_known (map (known_value at asked.tears) fs)) is.failing
        ∙ ap (map of_known) (known_all at asked.tears 0 (told_of is.leaves))

    opened : (f : KnownAt) → (is : IsKnownAt asked at records stops f) → map (open_case at asked.tears) f.open_cases.items ≡ map (leaf_case asked.tears at) (open_of is.leaves)
    opened f is = open_said at asked.tears f.open_cases.items ∙ ap (map (case_of asked.tears (parts_of at))) is.are_open ∙ open_leaves at asked.tears (open_of is.leaves)

-- as many cases are found as there are leaves
count_found : (asked : Losses) (at : CutValue) (records : RecordsValue) (stops : Stops) (found : KnownAt) → (is : IsKnownAt asked at records stops found) → cases_at found ≡ length is.leaves
count_found asked at records stops found is =
    let told = is.told in
    let opened : length found.open_cases.items ≡ length (open_of is.leaves) =
    sym (length-map found.open_cases.items open_sets) ∙ ap (λ (xs : List (List ℕ)). length xs) is.are_open ∙ length-map (open_of is.leaves) sets_of_leaf in
    let all = told_and_open is.leaves in
    omega (arith, told, opened, all)

more_found : (asked : Losses) (at : CutValue) (records : RecordsValue) (stops : Stops) (found : KnownAt) (most : ℕ) → IsKnownAt asked at records stops found → IsPast asked at records stops most
    → most < cases_at found
more_found asked at records stops found most is past =
    let few = no_longer asked at records stops is.leaves past.leaves is.left past.left is.waiting past.waiting is.reached is.ended past.reached in
    let many = past.past in
    let count = count_found asked at records stops found is in
    omega (arith, few, many, count)

-- RECORDS THAT SAY THE SAME

abbrev said_image : LogValue → By → RunValue → List (List ℕ)
said_image log way x = image_of (record { log = log; way = way; cut = x.cut }) (case_of true (parts_of (record { log = log; way = way; cut = x.cut })) x.sets)

-- which record tells an image is said by what they say
unfoldable said_tells : LogValue → By → ℕ → List (List ℕ) → RunValue → Bool
said_tells log way marks device x = (x.marks == marks) && agree (said_image log way x) device x.looked

tells_said : (log : LogValue) (way : By) (marks : ℕ) (device : List (List ℕ)) (r : KnownRun) → tells log way marks device r ≡ said_tells log way marks device (run_value r)
unfolding tells said_tells
tells_said log way marks device r = refl

abbrev said_ending : Option RunValue → Ending
said_ending None = open_ending
said_ending (Some x) = ending_of x.end

abbrev said_looks : Option RunValue → List ℕ
said_looks None = []
said_looks (Some x) = x.looked

first_said : (log : LogValue) (way : By) (marks : ℕ) (device : List (List ℕ)) (runs : List KnownRun)
    → option_map run_value (first_telling log way marks device runs) ≡ find (said_tells log way marks device) (map run_value runs)
first_said log way marks device [] = refl
first_said log way marks device (r ∷ runs) = by (tells log way marks device r) (said_tells log way marks device (run_value r)) (tells_said log way marks device r) (first_said log way marks device runs)
  where
    by : (b c : Bool) → b ≡ c → option_map run_value (first_telling log way marks device runs) ≡ find (said_tells log way marks device) (map run_value runs)
        → option_map run_value (if b then Some r else first_telling log way marks device runs) ≡ (if c then Some (run_value r) else find (said_tells log way marks device) (map run_value runs))
    by true true same rest = refl
    by false false same rest = rest
    by true false same rest = absurd (false≢true (sym same))
    by false true same rest = absurd (false≢true same)

ending_said : (o : Option KnownRun) → told_ending o ≡ said_ending (option_map run_value o)
ending_said None = refl
ending_said (Some r) = refl

looks_said : (o : Option KnownRun) → told_looks o ≡ said_looks (option_map run_value o)
looks_said None = refl
looks_said (Some r) = refl

-- so they are one program
abbrev said_program : LogValue → By → List RunValue → ℕ → Program
said_program log way said marks = record {
  ending = λ device. said_ending (find (said_tells log way marks device) said);
  footprint = λ device. said_looks (find (said_tells log way marks device) said);
}

program_said : (v : RecordsValue) (marks : ℕ) → program_of v marks ≡ said_program v.log v.way (map run_value v.runs) marks
program_said v marks = λ i. record {
  ending = λ device. (ending_said (first_telling v.log v.way marks device v.runs) ∙ ap said_ending (first_said v.log v.way marks device v.runs)) i;
  footprint = λ device. (looks_said (first_telling v.log v.way marks device v.runs) ∙ ap said_looks (first_said v.log v.way marks device v.runs)) i;
}

same_program : (v w : RecordsValue) (marks : ℕ) → SaySame v w → program_of v marks ≡ program_of w marks
same_program v w marks same = program_said v marks ∙ (λ i. said_program (same.log i) (same.way i) (same.runs i) marks) ∙ sym (program_said w marks)

same_subject : (asked : Losses) (at : CutValue) (v w : RecordsValue) → SaySame v w → subject_at asked at v ≡ subject_at asked at w
same_subject asked at v w same =
    ap (λ (p : Program). record { log = at.log; way = at.way; cut = at.cut; program = p; torn = asked.torn; lost = asked.lost }) (same_program v w (marks_at at.log.entries at.cut) same)

reached_by : (asked : Losses) (at : CutValue) (v w : RecordsValue) (stops : Stops) (leaves : List LeafValue) (left waiting : List Case) → SaySame v w → Reached asked at v stops leaves left waiting
    → Reached asked at w stops leaves left waiting
reached_by asked at v w stops leaves left waiting same h =
    let one = same_subject asked at v w same in
    record {
      leads = subst (λ (s : Subject). LeadTo s waiting (whole_case asked.tears ∷ []) (map (leaf_case asked.tears at) leaves) left) one h.leads;
      endings = subst (λ (s : Subject). All (EndsSo s asked.tears at) leaves) one h.endings;
      on = h.on;
    }

known_by : (asked : Losses) (at : CutValue) (v w : RecordsValue) (stops : Stops) (found : KnownAt) → SaySame v w → IsKnownAt asked at v stops found → IsKnownAt asked at w stops found
known_by asked at v w stops found same h =
    let one = same_subject asked at v w same in
    record {
      leaves = h.leaves;
      left = h.left;
      waiting = h.waiting;
      reached = reached_by asked at v w stops h.leaves h.left h.waiting same h.reached;
      ended = h.ended;
      right = λ stop. subst (λ (s : Subject). StopsRight s (whole_case asked.tears ∷ []) (map (leaf_case asked.tears at) h.leaves) h.left h.waiting) one (h.right stop);
      cut = h.cut;
      told = h.told;
      failing = h.failing;
      are_open = h.are_open;
      torn = h.torn ∙ ap (λ (s : Subject). plus 0 (count_by (is_torn_beyond s) h.left)) one;
      lost = h.lost ∙ ap (λ (s : Subject). plus 0 (count_by (λ c. not (is_torn_beyond s c)) h.left)) one;
      stopped = h.stopped;
    }

-- and contradict each other in the same way
unfoldable said_contradict : LogValue → By → RunValue → RunValue → Bool
said_contradict log way x y = (x.marks == y.marks) && (not (same_end x.end y.end) && agree (said_image log way x) (said_image log way y) (in_both x.looked y.looked))

abbrev said_both : LogValue → By → Option RunValue → Option RunValue → Bool
said_both log way None y = false
said_both log way (Some x) None = false
said_both log way (Some x) (Some y) = said_contradict log way x y

both_said : (log : LogValue) (way : By) (a b : Option KnownRun) → both_contradict log way a b ≡ said_both log way (option_map run_value a) (option_map run_value b)
unfolding contradict said_contradict
both_said log way None b = refl
both_said log way (Some r) None = refl
both_said log way (Some r) (Some t) = refl

at_said : (runs : List KnownRun) (i : ℕ) → option_map run_value (slice_get runs i) ≡ slice_get (map run_value runs) i
at_said [] i = refl
at_said (r ∷ runs) zero = refl
at_said (r ∷ runs) (suc i) = at_said runs i

against_said : (v : RecordsValue) (i j : ℕ) → contradict_at v i j ≡ said_both v.log v.way (slice_get (map run_value v.runs) i) (slice_get (map run_value v.runs) j)
against_said v i j = both_said v.log v.way (slice_get v.runs i) (slice_get v.runs j) ∙ (λ k. said_both v.log v.way (at_said v.runs i k) (at_said v.runs j k))

same_against : (v w : RecordsValue) (i j : ℕ) → SaySame v w → contradict_at v i j ≡ contradict_at w i j
same_against v w i j same = against_said v i j ∙ (λ k. said_both (same.log k) (same.way k) (slice_get (same.runs k) i) (slice_get (same.runs k) j)) ∙ sym (against_said w i j)

pub found_is_one : FoundIsOne
found_is_one = record {
  same = λ asked at records others stops found other say a b. same_known asked at others stops found other (known_by asked at records others stops found say a) b;
  more = λ asked at records others stops found most say is past. more_found asked at others stops found most (known_by asked at records others stops found say is) past;
  against = λ records others i j say. same_against records others i j say;
}

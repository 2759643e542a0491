-- What follows from records that are true.
use Rattle.std.proofs.Common.{ℕ, zero, suc, ◌≡◌, ◌+◌, ◌<◌, ◌==◌, ◌^◌, ◌-◌, min, nat_eq, Bool, true, false, not, ◌&&◌, cond, if◌then◌else◌, List, [], ◌∷◌, ◌++◌, length, map, filter, find, count_by, slice_get, Option, None, Some, refl, sym, subst, ◌∙◌, ap, arith, inl, inr}
use Rattle.std.specs.List.{All}
use Rattle.std.specs.Option.{option_map}
use Rattle.std.specs.Cmp.{first_so, second_so}
use Rattle.std.specs.Cmp.Lexicographic.{pointwise}
use Rattle.std.proofs.lemmas.Bool.{eqb-true}
use Rattle.std.proofs.lemmas.Bool.Decides.{Decides-eqb}
use Rattle.std.proofs.lemmas.Slice.Eq.{slice_eq-Decides}
use Rattle.std.proofs.lemmas.List.{append-nil}
use Rattle.std.proofs.lemmas.List.Elements.{All-get_or}
use Rattle.std.proofs.lemmas.List.Sums.{sum_by-cons}
use Rattle.std.proofs.lemmas.Option.{same_Some, slice_get_within, slice_get-map, get_or_from_slice_get}
use Rattle.machine.specs.Outcome.{fails}
use Rattle.machine.specs.Footprint.{HaveSame}
use Rattle.logfmt.specs.Bounds.{LogValue}
use Rattle.epochs.specs.declared.part.By.{By}
use Rattle.epochs.specs.Units.{marks_at}
use Rattle.cases.specs.Choices.{Choice, image_at}
use Rattle.cases.specs.Cases.{Case, whole_case, with_part, representative}
use Rattle.cases.specs.Trees.{Subject, split_of}
use Rattle.cases.specs.Laws.{Includes, OfNone, OfOne, LeavesLookAlike, IsOfCut, LastCutsHaveAll as EachHasLast}
use Rattle.cases.specs.AtCut.{CutValue, parts_of, case_of}
use Rattle.cases.specs.Search.{LeadTo, are_there, past_beyond, past_leaf, past_split, LeafValue, leaf_case, EndsSo, is_torn_beyond, plus}
use Rattle.cases.proofs.Cuts.{last_of_log}
use Rattle.cases.proofs.Cases.{none_of_both, one_of_first, one_of_second, none_with, here_alone, one_with, first_is, child_is, no_child}
use Rattle.losses.specs.FoundCases.{FailingValue}
use Rattle.case_runs.specs.Leaves.{failing_from}
use Rattle.case_runs.proofs.Failing.{IsLeafAt, failing_leaf}
use Rattle.known.specs.declared.run.KnownRun.{KnownRun}
use Rattle.known.specs.declared.found.KnownAt.{KnownAt}
use Rattle.known.specs.declared.found.OpenCase.{OpenCase}
use Rattle.known.specs.Ends.{is_open}
use Rattle.known.specs.Records.{image_of_run, same_sector, agree, tells, first_telling, told_ending, told_looks}
use Rattle.known.specs.Leaves.{is_told, told_of, open_of, failing_value, open_sets, sets_of_leaf, is_complete}
use Rattle.known.specs.Found.{subject_at}
use Rattle.known.proofs.Meeting.{no_run_is_open}
use Rattle.known.specs.Laws.{truth_at, EachIsInOne, ToldEndSo, NoneTellsOpen, FoundFail, IsInFailing, CompleteHasAll, LastCutsHaveAll}

-- each choice is in one case

leads_none : (s : Subject) (choice : Choice) (to cs ls left : List Case) → LeadTo s to cs ls left → OfNone (Includes choice) cs → OfNone (Includes choice) (ls ++ (left ++ to))
leads_none s choice to cs ls left are_there none = none
leads_none s choice to cs ls left (past_beyond c rest ls2 left2 out more) none = none_with (Includes choice) ls (left2 ++ to) c none.0 (leads_none s choice to rest ls left2 more none.1)
leads_none s choice to cs ls left (past_leaf c rest ls2 left2 within whole more) none = (none.0, leads_none s choice to rest ls2 left more none.1)
leads_none s choice to cs ls left (past_split c it rest ls2 left2 within is more) none =
    let at = first_is s.log s.way s.cut c _ it is in
    leads_none s choice to (map (with_part c it.part) it.groups ++ rest) ls left more
    (none_of_both (Includes choice) (map (with_part c it.part) it.groups) rest (no_child choice c it at none.0) none.1)

leads_one : (s : Subject) (choice : Choice) (to cs ls left : List Case) → LeadTo s to cs ls left → OfOne (Includes choice) cs → OfOne (Includes choice) (ls ++ (left ++ to))
leads_one s choice to cs ls left are_there one = one
leads_one s choice to cs ls left (past_beyond c rest ls2 left2 out more) (inl own) = here_alone (Includes choice) ls (left2 ++ to) c own.0 (leads_none s choice to rest ls left2 more own.1)
leads_one s choice to cs ls left (past_beyond c rest ls2 left2 out more) (inr other) = one_with (Includes choice) ls (left2 ++ to) c other.0 (leads_one s choice to rest ls left2 more other.1)
leads_one s choice to cs ls left (past_leaf c rest ls2 left2 within whole more) (inl own) = inl (own.0, leads_none s choice to rest ls2 left more own.1)
leads_one s choice to cs ls left (past_leaf c rest ls2 left2 within whole more) (inr other) = inr (other.0, leads_one s choice to rest ls2 left more other.1)
leads_one s choice to cs ls left (past_split c it rest ls2 left2 within is more) (inl own) =
    let at = first_is s.log s.way s.cut c _ it is in
    leads_one s choice to (map (with_part c it.part) it.groups ++ rest) ls left more
    (one_of_first (Includes choice) (map (with_part c it.part) it.groups) rest (child_is choice c it at own.0) own.1)
leads_one s choice to cs ls left (past_split c it rest ls2 left2 within is more) (inr other) =
    let at = first_is s.log s.way s.cut c _ it is in
    leads_one s choice to (map (with_part c it.part) it.groups ++ rest) ls left more
    (one_of_second (Includes choice) (map (with_part c it.part) it.groups) rest (no_child choice c it at other.0) other.1)

-- each leaf is told or open

parted_none : (P : Case → Type 0) (F : LeafValue → Case) (leaves : List LeafValue) (rest : List Case) → OfNone P (map F leaves ++ rest) → OfNone P (map F (told_of leaves) ++ (map F (open_of leaves) ++ rest))
parted_none P F [] rest none = none
parted_none P F (leaf ∷ leaves) rest none = by (is_open leaf.ending) (parted_none P F leaves rest none.1)
  where
    by : (b : Bool) → OfNone P (map F (told_of leaves) ++ (map F (open_of leaves) ++ rest))
        → OfNone P (map F (if not b then leaf ∷ told_of leaves else told_of leaves) ++ (map F (if b then leaf ∷ open_of leaves else open_of leaves) ++ rest))
    by true own = none_with P (map F (told_of leaves)) (map F (open_of leaves) ++ rest) (F leaf) none.0 own
    by false own = (none.0, own)

parted_one : (P : Case → Type 0) (F : LeafValue → Case) (leaves : List LeafValue) (rest : List Case) → OfOne P (map F leaves ++ rest) → OfOne P (map F (told_of leaves) ++ (map F (open_of leaves) ++ rest))
parted_one P F [] rest one = one
parted_one P F (leaf ∷ leaves) rest (inl own) = by (is_open leaf.ending) (parted_none P F leaves rest own.1)
  where
    by : (b : Bool) → OfNone P (map F (told_of leaves) ++ (map F (open_of leaves) ++ rest))
        → OfOne P (map F (if not b then leaf ∷ told_of leaves else told_of leaves) ++ (map F (if b then leaf ∷ open_of leaves else open_of leaves) ++ rest))
    by true none = here_alone P (map F (told_of leaves)) (map F (open_of leaves) ++ rest) (F leaf) own.0 none
    by false none = inl (own.0, none)
parted_one P F (leaf ∷ leaves) rest (inr other) = by (is_open leaf.ending) (parted_one P F leaves rest other.1)
  where
    by : (b : Bool) → OfOne P (map F (told_of leaves) ++ (map F (open_of leaves) ++ rest))
        → OfOne P (map F (if not b then leaf ∷ told_of leaves else told_of leaves) ++ (map F (if b then leaf ∷ open_of leaves else open_of leaves) ++ rest))
    by true one = one_with P (map F (told_of leaves)) (map F (open_of leaves) ++ rest) (F leaf) other.0 one
    by false one = inr (other.0, one)

pub each_is_in_one : EachIsInOne
each_is_in_one asked at records stops leaves left waiting choice so possible =
    parted_one (Includes choice) (leaf_case asked.tears at) leaves (left ++ waiting)
    (leads_one (subject_at asked at records) choice waiting (whole_case asked.tears ∷ []) (map (leaf_case asked.tears at) leaves) left so.leads (inl (possible, tt)))

-- a leaf of the tree isn't split
leads_whole : (s : Subject) (to cs ls left : List Case) (i : ℕ) (c : Case) → LeadTo s to cs ls left → slice_get ls i ≡ Some c → split_of s c ≡ None
leads_whole s to cs ls left i c are_there there = absurd (let bad : ◌≡◌ {A = Option Case} None (Some c) = there in cc)
leads_whole s to cs ls left i c (past_beyond b rest ls2 left2 out more) there = leads_whole s to rest ls left2 i c more there
leads_whole s to cs ls left zero c (past_leaf b rest ls2 left2 within whole more) there =
    let same : b ≡ c = same_Some b c there in
    let P : Case → Type 0 = λ x. split_of s x ≡ None in
    subst P same whole
leads_whole s to cs ls left (suc i) c (past_leaf b rest ls2 left2 within whole more) there = leads_whole s to rest ls2 left i c more there
leads_whole s to cs ls left i c (past_split b it rest ls2 left2 within is more) there = leads_whole s to (map (with_part b it.part) it.groups ++ rest) ls left i c more there

-- devices that agree have the same sectors

same_if : (one other : Option (List ℕ)) → same_sector one other ≡ true → one ≡ other
same_if None None is = refl
same_if None (Some b) is = absurd (let bad : false ≡ true = is in cc)
same_if (Some a) None is = absurd (let bad : false ≡ true = is in cc)
same_if (Some a) (Some b) is = ap (λ x. Some x) ((slice_eq-Decides Decides-eqb a b (pointwise nat_eq a b) refl).0 is)

agree_same : (device other : List (List ℕ)) (sectors : List ℕ) → agree device other sectors ≡ true → HaveSame device other sectors
agree_same device other [] is = tt
agree_same device other (s ∷ sectors) is = (
  same_if (slice_get device s) (slice_get other s) (first_so (same_sector (slice_get device s) (slice_get other s)) (agree device other sectors) is),
  agree_same device other sectors (second_so (same_sector (slice_get device s) (slice_get other s)) (agree device other sectors) is),
)

same_on : (one two three : List (List ℕ)) (sectors : List ℕ) → HaveSame one two sectors → HaveSame two three sectors → HaveSame one three sectors
same_on one two three [] first second = tt
same_on one two three (s ∷ sectors) first second = (first.0 ∙ second.0, same_on one two three sectors first.1 second.1)

-- the first of a list that does is one of it, and where there is none, none does

record IsOne {A : Type 0} (p : A → Bool) (xs : List A) (x : A) : Type 0 where
  pub place : ℕ
  pub there : slice_get xs place ≡ Some x
  pub does : p x ≡ true

found_one : {A : Type 0} (p : A → Bool) (xs : List A) (x : A) → find p xs ≡ Some x → IsOne p xs x
found_one p [] x is = absurd (let bad : None ≡ Some x = is in cc)
found_one p (y ∷ xs) x is = by (λ here. found_one p xs x here) (p y) refl is
  where
    by : (find p xs ≡ Some x → IsOne p xs x) → (b : Bool) → p y ≡ b → cond b (Some y) (find p xs) ≡ Some x → IsOne p (y ∷ xs) x
    by again true own here = let same : y ≡ x = same_Some y x here in record { place = 0; there = ap (λ z. Some z) same; does = ap p (sym same) ∙ own }
    by again false own here = let rest = again here in record { place = suc rest.place; there = rest.there; does = rest.does }

pub found_none : {A : Type 0} (p : A → Bool) (xs : List A) (i : ℕ) (x : A) → find p xs ≡ None → slice_get xs i ≡ Some x → p x ≡ false
found_none p [] i x none there = absurd (let bad : None ≡ Some x = there in cc)
found_none p (y ∷ xs) i x none there = by (λ rest j at. found_none p xs j x rest at) (p y) refl none i there
  where
    by : (find p xs ≡ None → (j : ℕ) → slice_get xs j ≡ Some x → p x ≡ false) → (b : Bool) → p y ≡ b → cond b (Some y) (find p xs) ≡ None → (j : ℕ) → slice_get (y ∷ xs) j ≡ Some x → p x ≡ false
    by again true own here j at = absurd (let bad : Some y ≡ None = here in cc)
    by again false own here zero at = ap p (sym (same_Some y x at)) ∙ own
    by again false own here (suc j) at = again here j at

-- a record that tells says what the program does

tells_marks : (log : LogValue) (way : By) (marks : ℕ) (device : List (List ℕ)) (r : KnownRun) → tells log way marks device r ≡ true → r.marks ≡ marks
unfolding tells
tells_marks log way marks device r is = eqb-true r.marks marks (first_so (r.marks == marks) (agree (image_of_run log way r) device r.looked.items) is)

tells_same : (log : LogValue) (way : By) (marks : ℕ) (device : List (List ℕ)) (r : KnownRun) → tells log way marks device r ≡ true → HaveSame (image_of_run log way r) device r.looked.items
unfolding tells
tells_same log way marks device r is =
    agree_same (image_of_run log way r) device r.looked.items (second_so (r.marks == marks) (agree (image_of_run log way r) device r.looked.items) is)

pub leaf_ends : (s : Subject) (tears : Bool) (at : CutValue) (leaves : List LeafValue) (i : ℕ) (leaf : LeafValue) → All (EndsSo s tears at) leaves → slice_get leaves i ≡ Some leaf → EndsSo s tears at leaf
leaf_ends s tears at leaves i leaf all there =
    subst (EndsSo s tears at) (get_or_from_slice_get leaves i leaf leaf there) (All-get_or (EndsSo s tears at) leaves i leaf (slice_get_within leaves i leaf there) all)

pub told_end_so : LeavesLookAlike → ToldEndSo
told_end_so alike asked at records stops leaves left waiting truth i leaf choice within true_of so there told includes = by (first_telling records.log records.way marks shown records.runs) refl
  where
    s : Subject
    s = subject_at asked at records

    c : Case
    c = leaf_case asked.tears at leaf

    marks : ℕ
    marks = marks_at at.log.entries at.cut

    shown : List (List ℕ)
    shown = image_at at.log at.way at.cut (representative c)

    own : List (List ℕ)
    own = image_at at.log at.way at.cut choice

    here : slice_get (map (leaf_case asked.tears at) leaves) i ≡ Some c
    here = slice_get-map (leaf_case asked.tears at) leaves i ∙ ap (option_map (leaf_case asked.tears at)) there

    whole : split_of s c ≡ None
    whole = leads_whole s waiting (whole_case asked.tears ∷ []) (map (leaf_case asked.tears at) leaves) left i c so.leads here

    same : HaveSame shown own (told_looks (first_telling records.log records.way marks shown records.runs))
    same = alike s c choice within whole includes

    ends : leaf.ending ≡ told_ending (first_telling records.log records.way marks shown records.runs)
    ends = leaf_ends s asked.tears at leaves i leaf so.endings there

    by : (o : Option KnownRun) → first_telling records.log records.way marks shown records.runs ≡ o → truth_at truth at choice ≡ leaf.ending
    by None is = absurd (let bad : true ≡ false = sym told ∙ ap (λ e. not (is_open e)) (ends ∙ ap told_ending is) in cc)
    by (Some r) is =
        let one = found_one (tells records.log records.way marks shown) records.runs r is in
        let after : r.marks ≡ marks = tells_marks records.log records.way marks shown r one.does in
        let both : HaveSame (image_of_run records.log records.way r) own r.looked.items =
        same_on (image_of_run records.log records.way r) shown own r.looked.items (tells_same records.log records.way marks shown r one.does)
        (subst (λ (o : Option KnownRun). HaveSame shown own (told_looks o)) is same) in
        ap (λ m. truth m own) (sym after) ∙ true_of one.place r one.there at.cut choice within (sym after) both ∙ sym (ends ∙ ap told_ending is)

pub none_tells_open : NoneTellsOpen
none_tells_open asked at records stops leaves left waiting i j leaf r so there open_leaf run = by (first_telling records.log records.way marks shown records.runs) refl
  where
    marks : ℕ
    marks = marks_at at.log.entries at.cut

    shown : List (List ℕ)
    shown = image_at at.log at.way at.cut (representative (leaf_case asked.tears at leaf))

    ends : leaf.ending ≡ told_ending (first_telling records.log records.way marks shown records.runs)
    ends = leaf_ends (subject_at asked at records) asked.tears at leaves i leaf so.endings there

    by : (o : Option KnownRun) → first_telling records.log records.way marks shown records.runs ≡ o → tells records.log records.way marks shown r ≡ false
    by None is = found_none (tells records.log records.way marks shown) records.runs j r is run
    by (Some t) is =
        absurd (let bad : false ≡ true = sym open_leaf ∙ ap (λ e. not (is_open e)) (ends ∙ ap told_ending is) ∙ ap not (no_run_is_open t.end) in cc)

-- failing leaves, by what is kept of them

kept_one : {A : Type 0} (p : A → Bool) (xs : List A) (i : ℕ) (x : A) → slice_get (filter p xs) i ≡ Some x → IsOne p xs x
kept_one p [] i x there = absurd (let bad : None ≡ Some x = there in cc)
kept_one p (y ∷ xs) i x there = by (λ j at. kept_one p xs j x at) (p y) refl i there
  where
    later : IsOne p xs x → IsOne p (y ∷ xs) x
    later it = record { place = suc it.place; there = it.there; does = it.does }

    by : ((j : ℕ) → slice_get (filter p xs) j ≡ Some x → IsOne p xs x) → (b : Bool) → p y ≡ b → (j : ℕ) → slice_get (if b then y ∷ filter p xs else filter p xs) j ≡ Some x → IsOne p (y ∷ xs) x
    by again true own zero at = let same : y ≡ x = same_Some y x at in record { place = 0; there = at; does = ap p (sym same) ∙ own }
    by again true own (suc j) at = later (again j at)
    by again false own j at = later (again j at)

pub found_fail : LeavesLookAlike → FoundFail
found_fail alike asked at records stops found truth n f choice within true_of is there includes =
    let leaf : IsLeafAt (told_of is.leaves) (failing_value f) =
    failing_leaf 0 (told_of is.leaves) n (failing_value f)
    (sym (ap (λ (fs : List FailingValue). slice_get fs n) is.failing) ∙ slice_get-map failing_value found.failing.items n ∙ ap (option_map failing_value) there) in
    let one = kept_one is_told is.leaves leaf.place leaf.leaf leaf.there in
    let ends : truth_at truth at choice ≡ leaf.leaf.ending =
    told_end_so alike asked at records stops is.leaves is.left is.waiting truth one.place leaf.leaf choice within true_of is.reached one.there one.does
    (subst (λ (sets : List ℕ). Includes choice (case_of asked.tears (parts_of at) sets)) leaf.sets includes) in
    (ends ∙ sym leaf.ending, ap fails leaf.ending ∙ leaf.failed)

-- a leaf that fails is among those that are kept

record IsKept (failing : List FailingValue) (leaf : LeafValue) : Type 0 where
  pub place : ℕ
  pub value : FailingValue
  pub there : slice_get failing place ≡ Some value
  pub sets : value.sets ≡ leaf.sets
  pub ending : value.ending ≡ leaf.ending

leaf_kept : (n : ℕ) (leaves : List LeafValue) (i : ℕ) (leaf : LeafValue) → slice_get leaves i ≡ Some leaf → fails leaf.ending ≡ true → IsKept (failing_from n leaves) leaf
leaf_kept n [] i leaf there failed = absurd (let bad : ◌≡◌ {A = Option LeafValue} None (Some leaf) = there in cc)
leaf_kept n (l ∷ leaves) zero leaf there failed =
    let same : l ≡ leaf = same_Some l leaf there in
    here (fails l.ending) (ap (λ (x : LeafValue). fails x.ending) same ∙ failed) same
  where
    here : (b : Bool) → b ≡ true → l ≡ leaf → IsKept ((if b then record { number = n; ending = l.ending; sets = l.sets } ∷ [] else []) ++ failing_from (n + 1) leaves) leaf
    here true is same = record {
      place = 0;
      value = record { number = n; ending = l.ending; sets = l.sets };
      there = refl;
      sets = ap (λ (x : LeafValue). x.sets) same;
      ending = ap (λ (x : LeafValue). x.ending) same;
    }
    here false is same = absurd (let bad : false ≡ true = is in cc)
leaf_kept n (l ∷ leaves) (suc i) leaf there failed = later (fails l.ending) (leaf_kept (n + 1) leaves i leaf there failed)
  where
    later : (b : Bool) → IsKept (failing_from (n + 1) leaves) leaf → IsKept ((if b then record { number = n; ending = l.ending; sets = l.sets } ∷ [] else []) ++ failing_from (n + 1) leaves) leaf
    later true it = record { place = suc it.place; value = it.value; there = it.there; sets = it.sets; ending = it.ending }
    later false it = it

record IsOf {A B : Type 0} (f : A → B) (xs : List A) (i : ℕ) (y : B) : Type 0 where
  pub it : A
  pub there : slice_get xs i ≡ Some it
  pub is : f it ≡ y

mapped_one : {A B : Type 0} (f : A → B) (xs : List A) (i : ℕ) (y : B) → slice_get (map f xs) i ≡ Some y → IsOf f xs i y
mapped_one f [] i y there = absurd (let bad : None ≡ Some y = there in cc)
mapped_one f (x ∷ xs) zero y there = record { it = x; there = refl; is = same_Some (f x) y there }
mapped_one f (x ∷ xs) (suc i) y there = let rest = mapped_one f xs i y there in record { it = rest.it; there = rest.there; is = rest.is }

-- nothing is open, left out or pending

pub none_mapped : {A B : Type 0} (f : A → B) (xs : List A) → map f xs ≡ [] → xs ≡ []
none_mapped f [] is = refl
none_mapped f (x ∷ xs) is = absurd (let bad : f x ∷ map f xs ≡ [] = is in cc)

none_counted : (n : ℕ) → plus 0 n ≡ 0 → n ≡ 0
none_counted zero is = refl
none_counted (suc n) is = absurd (more (plus 0 n) is)
  where
    more : (m : ℕ) → min (m + 1) (2 ^ 64 - 1) ≡ 0 → ⊥
    more m zero_is = omega (arith, zero_is)

none_left : (p : Case → Bool) (left : List Case) → count_by p left ≡ 0 → count_by (λ c. not (p c)) left ≡ 0 → left ≡ []
none_left p [] one other = refl
none_left p (c ∷ left) one other =
    absurd (by (p c) (count_by p left) (count_by (λ d. not (p d)) left) (sym (sum_by-cons (λ d. if p d then 1 else 0) c left) ∙ one) (sym (sum_by-cons (λ d. if not (p d) then 1 else 0) c left) ∙ other))
  where
    by : (b : Bool) (m n : ℕ) → (if b then 1 else 0) + m ≡ 0 → (if not b then 1 else 0) + n ≡ 0 → ⊥
    by true m n is own = omega (arith, is)
    by false m n is own = omega (arith, own)

none_of : {A : Type 0} (xs : List A) → (length xs == 0) ≡ true → xs ≡ []
none_of [] is = refl
none_of (x ∷ xs) is = absurd (let bad = eqb-true (length (x ∷ xs)) 0 is in omega (arith, bad))

none_pending : (waiting : List Case) → not (length waiting == 0) ≡ false → waiting ≡ []
none_pending waiting is = none_of waiting (ended (length waiting == 0) is)
  where
    ended : (b : Bool) → not b ≡ false → b ≡ true
    ended true h = refl
    ended false h = absurd (let bad : true ≡ false = h in cc)

one_mapped_of : (P : Case → Type 0) (F : LeafValue → Case) (leaves : List LeafValue) → OfOne P (map F leaves) → (i : ℕ) × (leaf : LeafValue) × (slice_get leaves i ≡ Some leaf) × P (F leaf)
one_mapped_of P F [] one = absurd one
one_mapped_of P F (leaf ∷ leaves) (inl own) = (0, leaf, refl, own.0)
one_mapped_of P F (leaf ∷ leaves) (inr other) = let rest = one_mapped_of P F leaves other.1 in (suc rest.0, rest.1, rest.2, rest.3)

-- what a complete cut has none of
record IsWhole (found : KnownAt) : Type 0 where
  pub none_open : found.open_cases.items ≡ []
  pub none_torn : found.torn_beyond ≡ 0
  pub none_lost : found.lost_beyond ≡ 0
  pub all : found.stopped ≡ false

whole_by : (found : KnownAt) → is_complete found ≡ true → IsWhole found
whole_by found is =
    let opened = length found.open_cases.items == 0 in
    let going = not found.stopped in
    let torn = found.torn_beyond == 0 in
    let lost = found.lost_beyond == 0 in
    let rest = second_so opened (going && (torn && lost)) is in
    let last = second_so going (torn && lost) rest in
    record {
      none_open = none_of found.open_cases.items (first_so opened (going && (torn && lost)) is);
      none_torn = eqb-true found.torn_beyond 0 (first_so torn lost last);
      none_lost = eqb-true found.lost_beyond 0 (second_so torn lost last);
      all = going_on found.stopped (first_so going (torn && lost) rest);
    }
  where
    going_on : (b : Bool) → not b ≡ true → b ≡ false
    going_on true h = absurd (let bad : false ≡ true = h in cc)
    going_on false h = refl

pub complete_has_all : LeavesLookAlike → CompleteHasAll
complete_has_all alike asked at records stops found truth choice within true_of is whole possible failed = record {
  number = kept.place;
  own = own.it;
  there = own.there;
  includes = subst (λ (sets : List ℕ). Includes choice (case_of asked.tears (parts_of at) sets)) (sym (ap (λ (v : FailingValue). v.sets) own.is ∙ kept.sets)) leaf.3;
  ends = ends ∙ sym (ap (λ (v : FailingValue). v.ending) own.is ∙ kept.ending);
}
  where
    complete : IsWhole found
    complete = whole_by found whole

    F : LeafValue → Case
    F = leaf_case asked.tears at

    s : Subject
    s = subject_at asked at records

    none_open : open_of is.leaves ≡ []
    none_open = none_mapped sets_of_leaf (open_of is.leaves) (sym is.are_open ∙ ap (λ (os : List OpenCase). map open_sets os) complete.none_open)

    left_none : is.left ≡ []
    left_none =
        none_left (is_torn_beyond s) is.left (none_counted (count_by (is_torn_beyond s) is.left) (sym is.torn ∙ complete.none_torn))
        (none_counted (count_by (λ c. not (is_torn_beyond s c)) is.left) (sym is.lost ∙ complete.none_lost))

    pending_none : is.waiting ≡ []
    pending_none = none_pending is.waiting (sym is.stopped ∙ complete.all)

    all : OfOne (Includes choice) (map F (told_of is.leaves) ++ (map F (open_of is.leaves) ++ (is.left ++ is.waiting)))
    all = each_is_in_one asked at records stops is.leaves is.left is.waiting choice is.reached possible

    told : OfOne (Includes choice) (map F (told_of is.leaves))
    told =
        subst (λ (cs : List Case). OfOne (Includes choice) cs) (append-nil (map F (told_of is.leaves)))
        (subst (λ (cs : List Case). OfOne (Includes choice) (map F (told_of is.leaves) ++ cs)) (λ i. map F (none_open i) ++ (left_none i ++ pending_none i)) all)

    leaf : (i : ℕ) × (leaf : LeafValue) × (slice_get (told_of is.leaves) i ≡ Some leaf) × Includes choice (F leaf)
    leaf = one_mapped_of (Includes choice) F (told_of is.leaves) told

    one : IsOne is_told is.leaves leaf.1
    one = kept_one is_told is.leaves leaf.0 leaf.1 leaf.2

    ends : truth_at truth at choice ≡ leaf.1.ending
    ends = told_end_so alike asked at records stops is.leaves is.left is.waiting truth one.place leaf.1 choice within true_of is.reached one.there one.does leaf.3

    kept : IsKept (failing_from 0 (told_of is.leaves)) leaf.1
    kept = leaf_kept 0 (told_of is.leaves) leaf.0 leaf.1 leaf.2 (sym (ap fails ends) ∙ failed)

    own : IsOf failing_value found.failing.items kept.place kept.value
    own = mapped_one failing_value found.failing.items kept.place kept.value (ap (λ (fs : List FailingValue). slice_get fs kept.place) is.failing ∙ kept.there)

pub has_one : {A : Type 0} (xs : List A) (i : ℕ) → i < length xs → (x : A) × (slice_get xs i ≡ Some x)
has_one [] i lt = absurd (omega (arith, lt))
has_one (x ∷ xs) zero lt = (x, refl)
has_one (x ∷ xs) (suc i) lt = has_one xs i (omega (arith, lt))

pub last_cuts_have_all : LeavesLookAlike → EachHasLast → LastCutsHaveAll
last_cuts_have_all alike each asked log way cuts records stops found truth cut choice is_log true_of are cuts_has complete within possible failed = record {
  place = here.0;
  last = last.0;
  own = here.1;
  at_last = f.0;
  there = f.1;
  other = last.1.other;
  image = last.1.image;
  in_leaf = record { number = own.number; own = own.own; there = own.there; includes = own.includes; ends = sym same ∙ own.ends };
}
  where
    last : (k : ℕ) × IsOfCut log way asked.tears cut (length log.entries) k choice
    last = each log way asked.tears cut (length log.entries) choice is_log within (omega arith) possible

    at : CutValue
    at = record { log = log; way = way; cut = last.0 }

    here : (place : ℕ) × (slice_get cuts place ≡ Some last.0)
    here = cuts_has last.0 last.1.within (last_of_log log.entries last.0 last.1.is_last)

    f : (x : KnownAt) × (slice_get found here.0 ≡ Some x)
    f = has_one found here.0 (let lt = slice_get_within cuts here.0 last.0 here.1 in let many = are.count in omega (arith, lt, many))

    same : truth_at truth at last.1.other ≡ truth (marks_at log.entries cut) (image_at log way cut choice)
    same = λ i. truth (last.1.marks i) (last.1.image i)

    own : IsInFailing asked at f.0 last.1.other (truth_at truth at last.1.other)
    own =
        complete_has_all alike asked at records stops f.0 truth last.1.other last.1.within true_of (are.each here.0 last.0 f.0 here.1 f.1) (complete here.0 f.0 f.1) last.1.possible
        (ap fails same ∙ failed)

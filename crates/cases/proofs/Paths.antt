-- The way of a search through the tree.
use Rattle.std.proofs.Common.{ℕ, zero, suc, ◌≡◌, ◌+◌, ◌-◌, ◌^◌, ◌<◌, ◌≤◌, min, nat_le, nat_lt, Bool, true, false, not, ◌&&◌, ◌||◌, if◌then◌else◌, List, [], ◌∷◌, ◌++◌, length, map, reverse, set, get_or, count_by, sum_by, slice_get, slice_index_or, Option, None, Some, All, Result, IfOk, replicate, add-one, refl, sym, subst, ◌∙◌, ap, arith, append_assoc}
use Rattle.std.specs.List.{list_all}
use Rattle.std.specs.Option.{option_map_or}
use Rattle.std.specs.Cmp.{first_so, second_so}
use Rattle.std.proofs.lemmas.Bool.{leb-true, le-leb}
use Rattle.std.proofs.lemmas.List.{set-set, set-get_or, length-set}
use Rattle.std.proofs.lemmas.List.Elements.{All-pop, All-push}
use Rattle.std.proofs.lemmas.List.Sums.{sum_by-set, sum_by_push}
use Rattle.std.specs.List.{remove}
use Rattle.std.proofs.lemmas.Option.{slice_get-get_or, same_Some, MatchOption-at_some, MatchOption-at_none}
use Rattle.std.proofs.lemmas.Result.{IfOk-weaker}
use Rattle.std.proofs.lemmas.Grind.{reverse_onto}
use Rattle.epochs.specs.declared.part.Part.{Part}
use Rattle.choices.specs.declared.fate.Fate.{Fate}
use Rattle.choices.specs.Choices.{nowhere}
use Rattle.cases.specs.declared.split.Parted.{Parted}
use Rattle.cases.specs.declared.search.Frame.{Frame}
use Rattle.cases.specs.Cases.{Case, whole_case, is_same, with_part, firsts, kinds, show_alike}
use Rattle.cases.specs.Trees.{Program, Subject, is_torn, is_lost, surely, is_within, split_of}
use Rattle.cases.specs.Choices.{all_fates}
use Rattle.cases.specs.Sets.{fates_in, numbers_in, all_torn, all_lost}
use Rattle.cases.specs.AtCut.{CutValue, Apart, parts_of, case_of, split_by, split_at, IsFound}
use Rattle.cases.specs.Search.{Asked, subject_of, SearchValue, pending, others, LeadTo, past_beyond, past_leaf, past_split, Leads, LeadToLeaf, Descends, Took, Went, case_in, count_torn, count_lost, is_torn_beyond, plus, IsSearch, SameSearch, OnlyCounts, Counted}
use Rattle.cases.proofs.Cases.{IsSplit, first_is, shown_kinds}
use Rattle.cases.proofs.Distinct.{apart_risky}
use Rattle.cases.proofs.Chosen.{case_there, case_with, count_in_case, count_same, torn_all, lost_all, torn_first, lost_first, first_group, count_set_le}

pub reverse_push : {A : Type 0} (xs : List A) (x : A) → reverse (xs ++ x ∷ []) ≡ x ∷ reverse xs
reverse_push [] x = refl
reverse_push (y ∷ xs) x =
    reverse_onto (xs ++ x ∷ []) y [] ∙ ap (λ ys. ys ++ y ∷ []) (reverse_push xs x) ∙ ap (λ ys. x ∷ ys) (sym (reverse_onto xs y []))

-- a split of which all groups were taken
pub gone_back : (tears : Bool) (parts : List Part) (sets : List ℕ) (frames : List Frame) (f : Frame) → f.groups.items ≡ []
    → others tears parts sets (reverse (frames ++ f ∷ [])) ≡ others tears parts (set sets f.part f.old) (reverse frames)
gone_back tears parts sets frames f none =
    ap (others tears parts sets) (reverse_push frames f)
    ∙ ap (λ gs. map (λ bits. case_of tears parts (set sets f.part bits)) gs ++ others tears parts (set sets f.part f.old) (reverse frames)) none

-- one of which a group is left
pub went_on : (tears : Bool) (parts : List Part) (sets : List ℕ) (frames : List Frame) (f after : Frame) (g : ℕ) → f.groups.items ≡ g ∷ after.groups.items
    → after.part ≡ f.part → after.old ≡ f.old
    → others tears parts sets (reverse (frames ++ f ∷ []))
    ≡ case_of tears parts (set sets f.part g) ∷ others tears parts (set sets f.part g) (reverse (frames ++ after ∷ []))
went_on tears parts sets frames f after g some part old =
    ap (others tears parts sets) (reverse_push frames f)
    ∙ ap (λ gs. map (λ bits. case_of tears parts (set sets f.part bits)) gs ++ others tears parts (set sets f.part f.old) (reverse frames)) some
    ∙ ap (λ cs. case_of tears parts (set sets f.part g) ∷ cs) (sym rest)
  where
    moved : List ℕ
    moved = set sets f.part g

    again : (b : ℕ) → set moved f.part b ≡ set sets f.part b
    again b = set-set sets f.part g b

    groups : (gs : List ℕ) → map (λ bits. case_of tears parts (set moved f.part bits)) gs ≡ map (λ bits. case_of tears parts (set sets f.part bits)) gs
    groups [] = refl
    groups (b ∷ bs) = λ i. case_of tears parts (again b i) ∷ groups bs i

    rest : others tears parts moved (reverse (frames ++ after ∷ []))
        ≡ map (λ bits. case_of tears parts (set sets f.part bits)) after.groups.items ++ others tears parts (set sets f.part f.old) (reverse frames)
    rest =
        ap (others tears parts moved) (reverse_push frames after)
        ∙ (λ i. map (λ bits. case_of tears parts (set moved (part i) bits)) after.groups.items ++ others tears parts (set moved (part i) (old i)) (reverse frames))
        ∙ (λ i. groups after.groups.items i ++ others tears parts (again f.old i) (reverse frames))

-- a new split, of which the first group is taken
pub split_up : (tears : Bool) (parts : List Part) (sets : List ℕ) (frames : List Frame) (f : Frame) (g : ℕ) (gs : List ℕ) → gs ≡ g ∷ f.groups.items
    → f.part < length sets → f.old ≡ slice_index_or sets f.part f.old
    → map (λ bits. case_of tears parts (set sets f.part bits)) gs ++ others tears parts sets (reverse frames)
    ≡ case_of tears parts (set sets f.part g) ∷ others tears parts (set sets f.part g) (reverse (frames ++ f ∷ []))
split_up tears parts sets frames f g gs some within old =
    ap (λ hs. map (λ bits. case_of tears parts (set sets f.part bits)) hs ++ others tears parts sets (reverse frames)) some
    ∙ ap (λ cs. case_of tears parts (set sets f.part g) ∷ cs) (sym rest)
  where
    moved : List ℕ
    moved = set sets f.part g

    again : (b : ℕ) → set moved f.part b ≡ set sets f.part b
    again b = set-set sets f.part g b

    back : set moved f.part f.old ≡ sets
    back = again f.old ∙ ap (set sets f.part) old ∙ set-get_or sets f.part f.old

    groups : (hs : List ℕ) → map (λ bits. case_of tears parts (set moved f.part bits)) hs ≡ map (λ bits. case_of tears parts (set sets f.part bits)) hs
    groups [] = refl
    groups (b ∷ bs) = λ i. case_of tears parts (again b i) ∷ groups bs i

    rest : others tears parts moved (reverse (frames ++ f ∷ []))
        ≡ map (λ bits. case_of tears parts (set sets f.part bits)) f.groups.items ++ others tears parts sets (reverse frames)
    rest =
        ap (others tears parts moved) (reverse_push frames f)
        ∙ (λ i. groups f.groups.items i ++ others tears parts (back i) (reverse frames))

-- what a case is within, by its sets

pub surely_torn : (asked : Asked) (program : Program) (tears : Bool) (sets : List ℕ) → Apart (parts_of asked.at) → length sets ≡ length (parts_of asked.at)
    → surely (subject_of asked program) is_torn (case_of tears (parts_of asked.at) sets) ≡ count_torn sets
surely_torn asked program tears sets apart long =
    count_in_case tears is_torn (parts_of asked.at) sets apart long
    ∙ count_same (λ bits. list_all is_torn (fates_in bits)) all_torn sets (λ bits is. torn_all bits)

pub surely_lost : (asked : Asked) (program : Program) (tears : Bool) (sets : List ℕ) → Apart (parts_of asked.at) → length sets ≡ length (parts_of asked.at)
    → surely (subject_of asked program) is_lost (case_of tears (parts_of asked.at) sets) ≡ count_lost sets
surely_lost asked program tears sets apart long =
    count_in_case tears is_lost (parts_of asked.at) sets apart long
    ∙ count_same (λ bits. list_all is_lost (fates_in bits)) all_lost sets (λ bits is. lost_all bits)

abbrev pub within_by : Asked → List ℕ → Bool
within_by asked sets = nat_le (count_torn sets) asked.torn && option_map_or (λ n. nat_le (count_lost sets) n) asked.lost true

pub is_within_by : (asked : Asked) (program : Program) (tears : Bool) (sets : List ℕ) → Apart (parts_of asked.at) → length sets ≡ length (parts_of asked.at)
    → is_within (subject_of asked program) (case_of tears (parts_of asked.at) sets) ≡ within_by asked sets
is_within_by asked program tears sets apart long =
    let torn = surely_torn asked program tears sets apart long in
    let lost = surely_lost asked program tears sets apart long in
    λ i. nat_le (torn i) asked.torn && option_map_or (λ n. nat_le (lost i) n) asked.lost true

-- so is the case of a group whose first fate is the first of all
within_set : (asked : Asked) (sets : List ℕ) (k g : ℕ) → k < length sets → (all_torn g ≡ true → all_torn (slice_index_or sets k 0) ≡ true)
    → (all_lost g ≡ true → all_lost (slice_index_or sets k 0) ≡ true) → within_by asked sets ≡ true → within_by asked (set sets k g) ≡ true
within_set asked sets k g within torn lost is =
    let fewer_torn = count_set_le all_torn sets k g within torn in
    let fewer_lost = count_set_le all_lost sets k g within lost in
    let torn_is = leb-true (count_torn sets) asked.torn (first_so (nat_le (count_torn sets) asked.torn) (option_map_or (λ n. nat_le (count_lost sets) n) asked.lost true) is) in
    let one : nat_le (count_torn (set sets k g)) asked.torn ≡ true = le-leb (count_torn (set sets k g)) asked.torn (omega (arith, fewer_torn, torn_is)) in
    ap (λ b. b && option_map_or (λ n. nat_le (count_lost (set sets k g)) n) asked.lost true) one
    ∙ by_lost asked.lost (second_so (nat_le (count_torn sets) asked.torn) (option_map_or (λ n. nat_le (count_lost sets) n) asked.lost true) is) fewer_lost
  where
    by_lost : (o : Option ℕ) → option_map_or (λ n. nat_le (count_lost sets) n) o true ≡ true → count_lost (set sets k g) ≤ count_lost sets
        → option_map_or (λ n. nat_le (count_lost (set sets k g)) n) o true ≡ true
    by_lost None few less = refl
    by_lost (Some n) few less = let most = leb-true (count_lost sets) n few in le-leb (count_lost (set sets k g)) n (omega (arith, less, most))

-- what a split of a case does
pub record Deeper (asked : Asked) (program : Program) (tears : Bool) (sets : List ℕ) (it : Parted) (first : ℕ) : Type 0 where
  pub leads : (end os more rest : List Case) → is_within (subject_of asked program) (case_of tears (parts_of asked.at) sets) ≡ true
      → LeadTo (subject_of asked program) end (map (λ bits. case_of tears (parts_of asked.at) (set sets it.part bits)) it.groups.items ++ os) more rest
      → LeadTo (subject_of asked program) end (case_of tears (parts_of asked.at) sets ∷ os) more rest
  pub within : is_within (subject_of asked program) (case_of tears (parts_of asked.at) sets) ≡ true
      → is_within (subject_of asked program) (case_of tears (parts_of asked.at) (set sets it.part first)) ≡ true
  pub less : sum_by (λ bits. length (fates_in bits)) (set sets it.part first) < sum_by (λ bits. length (fates_in bits)) sets

-- a case that is split has a first group
pub record HasFirst (it : Parted) : Type 0 where
  pub first : ℕ
  pub rest : List ℕ
  pub is : it.groups.items ≡ first ∷ rest

pub has_first : (asked : Asked) (program : Program) (c : Case) (it : Parted) → split_at asked.at program c ≡ Some (split_by (parts_of asked.at) it) → HasFirst it
has_first asked program c it is = by_groups it.groups.items refl
  where
    at : IsSplit c (split_by (parts_of asked.at) it)
    at = first_is asked.at.log asked.at.way asked.at.cut c _ (split_by (parts_of asked.at) it) is

    by_groups : (gs : List ℕ) → it.groups.items ≡ gs → HasFirst it
    by_groups (g ∷ gs) own = record { first = g; rest = gs; is = own }
    by_groups [] own =
        let alike = show_alike (split_by (parts_of asked.at) it).part at.unit at.pieces in
        let kinds_none : [] ≡ kinds alike (c (split_by (parts_of asked.at) it).part) = sym (ap (map fates_in) own) ∙ at.groups in
        none_by (firsts alike (c (split_by (parts_of asked.at) it).part)) refl kinds_none
      where
        none_by : (fs : List (Option Fate)) → firsts (show_alike (split_by (parts_of asked.at) it).part at.unit at.pieces) (c (split_by (parts_of asked.at) it).part) ≡ fs
            → [] ≡ kinds (show_alike (split_by (parts_of asked.at) it).part at.unit at.pieces) (c (split_by (parts_of asked.at) it).part) → HasFirst it
        none_by [] none kinds_are =
            let few : nat_lt 1 0 ≡ true = sym (ap (λ fs. nat_lt 1 (length fs)) none) ∙ at.many in
            let bad : false ≡ true = few in
            cc
        none_by (f ∷ fs) some kinds_are =
            let bad : [] ≡ _ ∷ _ = kinds_are ∙ ap (map (λ x. Rattle.std.proofs.Common.filter (show_alike (split_by (parts_of asked.at) it).part at.unit at.pieces x) (c (split_by (parts_of asked.at) it).part))) some in
            cc

pub deeper : (asked : Asked) (program : Program) (tears : Bool) (sets : List ℕ) (it : Parted) (g : ℕ) (gs : List ℕ) → Apart (parts_of asked.at)
    → length sets ≡ length (parts_of asked.at) → it.part < length (parts_of asked.at) → it.groups.items ≡ g ∷ gs
    → split_at asked.at program (case_of tears (parts_of asked.at) sets) ≡ Some (split_by (parts_of asked.at) it)
    → Deeper asked program tears sets it g
deeper asked program tears sets it g gs apart long inside groups is =
    let parts = parts_of asked.at in
    let c = case_of tears parts sets in
    let p : Part = slice_index_or parts it.part nowhere in
    let there : slice_get parts it.part ≡ Some p = slice_get-get_or parts it.part nowhere inside in
    let held : it.part < length sets = omega (arith, inside, long) in
    let at : IsSplit c (split_by parts it) = first_is asked.at.log asked.at.way asked.at.cut c _ (split_by parts it) is in
    let alike = show_alike p at.unit at.pieces in
    let old : c p ≡ fates_in (slice_index_or sets it.part 0) = case_there tears parts sets it.part p apart there held in
    let are : map fates_in (g ∷ gs) ≡ kinds alike (fates_in (slice_index_or sets it.part 0)) = sym (ap (map fates_in) groups) ∙ at.groups ∙ ap (kinds alike) old in
    let many : nat_lt 1 (length (firsts alike (fates_in (slice_index_or sets it.part 0)))) ≡ true = sym (ap (λ fs. nat_lt 1 (length (firsts alike fs))) old) ∙ at.many in
    let first = first_group alike (shown_kinds p at.unit at.pieces) (slice_index_or sets it.part 0) g gs are many in
    let long_more : length (set sets it.part g) ≡ length parts = length-set sets it.part g ∙ long in
    let moved = sum_by-set (λ bits. length (fates_in bits)) sets it.part g 0 held in
    let fewer = first.less in
    record {
      leads = λ end os more rest within are_leaves.
          past_split c (split_by parts it) os more rest within is
          (subst (λ cs. LeadTo (subject_of asked program) end (cs ++ os) more rest) (children it.groups.items there held) are_leaves);
      within = λ within.
          is_within_by asked program tears (set sets it.part g) apart long_more
          ∙ within_set asked sets it.part g held
          (λ torn. torn_first (slice_index_or sets it.part 0) first.fate first.all first.is_all (head_so is_torn g first.fate first.own first.is_own (torn_all g ∙ torn)))
          (λ lost. lost_first (slice_index_or sets it.part 0) first.fate first.all first.is_all (head_so is_lost g first.fate first.own first.is_own (lost_all g ∙ lost)))
          (sym (is_within_by asked program tears sets apart long) ∙ within);
      less = omega (arith, moved, fewer);
    }
  where
    head_so : (test : Option Fate → Bool) (bits : ℕ) (x : Option Fate) (rest : List (Option Fate)) → fates_in bits ≡ x ∷ rest → list_all test (fates_in bits) ≡ true → test x ≡ true
    head_so test bits x rest first all = first_so (test x) (list_all test rest) (sym (ap (list_all test) first) ∙ all)

    children : (hs : List ℕ) → slice_get (parts_of asked.at) it.part ≡ Some (slice_index_or (parts_of asked.at) it.part nowhere) → it.part < length sets
        → map (λ bits. case_of tears (parts_of asked.at) (set sets it.part bits)) hs
        ≡ map (with_part (case_of tears (parts_of asked.at) sets) (slice_index_or (parts_of asked.at) it.part nowhere)) (map fates_in hs)
    children [] there held = refl
    children (b ∷ bs) there held =
        let one = case_with tears (parts_of asked.at) sets it.part (slice_index_or (parts_of asked.at) it.part nowhere) b apart there held in
        let rest = children bs there held in
        λ i. one i ∷ rest i

-- the groups of splits, taken so far
pub record TakenSo (sets : List ℕ) (frames : List Frame) (now : List ℕ) (left : List Frame) : Type 0 where
  pub same : (tears : Bool) (parts : List Part) → others tears parts sets (reverse frames) ≡ others tears parts now (reverse left)
  pub each : length now ≡ length sets
  pub splits : All (λ (f : Frame). f.part < length now) left

-- the way down from a case, so far
pub record GoneSo (at : CutValue) (program : Program) (tears : Bool) (sets : List ℕ) (frames : List Frame) (now : List ℕ) (more : List Frame) : Type 0 where
  pub within : (torn : ℕ) (lost : Option ℕ) → is_within (subject_of (record { at = at; torn = torn; lost = lost }) program) (case_of tears (parts_of at) sets) ≡ true
      → is_within (subject_of (record { at = at; torn = torn; lost = lost }) program) (case_of tears (parts_of at) now) ≡ true
  pub leads : (torn : ℕ) (lost : Option ℕ) (end leaves rest : List Case)
      → is_within (subject_of (record { at = at; torn = torn; lost = lost }) program) (case_of tears (parts_of at) sets) ≡ true
      → LeadTo (subject_of (record { at = at; torn = torn; lost = lost }) program) end (case_of tears (parts_of at) now ∷ others tears (parts_of at) now (reverse more)) leaves rest
      → LeadTo (subject_of (record { at = at; torn = torn; lost = lost }) program) end (case_of tears (parts_of at) sets ∷ others tears (parts_of at) sets (reverse frames)) leaves rest
  pub each : length now ≡ length (parts_of at)
  pub splits : All (λ (f : Frame). f.part < length now) more

pub gone_none : (at : CutValue) (program : Program) (tears : Bool) (sets : List ℕ) (frames : List Frame) → length sets ≡ length (parts_of at)
    → All (λ (f : Frame). f.part < length sets) frames → GoneSo at program tears sets frames sets frames
gone_none at program tears sets frames each splits = record {
  within = λ torn lost is. is;
  leads = λ torn lost end leaves rest within are. are;
  each = each;
  splits = splits;
}

-- one split more
pub gone_more : (at : CutValue) (program : Program) (tears : Bool) (sets : List ℕ) (frames : List Frame) (now : List ℕ) (more : List Frame) (it : Parted) (next : List ℕ) (after : List Frame)
    → Apart (parts_of at) → GoneSo at program tears sets frames now more
    → (it.part < length (parts_of at)) × (split_at at program (case_of tears (parts_of at) now) ≡ Some (split_by (parts_of at) it))
    → length next ≡ length now → All (λ (f : Frame). f.part < length next) after
    → ((g : ℕ) (gs : List ℕ) → it.groups.items ≡ g ∷ gs → next ≡ set now it.part g)
    → ((g : ℕ) (gs : List ℕ) → it.groups.items ≡ g ∷ gs
    → map (λ (bits : ℕ). case_of tears (parts_of at) (set now it.part bits)) it.groups.items ++ others tears (parts_of at) now (reverse more)
    ≡ case_of tears (parts_of at) next ∷ others tears (parts_of at) next (reverse after))
    → GoneSo at program tears sets frames next after × (sum_by (λ bits. length (fates_in bits)) next < sum_by (λ bits. length (fates_in bits)) now)
gone_more at program tears sets frames now more it next after apart so is long splits first split =
    let anything : Asked = record { at = at; torn = 0; lost = None } in
    let has = has_first anything program (case_of tears (parts_of at) now) it is.1 in
    let moved : next ≡ set now it.part has.first = first has.first has.rest has.is in
    let deep : (torn : ℕ) (lost : Option ℕ) → Deeper (record { at = at; torn = torn; lost = lost }) program tears now it has.first =
    λ torn lost. deeper (record { at = at; torn = torn; lost = lost }) program tears now it has.first has.rest apart so.each is.0 has.is is.1 in (
      record {
        within = λ torn lost within.
            subst (λ (xs : List ℕ). is_within (subject_of (record { at = at; torn = torn; lost = lost }) program) (case_of tears (parts_of at) xs) ≡ true) (sym moved)
            ((deep torn lost).within (so.within torn lost within));
        leads = λ torn lost end leaves rest within are.
            so.leads torn lost end leaves rest within
            ((deep torn lost).leads end (others tears (parts_of at) now (reverse more)) leaves rest (so.within torn lost within)
            (subst (λ (cs : List Case). LeadTo (subject_of (record { at = at; torn = torn; lost = lost }) program) end cs leaves rest) (sym (split has.first has.rest has.is)) are));
        each = long ∙ so.each;
        splits = splits;
      },
      subst (λ (xs : List ℕ). sum_by (λ bits. length (fates_in bits)) xs < sum_by (λ bits. length (fates_in bits)) now) (sym moved) (deep 0 None).less,
    )

-- a case that no part splits is a leaf
pub gone_all : (at : CutValue) (program : Program) (tears : Bool) (sets : List ℕ) (frames : List Frame) (now : List ℕ) (more : List Frame)
    → GoneSo at program tears sets frames now more → split_at at program (case_of tears (parts_of at) now) ≡ None
    → (torn : ℕ) (lost : Option ℕ) → Descends (record { at = at; torn = torn; lost = lost }) program tears sets (reverse frames) now (reverse more)
gone_all at program tears sets frames now more so none torn lost within = record {
  leads = λ end leaves rest are. so.leads torn lost end leaves rest within are;
  within = so.within torn lost within;
  whole = none;
}

-- past the leaf to which some cases lead
past_it : (s : Subject) (from left : List Case) (leaf : Case) (rest : List Case) → LeadToLeaf s from left leaf rest → Leads s from (leaf ∷ []) left rest
past_it s from left leaf rest it end more others are = it.leads end (leaf ∷ more) others (past_leaf leaf rest more others it.within it.whole are)

-- the cases that were left out, so far
pub record PassedSo (s : Subject) (old now : SearchValue) : Type 0 where
  pub left : List Case
  pub leads : Leads s (pending old) [] left (pending now)
  pub torn : now.torn_beyond ≡ plus old.torn_beyond (count_by (is_torn_beyond s) left)
  pub lost : now.lost_beyond ≡ plus old.lost_beyond (count_by (λ c. not (is_torn_beyond s c)) left)

-- of groups that are taken

pub taken_start : (sets : List ℕ) (frames : List Frame) → All (λ (f : Frame). f.part < length sets) frames → TakenSo sets frames sets frames
taken_start sets frames splits = record { same = λ tears parts. refl; each = refl; splits = splits }

-- a split of which all groups were taken goes
pub taken_more : (sets : List ℕ) (frames : List Frame) (now : List ℕ) (left : List Frame) (f : Frame) → TakenSo sets frames now (left ++ f ∷ []) → f.groups.items ≡ []
    → TakenSo sets frames (set now f.part f.old) left
taken_more sets frames now left f so none =
    let long = length-set now f.part f.old in
    let splits = All-pop (λ (g : Frame). g.part < length now) (left ++ f ∷ []) left (Some f) refl so.splits in
    record {
      same = λ tears parts. so.same tears parts ∙ gone_back tears parts now left f none;
      each = long ∙ so.each;
      splits = subst (λ n. All (λ (g : Frame). g.part < n) left) (sym long) splits.0;
    }

-- the next group is the next case
pub record TakenOne (sets : List ℕ) (frames : List Frame) (next : List ℕ) (after : List Frame) : Type 0 where
  pub same : (tears : Bool) (parts : List Part) → others tears parts sets (reverse frames) ≡ case_of tears parts next ∷ others tears parts next (reverse after)
  pub each : length next ≡ length sets
  pub splits : All (λ (f : Frame). f.part < length next) after

pub taken_one : (sets : List ℕ) (frames : List Frame) (now : List ℕ) (left : List Frame) (f after : Frame) (g : ℕ) → TakenSo sets frames now (left ++ f ∷ [])
    → f.groups.items ≡ g ∷ after.groups.items → after.part ≡ f.part → after.old ≡ f.old → TakenOne sets frames (set now f.part g) (left ++ after ∷ [])
taken_one sets frames now left f after g so some part old =
    let long = length-set now f.part g in
    let splits = All-pop (λ (h : Frame). h.part < length now) (left ++ f ∷ []) left (Some f) refl so.splits in
    let inside : after.part < length now = (let within = splits.1 in omega (arith, part, within)) in
    record {
      same = λ tears parts. so.same tears parts ∙ went_on tears parts now left f after g some part old;
      each = long ∙ so.each;
      splits = subst (λ n. All (λ (h : Frame). h.part < n) (left ++ after ∷ [])) (sym long) (All-push (λ (h : Frame). h.part < length now) left after splits.0 inside);
    }

-- of cases that are left out

no_of : (b : Bool) → not b ≡ true → b ≡ false
no_of true is = let bad : false ≡ true = is in cc
no_of false is = refl

yes_of : (b : Bool) → not b ≡ false → b ≡ true
yes_of true is = refl
yes_of false is = let bad : true ≡ false = is in cc

beyond_torn : (asked : Asked) (program : Program) (tears : Bool) (sets : List ℕ) → Apart (parts_of asked.at) → length sets ≡ length (parts_of asked.at)
    → is_torn_beyond (subject_of asked program) (case_of tears (parts_of asked.at) sets) ≡ not (nat_le (count_torn sets) asked.torn)
beyond_torn asked program tears sets apart long = ap (λ n. not (nat_le n asked.torn)) (surely_torn asked program tears sets apart long)

one_counted : {A : Type 0} (p : A → Bool) (xs : List A) (x : A) → count_by p (xs ++ x ∷ []) ≡ count_by p xs + (if p x then 1 else 0)
one_counted p xs x = sum_by_push (λ y. if p y then 1 else 0) xs x

plus_more : (n a : ℕ) (b : Bool) → plus n (a + (if b then 1 else 0)) ≡ plus (plus n a) (if b then 1 else 0)
plus_more n a true = ap (plus n) (add-one a)
plus_more n a false = let same : a + 0 ≡ a = omega arith in ap (plus n) same

pub passed_start : (s : Subject) (v : SearchValue) → PassedSo s v v
passed_start s v = record { left = []; leads = λ end more rest are. are; torn = refl; lost = refl }

-- what only the counts tell apart has the same case, and the same to be explored
pub same_case : (old new : SearchValue) → OnlyCounts old new → case_in new ≡ case_in old
same_case old new only = λ i. case_of (only.tears i) (parts_of (only.asked i).at) (only.sets i)

pub same_pending : (old new : SearchValue) → OnlyCounts old new → pending new ≡ pending old
same_pending old new only =
    let one = same_case old new only in
    λ i. (if only.fresh i then one i ∷ [] else []) ++ others (only.tears i) (parts_of (only.asked i).at) (only.sets i) (reverse (only.frames i))

-- one case more is left out: it is beyond what is asked, and one of the two counts has one more
pub passed_more : (s : Subject) (old now taken next : SearchValue) → PassedSo s old now → pending now ≡ case_in taken ∷ pending taken → taken.torn_beyond ≡ now.torn_beyond
    → taken.lost_beyond ≡ now.lost_beyond → OnlyCounts taken next → Counted s taken next true → PassedSo s old next
passed_more s old now taken next so is torn lost only counted =
    let c : Case = case_in taken in
    let same = same_pending taken next only in
    record {
      left = so.left ++ c ∷ [];
      leads = λ end more rest are.
          subst (λ (cs : List Case). LeadTo s end (pending old) more cs) (sym (append_assoc so.left (c ∷ []) rest))
          (so.leads end more (c ∷ rest)
          (subst (λ (cs : List Case). LeadTo s end cs more (c ∷ rest)) (sym is)
          (past_beyond c (pending taken) more rest counted.is (subst (λ (cs : List Case). LeadTo s end cs more rest) same are))));
      torn =
          counted.torn ∙ ap (λ n. plus n (if is_torn_beyond s c then 1 else 0)) (torn ∙ so.torn)
          ∙ sym (plus_more old.torn_beyond (count_by (is_torn_beyond s) so.left) (is_torn_beyond s c))
          ∙ sym (ap (plus old.torn_beyond) (one_counted (is_torn_beyond s) so.left c));
      lost =
          counted.lost ∙ ap (λ n. plus n (if not (is_torn_beyond s c) then 1 else 0)) (lost ∙ so.lost)
          ∙ sym (plus_more old.lost_beyond (count_by (λ d. not (is_torn_beyond s d)) so.left) (not (is_torn_beyond s c)))
          ∙ sym (ap (plus old.lost_beyond) (one_counted (λ d. not (is_torn_beyond s d)) so.left c));
    }

-- the case of a search, by what is counted of its sets
pub counted_torn : (program : Program) (old new : SearchValue) → IsSearch old.asked.at old.sets old.frames → not (nat_le (count_torn old.sets) old.asked.torn) ≡ true
    → new.torn_beyond ≡ plus old.torn_beyond 1 → new.lost_beyond ≡ old.lost_beyond → Counted (subject_of old.asked program) old new true
counted_torn program old new is more torn lost =
    let apart = apart_risky old.asked.at.way old.asked.at.log.entries old.asked.at.cut is.within in
    let s = subject_of old.asked program in
    let beyond : is_torn_beyond s (case_in old) ≡ true = beyond_torn old.asked program old.tears old.sets apart is.each ∙ more in
    record {
      is =
          is_within_by old.asked program old.tears old.sets apart is.each
          ∙ ap (λ b. b && option_map_or (λ n. nat_le (count_lost old.sets) n) old.asked.lost true) (no_of (nat_le (count_torn old.sets) old.asked.torn) more);
      torn = torn ∙ ap (λ b. plus old.torn_beyond (if b then 1 else 0)) (sym beyond);
      lost = lost ∙ ap (λ b. plus old.lost_beyond (if not b then 1 else 0)) (sym beyond);
    }

pub counted_lost : (program : Program) (old new : SearchValue) → IsSearch old.asked.at old.sets old.frames → not (nat_le (count_torn old.sets) old.asked.torn) ≡ false
    → not (option_map_or (λ n. nat_le (count_lost old.sets) n) old.asked.lost true) ≡ true → new.torn_beyond ≡ old.torn_beyond → new.lost_beyond ≡ plus old.lost_beyond 1
    → Counted (subject_of old.asked program) old new true
counted_lost program old new is few more torn lost =
    let apart = apart_risky old.asked.at.way old.asked.at.log.entries old.asked.at.cut is.within in
    let s = subject_of old.asked program in
    let beyond : is_torn_beyond s (case_in old) ≡ false = beyond_torn old.asked program old.tears old.sets apart is.each ∙ few in
    record {
      is =
          is_within_by old.asked program old.tears old.sets apart is.each
          ∙ (λ i. yes_of (nat_le (count_torn old.sets) old.asked.torn) few i && no_of (option_map_or (λ n. nat_le (count_lost old.sets) n) old.asked.lost true) more i);
      torn = torn ∙ ap (λ b. plus old.torn_beyond (if b then 1 else 0)) (sym beyond);
      lost = lost ∙ ap (λ b. plus old.lost_beyond (if not b then 1 else 0)) (sym beyond);
    }

pub counted_none : (program : Program) (old new : SearchValue) → IsSearch old.asked.at old.sets old.frames → not (nat_le (count_torn old.sets) old.asked.torn) ≡ false
    → not (option_map_or (λ n. nat_le (count_lost old.sets) n) old.asked.lost true) ≡ false → new.torn_beyond ≡ old.torn_beyond → new.lost_beyond ≡ old.lost_beyond
    → Counted (subject_of old.asked program) old new false
counted_none program old new is few less torn lost =
    let apart = apart_risky old.asked.at.way old.asked.at.log.entries old.asked.at.cut is.within in
    record {
      is =
          is_within_by old.asked program old.tears old.sets apart is.each
          ∙ (λ i. yes_of (nat_le (count_torn old.sets) old.asked.torn) few i && yes_of (option_map_or (λ n. nat_le (count_lost old.sets) n) old.asked.lost true) less i);
      torn = torn;
      lost = lost;
    }

-- the next case that isn't beyond, or none
pub took : (s : Subject) (old now next : SearchValue) (found : Bool) → PassedSo s old now → pending now ≡ (if found then case_in next ∷ pending next else [])
    → (found ≡ true → is_within s (case_in next) ≡ true) → (found ≡ false → pending next ≡ []) → next.torn_beyond ≡ now.torn_beyond → next.lost_beyond ≡ now.lost_beyond
    → Took s old next found
took s old now next found so is within ended torn lost = record {
  left = so.left;
  leads = λ end more rest are. so.leads end more rest (subst (λ (cs : List Case). LeadTo s end cs more rest) (sym is) are);
  within = within;
  ended = ended;
  torn = torn ∙ so.torn;
  lost = lost ∙ so.lost;
}

-- a leaf, by the way down from the case that was taken
pub went_found : (asked : Asked) (program : Program) (old mid new : SearchValue) → Took (subject_of asked program) old mid true → mid.asked ≡ asked → new.asked ≡ mid.asked → new.tears ≡ mid.tears
    → mid.fresh ≡ false → new.fresh ≡ false → new.torn_beyond ≡ mid.torn_beyond → new.lost_beyond ≡ mid.lost_beyond
    → Descends asked program mid.tears mid.sets (reverse mid.frames) new.sets (reverse new.frames)
    → Went (subject_of asked program) old new true
went_found asked program old mid new one same kept tears mid_taken new_taken torn lost down =
    let s = subject_of asked program in
    let mid_parts : parts_of mid.asked.at ≡ parts_of asked.at = ap (λ (a : Asked). parts_of a.at) same in
    let new_parts : parts_of new.asked.at ≡ parts_of asked.at = ap (λ (a : Asked). parts_of a.at) (kept ∙ same) in
    let mid_case : case_in mid ≡ case_of mid.tears (parts_of asked.at) mid.sets = ap (λ ps. case_of mid.tears ps mid.sets) mid_parts in
    let new_case : case_in new ≡ case_of mid.tears (parts_of asked.at) new.sets = (λ i. case_of (tears i) (new_parts i) new.sets) in
    let mid_pending : pending mid ≡ others mid.tears (parts_of asked.at) mid.sets (reverse mid.frames) =
    (λ i. (if mid_taken i then case_in mid ∷ [] else []) ++ others mid.tears (mid_parts i) mid.sets (reverse mid.frames)) in
    let new_pending : pending new ≡ others mid.tears (parts_of asked.at) new.sets (reverse new.frames) =
    (λ i. (if new_taken i then case_in new ∷ [] else []) ++ others (tears i) (new_parts i) new.sets (reverse new.frames)) in
    let within : is_within s (case_of mid.tears (parts_of asked.at) mid.sets) ≡ true = sym (ap (is_within s) mid_case) ∙ one.within refl in
    let below = down within in
    let leaf : LeadToLeaf s (pending old) one.left (case_in new) (pending new) = record {
      leads = λ end more rest are.
          one.leads end more rest
          (subst (λ (cs : List Case). LeadTo s end cs more rest) (sym (λ i. mid_case i ∷ mid_pending i))
          (below.leads end more rest (subst (λ (cs : List Case). LeadTo s end cs more rest) (λ i. new_case i ∷ new_pending i) are)));
      within = ap (is_within s) new_case ∙ below.within;
      whole = ap (split_of s) new_case ∙ below.whole;
    } in
    record {
      left = one.left;
      leads = past_it s (pending old) one.left (case_in new) (pending new) leaf;
      leaf = λ t. leaf;
      ended = λ f. absurd (let bad : true ≡ false = f in cc);
      torn = torn ∙ one.torn;
      lost = lost ∙ one.lost;
    }

-- no leaf more
pub went_none : (s : Subject) (old new : SearchValue) → Took s old new false → Went s old new false
went_none s old new one = record {
  left = one.left;
  leads = λ end more rest are. one.leads end more rest (subst (λ (cs : List Case). LeadTo s end cs more rest) (one.ended refl) are);
  leaf = λ t. absurd (let bad : false ≡ true = t in cc);
  ended = one.ended;
  torn = one.torn;
  lost = one.lost;
}

-- a search that hasn't begun has all choices to explore

pub fates_all : (tears : Bool) → fates_in (if tears then 65535 else 3) ≡ all_fates tears
unfolding fates_in numbers_in
fates_all true = refl
fates_all false = refl

pub new_case : (tears : Bool) (parts : List Part) (n bits : ℕ) (p : Part) → fates_in bits ≡ all_fates tears → case_of tears parts (replicate n bits) p ≡ whole_case tears p
new_case tears [] n bits p is = refl
new_case tears (q ∷ parts) zero bits p is = refl
new_case tears (q ∷ parts) (suc n) bits p is =
    ap (λ (c : List (Option Fate)). if is_same q p then fates_in bits else c) (new_case tears parts n bits p is) ∙ by_test (is_same q p)
  where
    by_test : (b : Bool) → (if b then fates_in bits else whole_case tears p) ≡ whole_case tears p
    by_test true = is
    by_test false = refl

-- a group that was popped

pub first_popped : (items rest : List ℕ) (g : ℕ) → Some g ≡ slice_get items 0 → rest ≡ remove items 0 → items ≡ g ∷ rest
first_popped [] rest g is gone = absurd (let bad : ◌≡◌ {A = Option ℕ} (Some g) None = is in cc)
first_popped (x ∷ xs) rest g is gone = let same : g ≡ x = same_Some g x is in λ i. sym same i ∷ sym gone i

-- the next case, if there is one
pub take_told : {E : Type 0} (view now new : SearchValue) (result : Result Bool E) → view ≡ now → view.fresh ≡ false → new.fresh ≡ false → new.asked ≡ view.asked → new.tears ≡ view.tears
    → IfOk result (λ found. others view.tears (parts_of view.asked.at) view.sets (reverse view.frames)
    ≡ (if found then case_of view.tears (parts_of view.asked.at) new.sets ∷ others view.tears (parts_of view.asked.at) new.sets (reverse new.frames) else []))
    → IfOk result (λ found. pending now ≡ (if found then case_in new ∷ pending new else []))
take_told view now new result is old after asked tears told =
    IfOk-weaker result
    (λ found. others view.tears (parts_of view.asked.at) view.sets (reverse view.frames)
    ≡ (if found then case_of view.tears (parts_of view.asked.at) new.sets ∷ others view.tears (parts_of view.asked.at) new.sets (reverse new.frames) else []))
    (λ found. pending now ≡ (if found then case_in new ∷ pending new else []))
    (λ found own.
    ap pending (sym is)
    ∙ ap (λ b. (if b then case_in view ∷ [] else []) ++ others view.tears (parts_of view.asked.at) view.sets (reverse view.frames)) old
    ∙ own ∙ ap (λ (cs : List Case). if found then cs else []) next) told
  where
    next : case_of view.tears (parts_of view.asked.at) new.sets ∷ others view.tears (parts_of view.asked.at) new.sets (reverse new.frames) ≡ case_in new ∷ pending new
    next =
        (λ i. case_of (sym tears i) (parts_of (sym asked i).at) new.sets ∷ others (sym tears i) (parts_of (sym asked i).at) new.sets (reverse new.frames))
        ∙ ap (λ b. case_in new ∷ ((if b then case_in new ∷ [] else []) ++ others new.tears (parts_of new.asked.at) new.sets (reverse new.frames))) (sym after)

-- what a judge told

pub found_some : (at : CutValue) (program own : Program) (tears : Bool) (now seen : List ℕ) (found : Option Parted) (it : Parted) → own ≡ program → seen ≡ now → found ≡ Some it
    → IsFound (parts_of at) found (split_at at own (case_of tears (parts_of at) seen))
    → (it.part < length (parts_of at)) × (split_at at program (case_of tears (parts_of at) now) ≡ Some (split_by (parts_of at) it))
found_some at program own tears now seen found it same read is told =
    let here = MatchOption-at_some (split_at at own (case_of tears (parts_of at) seen) ≡ None)
    (λ (x : Parted). (x.part < length (parts_of at)) × (split_at at own (case_of tears (parts_of at) seen) ≡ Some (split_by (parts_of at) x))) it is told in
    (here.0, (λ j. split_at at (sym same j) (case_of tears (parts_of at) (sym read j))) ∙ here.1)

pub found_none : (at : CutValue) (program own : Program) (tears : Bool) (now seen : List ℕ) (found : Option Parted) → own ≡ program → seen ≡ now → found ≡ None
    → IsFound (parts_of at) found (split_at at own (case_of tears (parts_of at) seen)) → split_at at program (case_of tears (parts_of at) now) ≡ None
found_none at program own tears now seen found same read is told =
    (λ j. split_at at (sym same j) (case_of tears (parts_of at) (sym read j)))
    ∙ MatchOption-at_none (split_at at own (case_of tears (parts_of at) seen) ≡ None)
    (λ (x : Parted). (x.part < length (parts_of at)) × (split_at at own (case_of tears (parts_of at) seen) ≡ Some (split_by (parts_of at) x))) is told

-- a case that was taken: the next one, one that is left out, or none
pub took_one : (program : Program) (old now taken next : SearchValue) (found beyond : Bool) → SameSearch old now → PassedSo (subject_of old.asked program) old now → SameSearch now taken
    → pending now ≡ (if found then case_in taken ∷ pending taken else []) → found ≡ true → taken.torn_beyond ≡ now.torn_beyond → taken.lost_beyond ≡ now.lost_beyond
    → OnlyCounts taken next → Counted (subject_of taken.asked program) taken next beyond → beyond ≡ false → Took (subject_of old.asked program) old next true
took_one program old now taken next found beyond same so kept is here torn lost only counted ends =
    let s = subject_of old.asked program in
    let own : Counted s taken next false =
    subst (λ b. Counted s taken next b) ends (subst (λ (a : Asked). Counted (subject_of a program) taken next beyond) (kept.asked ∙ same.asked) counted) in
    let one = same_case taken next only in
    let rest = same_pending taken next only in
    took s old now next true so (is ∙ ap (λ b. if b then case_in taken ∷ pending taken else []) here ∙ sym (λ i. one i ∷ rest i)) (λ t. ap (is_within s) one ∙ own.is)
    (λ f. absurd (let bad : true ≡ false = f in cc)) (own.torn ∙ torn) (own.lost ∙ lost)

pub passed_one : (program : Program) (old now taken next : SearchValue) (found beyond : Bool) → SameSearch old now → PassedSo (subject_of old.asked program) old now → SameSearch now taken
    → pending now ≡ (if found then case_in taken ∷ pending taken else []) → found ≡ true → taken.torn_beyond ≡ now.torn_beyond → taken.lost_beyond ≡ now.lost_beyond
    → OnlyCounts taken next → Counted (subject_of taken.asked program) taken next beyond → beyond ≡ true → PassedSo (subject_of old.asked program) old next
passed_one program old now taken next found beyond same so kept is here torn lost only counted out =
    let s = subject_of old.asked program in
    let own : Counted s taken next true =
    subst (λ b. Counted s taken next b) out (subst (λ (a : Asked). Counted (subject_of a program) taken next beyond) (kept.asked ∙ same.asked) counted) in
    passed_more s old now taken next so (is ∙ ap (λ b. if b then case_in taken ∷ pending taken else []) here) torn lost only own

pub took_none : (s : Subject) (old now taken : SearchValue) (found : Bool) → PassedSo s old now → pending now ≡ (if found then case_in taken ∷ pending taken else []) → found ≡ false
    → (found ≡ false → pending taken ≡ []) → taken.torn_beyond ≡ now.torn_beyond → taken.lost_beyond ≡ now.lost_beyond → Took s old taken false
took_none s old now taken found so is ends ended torn lost =
    took s old now taken false so (is ∙ ap (λ b. if b then case_in taken ∷ pending taken else []) ends) (λ t. absurd (let bad : false ≡ true = t in cc)) (λ f. ended ends) torn lost

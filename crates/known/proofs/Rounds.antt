-- Rounds come to an end: an open case of a round is part of an open one of the round before it, with less that may become of a part.
use Rattle.std.proofs.Common.{ℕ, suc, ◌≡◌, ◌⊎◌, ◌+◌, ◌-◌, ◌*◌, ◌<◌, ◌≤◌, ◌==◌, nat_eq, nat_le, nat_lt, Bool, true, false, not, ◌&&◌, ◌||◌, cond, if◌then◌else◌, List, [], ◌∷◌, ◌++◌, length, map, filter, find, take, drop, count_by, slice_get, slice_index_or, Option, None, Some, refl, sym, subst, ◌∙◌, ap, arith, inl, inr, append_assoc}
use Rattle.std.specs.List.{All, list_any, list_all, range_with_len}
use Rattle.std.specs.Option.{option_map_or}
use Rattle.std.specs.Cmp.{first_so, second_so}
use Rattle.std.specs.Cmp.Lexicographic.{pointwise}
use Rattle.std.proofs.lemmas.Bool.{leb-true, le-leb, false≢true}
use Rattle.std.proofs.lemmas.Bool.Decides.{Decides-eqb}
use Rattle.std.proofs.lemmas.Slice.Eq.{slice_eq-Decides}
use Rattle.std.proofs.lemmas.Bool.{eq-eqb}
use Rattle.std.proofs.lemmas.List.Sums.{sum_by-cons}
use Rattle.std.proofs.lemmas.Option.{same_Some, slice_get_within}
use Rattle.machine.specs.Outcome.{fails}
use Rattle.logfmt.specs.Bounds.{LogValue}
use Rattle.epochs.specs.declared.unit.Unit.{Unit as LogUnit}
use Rattle.epochs.specs.declared.part.Part.{Part}
use Rattle.epochs.specs.declared.part.By.{By}
use Rattle.epochs.specs.declared.part.By.TheVariants as ways
use Rattle.epochs.specs.Parts.{part_of, parts_before}
use Rattle.epochs.specs.Units.{marks_at, units_before}
use Rattle.choices.specs.declared.fate.Fate.{Fate}
use Rattle.cases.specs.Risk.{is_at_risk, parts_at_risk}
use Rattle.cases.specs.Rows.{row, part_with, shows}
use Rattle.cases.specs.Cases.{Case, whole_case, is_same, with_part, show_alike, firsts, kinds, matters, Split, split_or, split_in_row, or_else, first_split}
use Rattle.cases.specs.Trees.{Subject, split_of, is_lost, is_torn, surely, is_within}
use Rattle.cases.specs.Laws.{IsAmong, OfOne}
use Rattle.cases.specs.AtCut.{CutValue, parts_of, case_of, image_of}
use Rattle.cases.specs.Search.{LeadTo, are_there, past_beyond, past_leaf, past_split, LeafValue, leaf_case, EndsSo}
use Rattle.cases.proofs.Cases.{AreKinds, shown_kinds, one_first, kept_among, among_kept, same_part, own_part, all_alike, IsSplit, first_is}
use Rattle.cases.proofs.Rows.{unit_before, before_part, own_place, own_within, own_is, row_units}
use Rattle.losses.specs.declared.found.Losses.{Losses}
use Rattle.known.specs.declared.run.KnownRun.{KnownRun}
use Rattle.known.specs.declared.found.Stops.{Stops}
use Rattle.known.specs.declared.found.KnownAt.{KnownAt}
use Rattle.known.specs.declared.found.OpenCase.{OpenCase}
use Rattle.known.specs.Ends.{ending_of, is_open}
use Rattle.known.specs.Records.{RecordsValue, image_of_run, same_sector, agree, tells, first_telling, told_ending, told_looks}
use Rattle.known.specs.Leaves.{is_told_failing, open_of, open_sets, sets_of_leaf, has_stopped}
use Rattle.known.specs.Found.{subject_at, IsKnownAt}
use Rattle.known.specs.Rounds.{IsToldBy, IsMore, AreRounds, no_round, one_more, ways_lost, RoundsEnd}
use Rattle.known.proofs.Meeting.{no_run_is_open}
use Rattle.known.proofs.Truth.{found_none, leaf_ends, none_mapped, has_one}

-- a record tells its own image

own_sector : (o : Option (List ℕ)) → same_sector o o ≡ true
own_sector None = refl
own_sector (Some bytes) = (slice_eq-Decides Decides-eqb bytes bytes (pointwise nat_eq bytes bytes) refl).1 refl

both_true : (a b : Bool) → a ≡ true → b ≡ true → (a && b) ≡ true
both_true true b one two = two
both_true false b one two = one

own_tells : (records : RecordsValue) (r : KnownRun) → tells records.log records.way r.marks (image_of_run records.log records.way r) r ≡ true
unfolding tells
own_tells records r =
    let image = image_of_run records.log records.way r in
    both_true (r.marks == r.marks) (agree image image r.looked.items) (eq-eqb r.marks r.marks refl)
    (all_alike (λ s. same_sector (slice_get image s) (slice_get image s)) r.looked.items (λ s. own_sector (slice_get image s)))

-- of lists

same_head : {A : Type 0} (x y : A) (xs ys : List A) → ◌≡◌ {A = List A} (x ∷ xs) (y ∷ ys) → x ≡ y
same_head x y xs ys e = same_Some x y (ap (λ zs. slice_get zs 0) e)

same_tail : {A : Type 0} (x y : A) (xs ys : List A) → ◌≡◌ {A = List A} (x ∷ xs) (y ∷ ys) → xs ≡ ys
same_tail x y xs ys e = ap (λ zs. drop 1 zs) e

all_one : {A : Type 0} (test : A → Bool) (xs : List A) (x : A) → list_all test xs ≡ true → IsAmong xs x → test x ≡ true
all_one test [] x all is = absurd is
all_one test (y ∷ ys) x all (inl same) = ap test (sym same) ∙ first_so (test y) (list_all test ys) all
all_one test (y ∷ ys) x all (inr rest) = all_one test ys x (second_so (test y) (list_all test ys) all) rest

kept_none : {A : Type 0} (test : A → Bool) (xs : List A) → ((x : A) → IsAmong xs x → test x ≡ false) → filter test xs ≡ []
kept_none test [] none = refl
kept_none test (x ∷ xs) none = ap (λ b. if b then x ∷ filter test xs else filter test xs) (none x (inl refl)) ∙ kept_none test xs (λ y is. none y (inr is))

mapped_among : {A B : Type 0} (f : A → B) (xs : List A) (x : A) → IsAmong xs x → IsAmong (map f xs) (f x)
mapped_among f [] x is = absurd is
mapped_among f (y ∷ ys) x (inl same) = inl (ap f same)
mapped_among f (y ∷ ys) x (inr rest) = inr (mapped_among f ys x rest)

among_mapped : {A B : Type 0} (f : A → B) (xs : List A) (y : B) → IsAmong (map f xs) y → (x : A) × IsAmong xs x × (f x ≡ y)
among_mapped f [] y is = absurd is
among_mapped f (x ∷ xs) y (inl same) = (x, inl refl, same)
among_mapped f (x ∷ xs) y (inr rest) = let one = among_mapped f xs y rest in (one.0, inr one.1, one.2)

among_place : {A : Type 0} (xs : List A) (x : A) → IsAmong xs x → (i : ℕ) × (slice_get xs i ≡ Some x)
among_place [] x is = absurd is
among_place (y ∷ ys) x (inl same) = (0, ap (λ z. Some z) same)
among_place (y ∷ ys) x (inr rest) = let one = among_place ys x rest in (suc one.0, one.1)

one_of : {A : Type 0} (P : A → Type 0) (xs : List A) → OfOne P xs → (x : A) × IsAmong xs x × P x
one_of P [] one = absurd one
one_of P (x ∷ xs) (inl own) = (x, inl refl, own.0)
one_of P (x ∷ xs) (inr other) = let rest = one_of P xs other.1 in (rest.0, inr rest.1, rest.2)

-- a group of a split isn't empty, and lacks a fate

abbrev Fates : Type 0
Fates = List (Option Fate)

firsts_among : (alike : Option Fate → Option Fate → Bool) (xs : Fates) (y : Option Fate) → IsAmong (firsts alike xs) y → IsAmong xs y
firsts_among alike [] y is = absurd is
firsts_among alike (x ∷ xs) y (inl same) = inl same
firsts_among alike (x ∷ xs) y (inr rest) = inr (firsts_among alike xs y (among_kept (λ z. not (alike x z)) (firsts alike xs) y rest).0)

one_kind : (alike : Option Fate → Option Fate → Bool) (laws : AreKinds alike) (f : Option Fate) (xs : Fates) → list_all (alike f) xs ≡ true → nat_lt 1 (length (firsts alike xs)) ≡ false
one_kind alike laws f [] all = refl
one_kind alike laws f (x ∷ xs) all =
    let first : alike x f ≡ true = laws.turned f x (first_so (alike f x) (list_all (alike f) xs) all) in
    let rest : list_all (alike f) xs ≡ true = second_so (alike f x) (list_all (alike f) xs) all in
    ap (λ (ys : Fates). nat_lt 1 (suc (length ys)))
    (kept_none (λ y. not (alike x y)) (firsts alike xs) (λ y is. ap not (laws.joined x f y first (all_one (alike f) xs y rest (firsts_among alike xs y is)))))

kept_few : (test : Option Fate → Bool) (xs : Fates) → length (filter test xs) ≤ length xs
kept_few test [] = omega arith
kept_few test (x ∷ xs) = by (kept_few test xs) (test x)
  where
    by : length (filter test xs) ≤ length xs → (b : Bool) → length (if b then x ∷ filter test xs else filter test xs) ≤ suc (length xs)
    by few true = omega (arith, few)
    by few false = omega (arith, few)

kept_less : (test : Option Fate → Bool) (xs : Fates) → list_all test xs ≡ false → length (filter test xs) < length xs
kept_less test [] is = absurd (false≢true (sym is))
kept_less test (x ∷ xs) is = by (kept_less test xs) (kept_few test xs) (test x) is
  where
    by : (list_all test xs ≡ false → length (filter test xs) < length xs) → length (filter test xs) ≤ length xs → (b : Bool) → (b && list_all test xs) ≡ false
        → length (if b then x ∷ filter test xs else filter test xs) < suc (length xs)
    by again few true own = let less = again own in omega (arith, less)
    by again few false own = omega (arith, few)

some_long : (xs : Fates) (x : Option Fate) → IsAmong xs x → 0 < length xs
some_long [] x is = absurd is
some_long (y ∷ ys) x is = omega arith

-- a group of a split
record IsGroup (fates group : Fates) : Type 0 where
  some : 0 < length group
  less : length group < length fates

group_of : (alike : Option Fate → Option Fate → Bool) (laws : AreKinds alike) (fates : Fates) (f : Option Fate) → IsAmong (firsts alike fates) f → nat_lt 1 (length (firsts alike fates)) ≡ true
    → IsGroup fates (filter (alike f) fates)
group_of alike laws fates f is many = record {
  some = some_long (filter (alike f) fates) f (kept_among (alike f) fates f (firsts_among alike fates f is) (laws.own f));
  less = by (list_all (alike f) fates) refl;
}
  where
    by : (b : Bool) → list_all (alike f) fates ≡ b → length (filter (alike f) fates) < length fates
    by true all = absurd (false≢true (sym (one_kind alike laws f fates all) ∙ many))
    by false all = kept_less (alike f) fates all

split_group : (c : Case) (it : Split) (group : Fates) → IsSplit c it → IsAmong it.groups group → IsGroup (c it.part) group
split_group c it group is among =
    let alike = show_alike it.part is.unit is.pieces in
    let one = among_mapped (λ f. filter (alike f) (c it.part)) (firsts alike (c it.part)) group (subst (λ (gs : List Fates). IsAmong gs group) is.groups among) in
    subst (λ (g : Fates). IsGroup (c it.part) g) one.2 (group_of alike (shown_kinds it.part is.unit is.pieces) (c it.part) one.0 one.1 is.many)

-- how much may still become of some parts

abbrev spare : Case → List Part → ℕ
spare c [] = 0
spare c (p ∷ ps) = (length (c p) - 1) + spare c ps

part_few : (c : Case) (p q : Part) (group : Fates) → IsGroup (c p) group → length (with_part c p group q) ≤ length (c q)
part_few c p q group is = by (is_same p q) refl
  where
    by : (b : Bool) → is_same p q ≡ b → length (if b then group else c q) ≤ length (c q)
    by true own = let same = ap (λ (r : Part). length (c r)) (same_part p q own) in let less = is.less in omega (arith, same, less)
    by false own = omega arith

spare_few : (c : Case) (p : Part) (group : Fates) (ps : List Part) → IsGroup (c p) group → spare (with_part c p group) ps ≤ spare c ps
spare_few c p group [] is = omega arith
spare_few c p group (q ∷ ps) is = let one = part_few c p q group is in let rest = spare_few c p group ps is in omega (arith, one, rest)

spare_less : (c : Case) (p : Part) (group : Fates) (ps : List Part) → IsGroup (c p) group → IsAmong ps p → spare (with_part c p group) ps < spare c ps
spare_less c p group [] is among = absurd among
spare_less c p group (q ∷ ps) is (inl same) =
    let own : is_same p q ≡ true = ap (is_same p) same ∙ own_part p in
    let one : length (with_part c p group q) ≡ length group = ap (λ b. length (if b then group else c q)) own in
    let two : length (c q) ≡ length (c p) = ap (λ (r : Part). length (c r)) same in
    let rest = spare_few c p group ps is in
    let some = is.some in
    let less = is.less in
    omega (arith, one, two, rest, some, less)
spare_less c p group (q ∷ ps) is (inr later) = let one = part_few c p q group is in let rest = spare_less c p group ps is later in omega (arith, one, rest)

-- the part of a split is at risk

with_entry : (way : By) (log : LogValue) (u : LogUnit) → (part_with way log.entries u).entry ≡ u.entry
with_entry ways.Sector log u = refl
with_entry ways.Write log u = refl

unit_at_risk : (log : LogValue) (way : By) (k : ℕ) (u : LogUnit) → k ≤ length log.entries → IsAmong (units_before log.entries k) u → is_at_risk log.entries k u.entry ≡ true
    → IsAmong (parts_at_risk way log.entries k) (part_with way log.entries u)
unfolding parts_at_risk
unit_at_risk log way k u le among risk =
    let es = log.entries in
    let was = unit_before es k u le among in
    let own : part_of way was.entry was.own (own_place way was.place) ≡ part_with way es u = own_is way es was.entry was.own was.place was.there ∙ ap (part_with way es) was.is in
    let P : Part → Type 0 = λ p. IsAmong (parts_before way es k) p in
    kept_among (λ (p : Part). is_at_risk es k p.entry) (parts_before way es k) (part_with way es u)
    (subst P own (before_part way es k was.entry was.own (own_place way was.place) le was.before was.there (own_within way was.own was.place was.within)))
    (ap (is_at_risk es k) (with_entry way log u) ∙ risk)

here_at_risk : (parts : List Part) (below : List ℕ → Option Split) (p : Part) (u : LogUnit) (pieces : List ℕ) (fates : Fates) (it : Split) → split_or below p u pieces fates ≡ Some it → IsAmong parts p
    → ((wanted : List ℕ) → below wanted ≡ Some it → IsAmong parts it.part) → IsAmong parts it.part
here_at_risk parts below p u pieces fates it is own rest = by (nat_lt 1 (length (firsts (show_alike p u pieces) fates))) is
  where
    by : (b : Bool) → (if b then Some (record { part = p; groups = kinds (show_alike p u pieces) fates }) else below (filter (λ i. not (shows (slice_index_or fates 0 None) p u i)) pieces)) ≡ Some it
        → IsAmong parts it.part
    by true here =
        let made : Split = record { part = p; groups = kinds (show_alike p u pieces) fates } in
        let same : made ≡ it = same_Some made it here in
        subst (λ (x : Split). IsAmong parts x.part) same own
    by false here = rest (filter (λ i. not (shows (slice_index_or fates 0 None) p u i)) pieces) here

row_at_risk : (log : LogValue) (way : By) (k s : ℕ) (c : Case) (us : List LogUnit) (wanted : List ℕ) (it : Split) → k ≤ length log.entries
    → ((u : LogUnit) → IsAmong us u → IsAmong (units_before log.entries k) u) → split_in_row log way k s c us wanted ≡ Some it → IsAmong (parts_at_risk way log.entries k) it.part
row_at_risk log way k s c [] wanted it le among is = absurd (let bad : None ≡ Some it = is in cc)
row_at_risk log way k s c (u ∷ below) wanted it le among is =
    by (λ others own. row_at_risk log way k s c below others it le (λ v in_it. among v (inr in_it)) own) (is_at_risk log.entries k u.entry) refl is
  where
    by : ((others : List ℕ) → split_in_row log way k s c below others ≡ Some it → IsAmong (parts_at_risk way log.entries k) it.part) → (b : Bool) → is_at_risk log.entries k u.entry ≡ b
        → (if b then split_or (split_in_row log way k s c below) (part_with way log.entries u) u (filter (matters log k s u below) wanted) (c (part_with way log.entries u)) else None) ≡ Some it
        → IsAmong (parts_at_risk way log.entries k) it.part
    by again true risk here =
        here_at_risk (parts_at_risk way log.entries k) (split_in_row log way k s c below) (part_with way log.entries u) u (filter (matters log k s u below) wanted) (c (part_with way log.entries u)) it here
        (unit_at_risk log way k u le (among u (inl refl)) risk) again
    by again false risk here = absurd (let bad : None ≡ Some it = here in cc)

split_at_risk : (log : LogValue) (way : By) (k : ℕ) (c : Case) (sectors : List ℕ) (it : Split) → k ≤ length log.entries → first_split log way k c sectors ≡ Some it
    → IsAmong (parts_at_risk way log.entries k) it.part
split_at_risk log way k c [] it le is = absurd (let bad : None ≡ Some it = is in cc)
split_at_risk log way k c (s ∷ sectors) it le is =
    by (λ own. split_at_risk log way k c sectors it le own) (split_in_row log way k s c (row log.entries k s) (range_with_len 0 8)) refl is
  where
    by : (first_split log way k c sectors ≡ Some it → IsAmong (parts_at_risk way log.entries k) it.part) → (o : Option Split) → split_in_row log way k s c (row log.entries k s) (range_with_len 0 8) ≡ o
        → or_else o (first_split log way k c sectors) ≡ Some it → IsAmong (parts_at_risk way log.entries k) it.part
    by again None own here = again here
    by again (Some x) own here =
        let same : x ≡ it = same_Some x it here in
        row_at_risk log way k s c (row log.entries k s) (range_with_len 0 8) it le (row_units log.entries k s) (own ∙ ap (λ y. Some y) same)

-- each of some cases has less to spare than n

abbrev Below : List Part → ℕ → List Case → Type 0
Below parts n [] = Unit {0}
Below parts n (c ∷ cs) = (spare c parts < n) × Below parts n cs

below_both : (parts : List Part) (n : ℕ) (cs ds : List Case) → Below parts n cs → Below parts n ds → Below parts n (cs ++ ds)
below_both parts n [] ds one two = two
below_both parts n (c ∷ cs) ds one two = (one.0, below_both parts n cs ds one.1 two)

groups_below : (c : Case) (p : Part) (parts : List Part) (n : ℕ) (groups : List Fates) → IsAmong parts p → spare c parts ≤ n → ((group : Fates) → IsAmong groups group → IsGroup (c p) group)
    → Below parts n (map (with_part c p) groups)
groups_below c p parts n [] among few each = tt
groups_below c p parts n (g ∷ gs) among few each =
    let less = spare_less c p g parts (each g (inl refl)) among in (
      omega (arith, less, few),
      groups_below c p parts n gs among few (λ h is. each h (inr is)),
    )

abbrev children : Case → Split → List Case
children c it = map (with_part c it.part) it.groups

children_below : (asked : Losses) (at : CutValue) (v : RecordsValue) (c : Case) (it : Split) (n : ℕ) → at.cut ≤ length at.log.entries → split_of (subject_at asked at v) c ≡ Some it → spare c (parts_of at) ≤ n
    → Below (parts_of at) n (children c it)
children_below asked at v c it n le is few =
    let own = first_is at.log at.way at.cut c _ it is in
    groups_below c it.part (parts_of at) n it.groups (split_at_risk at.log at.way at.cut c _ it le is) few (λ g among. split_group c it g own among)

leads_below : (asked : Losses) (at : CutValue) (v : RecordsValue) (n : ℕ) (to cs ls left : List Case) → at.cut ≤ length at.log.entries → LeadTo (subject_at asked at v) to cs ls left
    → Below (parts_of at) n cs → Below (parts_of at) n ls
leads_below asked at v n to cs ls left le are_there below = tt
leads_below asked at v n to cs ls left le (past_beyond c rest ls2 left2 out more) below = leads_below asked at v n to rest ls left2 le more below.1
leads_below asked at v n to cs ls left le (past_leaf c rest ls2 left2 within whole more) below = (below.0, leads_below asked at v n to rest ls2 left le more below.1)
leads_below asked at v n to cs ls left le (past_split c it rest ls2 left2 within is more) below =
    let less = below.0 in
    leads_below asked at v n to (children c it ++ rest) ls left le more
    (below_both (parts_of at) n (children c it) rest (children_below asked at v c it n le is (omega (arith, less))) below.1)

-- a case with a choice that isn't beyond what is asked has a group with one

record IsBest (fates : Fates) (f : Option Fate) : Type 0 where
  among : IsAmong fates f
  lost : is_lost f ≡ true → list_all is_lost fates ≡ true
  torn : is_torn f ≡ true → list_all is_torn fates ≡ true

best_one : (f : Option Fate) → IsBest (f ∷ []) f
best_one f = record { among = inl refl; lost = λ is. both_true (is_lost f) true is refl; torn = λ is. both_true (is_torn f) true is refl }

no_torn : (f : Option Fate) → is_lost f ≡ false → is_torn f ≡ false
no_torn None is = refl
no_torn (Some f) is = absurd (false≢true (sym is))

never : {A : Type 0} (b : Bool) → b ≡ false → b ≡ true → A
never b one two = absurd (false≢true (sym one ∙ two))

best_more : (x : Option Fate) (fates : Fates) (f : Option Fate) → IsBest fates f → (y : Option Fate) × IsBest (x ∷ fates) y
best_more x fates f best = by (is_lost x) (is_lost f) (is_torn x) (is_torn f) refl refl refl refl
  where
    own : is_lost x ≡ false → (y : Option Fate) × IsBest (x ∷ fates) y
    own is = (x, record { among = inl refl; lost = never (is_lost x) is; torn = never (is_torn x) (no_torn x is) })

    other : is_lost f ≡ false → (y : Option Fate) × IsBest (x ∷ fates) y
    other is = (f, record { among = inr best.among; lost = never (is_lost f) is; torn = never (is_torn f) (no_torn f is) })

    by : (a b t u : Bool) → is_lost x ≡ a → is_lost f ≡ b → is_torn x ≡ t → is_torn f ≡ u → (y : Option Fate) × IsBest (x ∷ fates) y
    by false b t u one two three four = own one
    by true false t u one two three four = other two
    by true true false u one two three four =
        (x, record { among = inl refl; lost = λ is. both_true (is_lost x) (list_all is_lost fates) is (best.lost two); torn = never (is_torn x) three })
    by true true true false one two three four =
        (f, record { among = inr best.among; lost = λ is. both_true (is_lost x) (list_all is_lost fates) one (best.lost is); torn = never (is_torn f) four })
    by true true true true one two three four = (
      x,
      record {
        among = inl refl;
        lost = λ is. both_true (is_lost x) (list_all is_lost fates) is (best.lost two);
        torn = λ is. both_true (is_torn x) (list_all is_torn fates) is (best.torn four);
      },
    )

best_of : (x : Option Fate) (fates : Fates) → (y : Option Fate) × IsBest (x ∷ fates) y
best_of x [] = (x, best_one x)
best_of x (z ∷ fates) = let rest = best_of z fates in best_more x (z ∷ fates) rest.0 rest.1

best_there : (fates : Fates) → 0 < length fates → (y : Option Fate) × IsBest fates y
best_there [] some = absurd (omega (arith, some))
best_there (x ∷ fates) some = best_of x fates

counted_few : (p q : Part → Bool) (xs : List Part) → ((x : Part) → p x ≡ true → q x ≡ true) → count_by p xs ≤ count_by q xs
counted_few p q [] on = omega arith
counted_few p q (x ∷ xs) on =
    let one = sum_by-cons (λ (y : Part). if p y then 1 else 0) x xs in
    let two = sum_by-cons (λ (y : Part). if q y then 1 else 0) x xs in
    let rest = counted_few p q xs on in
    let here = at_one (p x) (q x) (on x) in
    omega (arith, one, two, rest, here)
  where
    at_one : (a b : Bool) → (a ≡ true → b ≡ true) → (if a then 1 else 0) ≤ (if b then 1 else 0)
    at_one true true on = omega arith
    at_one true false on = absurd (false≢true (on refl))
    at_one false true on = omega arith
    at_one false false on = omega arith

part_surely : (test : Option Fate → Bool) (c : Case) (p : Part) (group : Fates) (q : Part) → (list_all test group ≡ true → list_all test (c p) ≡ true) → list_all test (with_part c p group q) ≡ true
    → list_all test (c q) ≡ true
part_surely test c p group q on = by (is_same p q) refl
  where
    by : (b : Bool) → is_same p q ≡ b → list_all test (if b then group else c q) ≡ true → list_all test (c q) ≡ true
    by true own all = subst (λ (r : Part). list_all test (c r) ≡ true) (same_part p q own) (on all)
    by false own all = all

group_within : (s : Subject) (c : Case) (p : Part) (group : Fates) (f : Option Fate) → IsBest (c p) f → IsAmong group f → is_within s c ≡ true → is_within s (with_part c p group) ≡ true
group_within s c p group f best among is =
    let torn_few : surely s is_torn (with_part c p group) ≤ surely s is_torn c =
    counted_few (λ (q : Part). list_all is_torn (with_part c p group q)) (λ (q : Part). list_all is_torn (c q)) (parts_at_risk s.way s.log.entries s.cut)
    (λ q. part_surely is_torn c p group q (λ all. best.torn (all_one is_torn group f all among))) in
    let lost_few : surely s is_lost (with_part c p group) ≤ surely s is_lost c =
    counted_few (λ (q : Part). list_all is_lost (with_part c p group q)) (λ (q : Part). list_all is_lost (c q)) (parts_at_risk s.way s.log.entries s.cut)
    (λ q. part_surely is_lost c p group q (λ all. best.lost (all_one is_lost group f all among))) in
    let torn_is = leb-true (surely s is_torn c) s.torn (first_so (nat_le (surely s is_torn c) s.torn) (option_map_or (λ n. nat_le (surely s is_lost c) n) s.lost true) is) in
    both_true (nat_le (surely s is_torn (with_part c p group)) s.torn) (option_map_or (λ n. nat_le (surely s is_lost (with_part c p group)) n) s.lost true)
    (le-leb (surely s is_torn (with_part c p group)) s.torn (omega (arith, torn_few, torn_is)))
    (by s.lost (second_so (nat_le (surely s is_torn c) s.torn) (option_map_or (λ n. nat_le (surely s is_lost c) n) s.lost true) is) lost_few)
  where
    by : (o : Option ℕ) → option_map_or (λ n. nat_le (surely s is_lost c) n) o true ≡ true → surely s is_lost (with_part c p group) ≤ surely s is_lost c
        → option_map_or (λ n. nat_le (surely s is_lost (with_part c p group)) n) o true ≡ true
    by None most few = refl
    by (Some n) most few = let le = leb-true (surely s is_lost c) n most in le-leb (surely s is_lost (with_part c p group)) n (omega (arith, le, few))

-- one of some cases isn't beyond what is asked
abbrev HasWithin : Subject → List Case → Type 0
HasWithin s [] = ⊥
HasWithin s (c ∷ cs) = (is_within s c ≡ true) ⊎ HasWithin s cs

within_both : (s : Subject) (cs ds : List Case) → HasWithin s cs → HasWithin s (cs ++ ds)
within_both s [] ds has = absurd has
within_both s (c ∷ cs) ds (inl own) = inl own
within_both s (c ∷ cs) ds (inr rest) = inr (within_both s cs ds rest)

within_mapped : (s : Subject) (f : Fates → Case) (groups : List Fates) (g : Fates) → IsAmong groups g → is_within s (f g) ≡ true → HasWithin s (map f groups)
within_mapped s f [] g among is = absurd among
within_mapped s f (h ∷ hs) g (inl same) is = inl (ap (λ (x : Fates). is_within s (f x)) same ∙ is)
within_mapped s f (h ∷ hs) g (inr rest) is = inr (within_mapped s f hs g rest is)

child_within : (s : Subject) (c : Case) (it : Split) → is_within s c ≡ true → IsSplit c it → HasWithin s (children c it)
child_within s c it is own =
    let alike = show_alike it.part own.unit own.pieces in
    let laws = shown_kinds it.part own.unit own.pieces in
    let fates = c it.part in
    let best = best_there fates (long (firsts alike fates) refl) in
    let first = one_of (λ f. alike f best.0 ≡ true) (firsts alike fates) (one_first alike laws fates best.0 best.1.among) in
    let group : Fates = filter (alike first.0) fates in
    let there : IsAmong (map (λ f. filter (alike f) fates) (firsts alike fates)) group = mapped_among (λ f. filter (alike f) fates) (firsts alike fates) first.0 first.1 in
    within_mapped s (with_part c it.part) it.groups group (subst (λ (gs : List Fates). IsAmong gs group) (sym own.groups) there)
    (group_within s c it.part group best.0 best.1 (kept_among (alike first.0) fates best.0 best.1.among first.2) is)
  where
    long : (fs : Fates) → firsts (show_alike it.part own.unit own.pieces) (c it.part) ≡ fs → 0 < length (c it.part)
    long [] none = absurd (false≢true (sym (ap (λ (gs : Fates). nat_lt 1 (length gs)) none) ∙ own.many))
    long (f ∷ fs) some =
        some_long (c it.part) f (firsts_among (show_alike it.part own.unit own.pieces) (c it.part) f (subst (λ (gs : Fates). IsAmong gs f) (sym some) (inl refl)))

-- by which record a case is told

abbrev told_in : CutValue → RecordsValue → Case → Option KnownRun
told_in at v c = first_telling v.log v.way (marks_at at.log.entries at.cut) (image_of at c) v.runs

found_more : {A : Type 0} (p : A → Bool) (xs ys : List A) (x : A) → find p xs ≡ Some x → find p (xs ++ ys) ≡ Some x
found_more p [] ys x is = absurd (let bad : None ≡ Some x = is in cc)
found_more p (y ∷ xs) ys x is = by (λ own. found_more p xs ys x own) (p y) is
  where
    by : (find p xs ≡ Some x → find p (xs ++ ys) ≡ Some x) → (b : Bool) → cond b (Some y) (find p xs) ≡ Some x → cond b (Some y) (find p (xs ++ ys)) ≡ Some x
    by again true own = own
    by again false own = again own

told_stays : (at : CutValue) (was now : RecordsValue) (c : Case) (r : KnownRun) → IsMore was now → told_in at was c ≡ Some r → told_in at now c ≡ Some r
told_stays at was now c r more is =
    (λ i. first_telling (more.log i) (more.way i) (marks_at at.log.entries at.cut) (image_of at c) (more.put i))
    ∙ found_more (tells was.log was.way (marks_at at.log.entries at.cut) (image_of at c)) was.runs more.more r is

-- an open case isn't split, and what is told stays as it is

open_whole : (asked : Losses) (at : CutValue) (v : RecordsValue) (c : Case) → told_in at v c ≡ None → split_of (subject_at asked at v) c ≡ None
open_whole asked at v c none = ap (λ o. first_split at.log at.way at.cut c (told_looks o)) none

split_stays : (asked : Losses) (at : CutValue) (was now : RecordsValue) (c : Case) (r : KnownRun) → IsMore was now → told_in at was c ≡ Some r
    → split_of (subject_at asked at now) c ≡ split_of (subject_at asked at was) c
split_stays asked at was now c r more is = ap (λ o. first_split at.log at.way at.cut c (told_looks o)) (told_stays at was now c r more is ∙ sym is)

-- where a search is to stop, by how many cases it met, and whether one of these is told and fails

abbrev failing_in : CutValue → RecordsValue → Case → Bool
failing_in at v c = option_map_or (λ (r : KnownRun). fails (ending_of r.end)) (told_in at v c) false

abbrev stop_at : Stops → ℕ → Bool → Bool
stop_at stops n failed = (stops.at_failing && failed) || option_map_or (λ k. nat_le k n) stops.cases false

failing_stays : (at : CutValue) (was now : RecordsValue) (c : Case) → IsMore was now → failing_in at was c ≡ true → failing_in at now c ≡ true
failing_stays at was now c more is = by (told_in at was c) refl is
  where
    by : (o : Option KnownRun) → told_in at was c ≡ o → option_map_or (λ (r : KnownRun). fails (ending_of r.end)) o false ≡ true → failing_in at now c ≡ true
    by None none own = absurd (false≢true own)
    by (Some r) some own = ap (λ o. option_map_or (λ (x : KnownRun). fails (ending_of x.end)) o false) (told_stays at was now c r more some) ∙ own

stop_sooner : (stops : Stops) (a b : ℕ) (one two : Bool) → stop_at stops a one ≡ true → a ≤ b → (one ≡ true → two ≡ true) → stop_at stops b two ≡ true
stop_sooner stops a b one two is few on = by stops.at_failing one two stops.cases on is
  where
    later : (o : Option ℕ) → option_map_or (λ k. nat_le k a) o false ≡ true → option_map_or (λ k. nat_le k b) o false ≡ true
    later None own = own
    later (Some k) own = let le = leb-true k a own in le-leb k b (omega (arith, le, few))

    or_true : (x : Bool) → (x || true) ≡ true
    or_true true = refl
    or_true false = refl

    by : (f x y : Bool) (o : Option ℕ) → (x ≡ true → y ≡ true) → ((f && x) || option_map_or (λ k. nat_le k a) o false) ≡ true → ((f && y) || option_map_or (λ k. nat_le k b) o false) ≡ true
    by true true y o same own = ap (λ z. z || option_map_or (λ k. nat_le k b) o false) (same refl)
    by true false y o same own = ap (λ z. y || z) (later o own) ∙ or_true y
    by false x y o same own = later o own

-- the search before some records were appended, and the one after it, at one cut

record Pair : Type 0 where
  asked : Losses
  at : CutValue
  was : RecordsValue
  now : RecordsValue
  stops : Stops
  most : ℕ
  within : at.cut ≤ length at.log.entries
  more : IsMore was now

abbrev old : Pair → Subject
old x = subject_at x.asked x.at x.was

abbrev new : Pair → Subject
new x = subject_at x.asked x.at x.now

-- the open ones of some cases have less to spare than n
abbrev OpenBelow : CutValue → RecordsValue → ℕ → List Case → Type 0
OpenBelow at v n [] = Unit {0}
OpenBelow at v n (c ∷ cs) = (told_in at v c ≡ None → spare c (parts_of at) < n) × OpenBelow at v n cs

-- the open ones of the search before have no more than `most`, and are told now
abbrev Met : Pair → List Case → Type 0
Met x [] = Unit {0}
Met x (c ∷ cs) = (told_in x.at x.was c ≡ None → (spare c (parts_of x.at) ≤ x.most) × (told_in x.at x.now c ≡ None → ⊥)) × Met x cs

-- the search before ended with the last of some cases, after n others, of which one fails or doesn't
abbrev EndsAt : Pair → List Case → ℕ → Bool → List Case → Type 0
EndsAt x to n failed [] = (to ≡ []) ⊎ (stop_at x.stops n failed ≡ true)
EndsAt x to n failed (c ∷ cs) = EndsAt x to (n + 1) (failed || failing_in x.at x.was c) cs

-- the search after it doesn't stop before the last of some cases
abbrev Going : Pair → ℕ → Bool → List Case → Type 0
Going x n failed [] = Unit {0}
Going x n failed (c ∷ cs) = (stop_at x.stops n failed ≡ false) × Going x (n + 1) (failed || failing_in x.at x.now c) cs

-- The search after it is at some parts of a case that was open, and then at the cases at which the search before is. It met no fewer
-- cases, or one of those parts leads to a case.
record Beside (x : Pair) (ds cs : List Case) (n : ℕ) (failed : Bool) : Type 0 where
  to : List Case
  ls : List Case
  left : List Case
  leads : LeadTo (old x) to cs ls left
  count : ℕ
  was_failed : Bool
  few : Below (parts_of x.at) x.most ds
  owes : (count ≤ n) ⊎ ((count ≤ n + 1) × HasWithin (new x) ds)
  failing : was_failed ≡ true → failed ≡ true
  met : Met x ls
  ended : EndsAt x to count was_failed ls

-- both go on with the cases that are left
record Next (x : Pair) (rest : List Case) (n : ℕ) (failed : Bool) : Type 0 where
  ds : List Case
  cs : List Case
  are : rest ≡ ds ++ cs
  beside : Beside x ds cs n failed

abbrev NextOr : Pair → List Case → ℕ → Bool → Type 0
NextOr x rest n failed = Next x rest n failed ⊎ (stop_at x.stops n failed ≡ true)

-- what the search before makes of its next case
data Step (s : Subject) (to : List Case) (c : Case) (rest ls : List Case) : Type 0 where
  at_end : to ≡ c ∷ rest → ls ≡ [] → Step s to c rest ls
  at_beyond : (left : List Case) → is_within s c ≡ false → LeadTo s to rest ls left → Step s to c rest ls
  at_leaf : (more left : List Case) → is_within s c ≡ true → split_of s c ≡ None → ls ≡ c ∷ more → LeadTo s to rest more left → Step s to c rest ls
  at_parted : (it : Split) (left : List Case) → is_within s c ≡ true → split_of s c ≡ Some it → LeadTo s to (children c it ++ rest) ls left → Step s to c rest ls

step_of : (s : Subject) (to cs ls left : List Case) (c : Case) (rest : List Case) → LeadTo s to cs ls left → cs ≡ c ∷ rest → Step s to c rest ls
step_of s to cs ls left c rest are_there e = at_end e refl
step_of s to cs ls left c rest (past_beyond b bs ls2 left2 out more) e =
    at_beyond left2 (subst (λ (x : Case). is_within s x ≡ false) (same_head b c bs rest e) out) (subst (λ (xs : List Case). LeadTo s to xs ls left2) (same_tail b c bs rest e) more)
step_of s to cs ls left c rest (past_leaf b bs ls2 left2 within whole more) e =
    at_leaf ls2 left (subst (λ (x : Case). is_within s x ≡ true) (same_head b c bs rest e) within) (subst (λ (x : Case). split_of s x ≡ None) (same_head b c bs rest e) whole)
    (ap (λ (x : Case). x ∷ ls2) (same_head b c bs rest e)) (subst (λ (xs : List Case). LeadTo s to xs ls2 left) (same_tail b c bs rest e) more)
step_of s to cs ls left c rest (past_split b it bs ls2 left2 within is more) e =
    at_parted it left (subst (λ (x : Case). is_within s x ≡ true) (same_head b c bs rest e) within) (subst (λ (x : Case). split_of s x ≡ Some it) (same_head b c bs rest e) is)
    (subst (λ (xs : List Case). LeadTo s to (children c it ++ xs) ls left) (same_tail b c bs rest e)
    (subst (λ (x : Case). LeadTo s to (children x it ++ bs) ls left) (same_head b c bs rest e) more))

no_owed : (x : Pair) (count n : ℕ) → (count ≤ n) ⊎ ((count ≤ n + 1) × HasWithin (new x) []) → count ≤ n
no_owed x count n (inl few) = few
no_owed x count n (inr owed) = absurd owed.1

-- the search before is at its end
stopped : (x : Pair) (c : Case) (rest cs : List Case) (n : ℕ) (failed : Bool) (s : Beside x [] cs n failed) → s.to ≡ c ∷ rest → s.ls ≡ [] → stop_at x.stops n failed ≡ true
stopped x c rest cs n failed s ended none = by (subst (EndsAt x s.to s.count s.was_failed) none s.ended)
  where
    by : (s.to ≡ []) ⊎ (stop_at x.stops s.count s.was_failed ≡ true) → stop_at x.stops n failed ≡ true
    by (inl gone) = absurd (let bad : c ∷ rest ≡ [] = sym ended ∙ gone in cc)
    by (inr stop) = stop_sooner x.stops s.count n s.was_failed failed stop (no_owed x s.count n s.owes) s.failing

-- a case beyond what is asked
past_out : (x : Pair) (c : Case) (rest ds cs : List Case) (n : ℕ) (failed : Bool) → c ∷ rest ≡ ds ++ cs → is_within (new x) c ≡ false → Beside x ds cs n failed → NextOr x rest n failed
past_out x c rest [] cs n failed e out s = by (step_of (old x) s.to cs s.ls s.left c rest s.leads (sym e))
  where
    by : Step (old x) s.to c rest s.ls → NextOr x rest n failed
    by (at_end ended none) = inr (stopped x c rest cs n failed s ended none)
    by (at_beyond left gone more) = inl (record {
      ds = [];
      cs = rest;
      are = refl;
      beside = record {
        to = s.to;
        ls = s.ls;
        left = left;
        leads = more;
        count = s.count;
        was_failed = s.was_failed;
        few = tt;
        owes = s.owes;
        failing = s.failing;
        met = s.met;
        ended = s.ended;
      };
    })
    by (at_leaf more left within whole is leads) = never (is_within (new x) c) out within
    by (at_parted it left within is leads) = never (is_within (new x) c) out within
past_out x c rest (d ∷ ds) cs n failed e out s = inl (record {
  ds = ds;
  cs = cs;
  are = same_tail c d rest (ds ++ cs) e;
  beside = record {
    to = s.to;
    ls = s.ls;
    left = s.left;
    leads = s.leads;
    count = s.count;
    was_failed = s.was_failed;
    few = s.few.1;
    owes = by s.owes;
    failing = s.failing;
    met = s.met;
    ended = s.ended;
  };
})
  where
    by : (s.count ≤ n) ⊎ ((s.count ≤ n + 1) × HasWithin (new x) (d ∷ ds)) → (s.count ≤ n) ⊎ ((s.count ≤ n + 1) × HasWithin (new x) ds)
    by (inl few) = inl few
    by (inr owed) = rest_of owed.1
      where
        rest_of : HasWithin (new x) (d ∷ ds) → (s.count ≤ n) ⊎ ((s.count ≤ n + 1) × HasWithin (new x) ds)
        rest_of (inl own) = never (is_within (new x) c) out (ap (is_within (new x)) (same_head c d rest (ds ++ cs) e) ∙ own)
        rest_of (inr others) = inr (owed.0, others)

or_more : (a b x y : Bool) → (a ≡ true → b ≡ true) → (x ≡ true → y ≡ true) → (a || x) ≡ true → (b || y) ≡ true
or_more true true x y one two is = refl
or_more true false x y one two is = absurd (false≢true (one refl))
or_more false true x y one two is = refl
or_more false false x y one two is = two is

-- a leaf
record AtLeaf (x : Pair) (c : Case) (rest : List Case) (n : ℕ) (failed : Bool) : Type 0 where
  own : told_in x.at x.now c ≡ None → spare c (parts_of x.at) < x.most
  next : Next x rest (n + 1) (failed || failing_in x.at x.now c)

past_whole : (x : Pair) (c : Case) (rest ds cs : List Case) (n : ℕ) (failed : Bool) → c ∷ rest ≡ ds ++ cs → is_within (new x) c ≡ true → split_of (new x) c ≡ None → Beside x ds cs n failed
    → AtLeaf x c rest n failed ⊎ (stop_at x.stops n failed ≡ true)
past_whole x c rest [] cs n failed e within whole s = by (step_of (old x) s.to cs s.ls s.left c rest s.leads (sym e))
  where
    told_now : (told_in x.at x.was c ≡ None → (spare c (parts_of x.at) ≤ x.most) × (told_in x.at x.now c ≡ None → ⊥)) → (o : Option KnownRun) → told_in x.at x.was c ≡ o → told_in x.at x.now c ≡ None
        → spare c (parts_of x.at) < x.most
    told_now met None none now_none = absurd ((met none).1 now_none)
    told_now met (Some r) some now_none = absurd (let bad : Some r ≡ None = sym (told_stays x.at x.was x.now c r x.more some) ∙ now_none in cc)

    not_parted : (it : Split) → split_of (old x) c ≡ Some it → (o : Option KnownRun) → told_in x.at x.was c ≡ o → ⊥
    not_parted it is None none = let bad : ◌≡◌ {A = Option Split} None (Some it) = sym (open_whole x.asked x.at x.was c none) ∙ is in cc
    not_parted it is (Some r) some = let bad : ◌≡◌ {A = Option Split} None (Some it) = sym whole ∙ split_stays x.asked x.at x.was x.now c r x.more some ∙ is in cc

    by : Step (old x) s.to c rest s.ls → AtLeaf x c rest n failed ⊎ (stop_at x.stops n failed ≡ true)
    by (at_end ended none) = inr (stopped x c rest cs n failed s ended none)
    by (at_beyond left gone more) = never (is_within (new x) c) gone within
    by (at_leaf more left inside none is leads) =
        let met : Met x (c ∷ more) = subst (Met x) is s.met in
        let few = no_owed x s.count n s.owes in
        inl (record {
          own = told_now met.0 (told_in x.at x.was c) refl;
          next = record {
            ds = [];
            cs = rest;
            are = refl;
            beside = record {
              to = s.to;
              ls = more;
              left = left;
              leads = leads;
              count = s.count + 1;
              was_failed = s.was_failed || failing_in x.at x.was c;
              few = tt;
              owes = inl (omega (arith, few));
              failing = or_more s.was_failed failed (failing_in x.at x.was c) (failing_in x.at x.now c) s.failing (failing_stays x.at x.was x.now c x.more);
              met = met.1;
              ended = subst (EndsAt x s.to s.count s.was_failed) is s.ended;
            };
          };
        })
    by (at_parted it left inside is leads) = absurd (not_parted it is (told_in x.at x.was c) refl)
past_whole x c rest (d ∷ ds) cs n failed e within whole s = inl (record {
  own = λ none. subst (λ (y : Case). spare y (parts_of x.at) < x.most) (sym (same_head c d rest (ds ++ cs) e)) s.few.0;
  next = record {
    ds = ds;
    cs = cs;
    are = same_tail c d rest (ds ++ cs) e;
    beside = record {
      to = s.to;
      ls = s.ls;
      left = s.left;
      leads = s.leads;
      count = s.count;
      was_failed = s.was_failed;
      few = s.few.1;
      owes = by s.owes;
      failing = λ is. ap (λ b. b || failing_in x.at x.now c) (s.failing is);
      met = s.met;
      ended = s.ended;
    };
  };
})
  where
    by : (s.count ≤ n) ⊎ ((s.count ≤ n + 1) × HasWithin (new x) (d ∷ ds)) → (s.count ≤ n + 1) ⊎ ((s.count ≤ n + 1 + 1) × HasWithin (new x) ds)
    by (inl few) = inl (omega (arith, few))
    by (inr owed) = inl owed.0

-- a case that is split
past_parted : (x : Pair) (c : Case) (it : Split) (rest ds cs : List Case) (n : ℕ) (failed : Bool) → c ∷ rest ≡ ds ++ cs → is_within (new x) c ≡ true → split_of (new x) c ≡ Some it → Beside x ds cs n failed
    → NextOr x (children c it ++ rest) n failed
past_parted x c it rest [] cs n failed e within is s = by (step_of (old x) s.to cs s.ls s.left c rest s.leads (sym e))
  where
    own : IsSplit c it
    own = first_is x.at.log x.at.way x.at.cut c _ it is

    was_open : split_of (old x) c ≡ None → (o : Option KnownRun) → told_in x.at x.was c ≡ o → told_in x.at x.was c ≡ None
    was_open whole None none = none
    was_open whole (Some r) some = absurd (let bad : ◌≡◌ {A = Option Split} None (Some it) = sym whole ∙ sym (split_stays x.asked x.at x.was x.now c r x.more some) ∙ is in cc)

    one_split : (other : Split) → split_of (old x) c ≡ Some other → (o : Option KnownRun) → told_in x.at x.was c ≡ o → other ≡ it
    one_split other there None none = absurd (let bad : ◌≡◌ {A = Option Split} None (Some other) = sym (open_whole x.asked x.at x.was c none) ∙ there in cc)
    one_split other there (Some r) some = same_Some other it (sym there ∙ sym (split_stays x.asked x.at x.was x.now c r x.more some) ∙ is)

    not_failing : told_in x.at x.was c ≡ None → (s.was_failed || failing_in x.at x.was c) ≡ true → failed ≡ true
    not_failing none both = s.failing (by_or s.was_failed (sym (ap (λ b. s.was_failed || b) (ap (λ o. option_map_or (λ (r : KnownRun). fails (ending_of r.end)) o false) none)) ∙ both))
      where
        by_or : (b : Bool) → (b || false) ≡ true → b ≡ true
        by_or true h = refl
        by_or false h = h

    by : Step (old x) s.to c rest s.ls → NextOr x (children c it ++ rest) n failed
    by (at_end ended none) = inr (stopped x c rest cs n failed s ended none)
    by (at_beyond left gone more) = never (is_within (new x) c) gone within
    by (at_leaf more left inside whole is_first leads) =
        let met : Met x (c ∷ more) = subst (Met x) is_first s.met in
        let few = no_owed x s.count n s.owes in
        let none = was_open whole (told_in x.at x.was c) refl in
        inl (record {
          ds = children c it;
          cs = rest;
          are = refl;
          beside = record {
            to = s.to;
            ls = more;
            left = left;
            leads = leads;
            count = s.count + 1;
            was_failed = s.was_failed || failing_in x.at x.was c;
            few = children_below x.asked x.at x.now c it x.most x.within is (met.0 none).0;
            owes = inr (omega (arith, few), child_within (new x) c it within own);
            failing = not_failing none;
            met = met.1;
            ended = subst (EndsAt x s.to s.count s.was_failed) is_first s.ended;
          };
        })
    by (at_parted other left inside there leads) = inl (record {
      ds = [];
      cs = children c it ++ rest;
      are = refl;
      beside = record {
        to = s.to;
        ls = s.ls;
        left = left;
        leads = subst (λ (y : Split). LeadTo (old x) s.to (children c y ++ rest) s.ls left) (one_split other there (told_in x.at x.was c) refl) leads;
        count = s.count;
        was_failed = s.was_failed;
        few = tt;
        owes = s.owes;
        failing = s.failing;
        met = s.met;
        ended = s.ended;
      };
    })
past_parted x c it rest (d ∷ ds) cs n failed e within is s = inl (record {
  ds = children c it ++ ds;
  cs = cs;
  are = ap (λ xs. children c it ++ xs) (same_tail c d rest (ds ++ cs) e) ∙ regroup (children c it) ds cs;
  beside = record {
    to = s.to;
    ls = s.ls;
    left = s.left;
    leads = s.leads;
    count = s.count;
    was_failed = s.was_failed;
    few =
        let less : spare c (parts_of x.at) < x.most = subst (λ (y : Case). spare y (parts_of x.at) < x.most) (sym (same_head c d rest (ds ++ cs) e)) s.few.0 in
        below_both (parts_of x.at) x.most (children c it) ds (children_below x.asked x.at x.now c it x.most x.within is (omega (arith, less))) s.few.1;
    owes = by s.owes;
    failing = s.failing;
    met = s.met;
    ended = s.ended;
  };
})
  where
    regroup : (xs ys zs : List Case) → xs ++ (ys ++ zs) ≡ (xs ++ ys) ++ zs
    regroup xs ys zs = simp append_assoc

    by : (s.count ≤ n) ⊎ ((s.count ≤ n + 1) × HasWithin (new x) (d ∷ ds)) → (s.count ≤ n) ⊎ ((s.count ≤ n + 1) × HasWithin (new x) (children c it ++ ds))
    by (inl few) = inl few
    by (inr owed) = inr (owed.0, within_both (new x) (children c it) ds (child_within (new x) c it within (first_is x.at.log x.at.way x.at.cut c _ it is)))

-- where the search is to stop it goes on to no other case
none_after : (x : Pair) (n : ℕ) (failed : Bool) (ls : List Case) → Going x n failed ls → stop_at x.stops n failed ≡ true → OpenBelow x.at x.now x.most ls
none_after x n failed [] on stop = tt
none_after x n failed (c ∷ cs) on stop = never (stop_at x.stops n failed) on.0 stop

follow : (x : Pair) (to all ls left ds cs : List Case) (n : ℕ) (failed : Bool) → LeadTo (new x) to all ls left → all ≡ ds ++ cs → Beside x ds cs n failed → Going x n failed ls
    → OpenBelow x.at x.now x.most ls
follow x to all ls left ds cs n failed are_there e s on = tt
follow x to all ls left ds cs n failed (past_beyond c rest ls2 left2 out more) e s on = elim (past_out x c rest ds cs n failed e out s) [
  | inl next ↦ follow x to rest ls left2 next.ds next.cs n failed more next.are next.beside on
  | inr stop ↦ none_after x n failed ls on stop
]
follow x to all ls left ds cs n failed (past_leaf c rest ls2 left2 within whole more) e s on = elim (past_whole x c rest ds cs n failed e within whole s) [
  | inl at ↦ (at.own, follow x to rest ls2 left at.next.ds at.next.cs (n + 1) (failed || failing_in x.at x.now c) more at.next.are at.next.beside on.1)
  | inr stop ↦ never (stop_at x.stops n failed) on.0 stop
]
follow x to all ls left ds cs n failed (past_split c it rest ls2 left2 within is more) e s on = elim (past_parted x c it rest ds cs n failed e within is s) [
  | inl next ↦ follow x to (children c it ++ rest) ls left next.ds next.cs n failed more next.are next.beside on
  | inr stop ↦ none_after x n failed ls on stop
]

-- leaves as cases

leaf_told : (asked : Losses) (at : CutValue) (v : RecordsValue) (leaf : LeafValue) → EndsSo (subject_at asked at v) asked.tears at leaf → leaf.ending ≡ told_ending (told_in at v (leaf_case asked.tears at leaf))
leaf_told asked at v leaf ends = ends

leaf_failing : (asked : Losses) (at : CutValue) (v : RecordsValue) (leaf : LeafValue) → EndsSo (subject_at asked at v) asked.tears at leaf → is_told_failing leaf ≡ failing_in at v (leaf_case asked.tears at leaf)
leaf_failing asked at v leaf ends = ap (λ e. not (is_open e) && fails e) (leaf_told asked at v leaf ends) ∙ by (told_in at v (leaf_case asked.tears at leaf))
  where
    by : (o : Option KnownRun) → (not (is_open (told_ending o)) && fails (told_ending o)) ≡ option_map_or (λ (r : KnownRun). fails (ending_of r.end)) o false
    by None = refl
    by (Some r) = ap (λ b. not b && fails (ending_of r.end)) (no_run_is_open r.end)

ends_at : (x : Pair) (to : List Case) (leaves : List LeafValue) (n : ℕ) (failed : Bool) → ((leaf : LeafValue) → IsAmong leaves leaf → EndsSo (old x) x.asked.tears x.at leaf)
    → (to ≡ []) ⊎ (stop_at x.stops (n + length leaves) (failed || list_any is_told_failing leaves) ≡ true) → EndsAt x to n failed (map (leaf_case x.asked.tears x.at) leaves)
ends_at x to [] n failed ends (inl none) = inl none
ends_at x to [] n failed ends (inr stop) = inr ((λ i. stop_at x.stops (none i) (sym (or_none failed) i)) ∙ stop)
  where
    none : n ≡ n + 0
    none = omega arith

    or_none : (b : Bool) → (b || false) ≡ b
    or_none true = refl
    or_none false = refl
ends_at x to (leaf ∷ leaves) n failed ends last = ends_at x to leaves (n + 1) (failed || failing_in x.at x.was (leaf_case x.asked.tears x.at leaf)) (λ other is. ends other (inr is)) (by last)
  where
    or_both : (a b c : Bool) → (a || (b || c)) ≡ ((a || b) || c)
    or_both true b c = refl
    or_both false b c = refl

    long : n + suc (length leaves) ≡ n + 1 + length leaves
    long = omega arith

    by : (to ≡ []) ⊎ (stop_at x.stops (n + suc (length leaves)) (failed || (is_told_failing leaf || list_any is_told_failing leaves)) ≡ true)
        → (to ≡ []) ⊎ (stop_at x.stops (n + 1 + length leaves) ((failed || failing_in x.at x.was (leaf_case x.asked.tears x.at leaf)) || list_any is_told_failing leaves) ≡ true)
    by (inl none) = inl none
    by (inr stop) =
        inr (sym (λ i. stop_at x.stops (long i) ((or_both failed (is_told_failing leaf) (list_any is_told_failing leaves)
        ∙ ap (λ b. (failed || b) || list_any is_told_failing leaves) (leaf_failing x.asked x.at x.was leaf (ends leaf (inl refl)))) i)) ∙ stop)

going : (x : Pair) (leaves : List LeafValue) (n : ℕ) (failed : Bool) → ((leaf : LeafValue) → IsAmong leaves leaf → EndsSo (new x) x.asked.tears x.at leaf)
    → ((m : ℕ) → m < length leaves → stop_at x.stops (n + length (take m leaves)) (failed || list_any is_told_failing (take m leaves)) ≡ false)
    → Going x n failed (map (leaf_case x.asked.tears x.at) leaves)
going x [] n failed ends on = tt
going x (leaf ∷ leaves) n failed ends on = (
  (λ i. stop_at x.stops (none i) (sym (or_none failed) i)) ∙ on 0 (omega arith),
  going x leaves (n + 1) (failed || failing_in x.at x.now (leaf_case x.asked.tears x.at leaf)) (λ other is. ends other (inr is)) (λ m lt. by m (on (suc m) (omega (arith, lt)))),
)
  where
    none : n ≡ n + 0
    none = omega arith

    or_none : (b : Bool) → (b || false) ≡ b
    or_none true = refl
    or_none false = refl

    or_both : (a b c : Bool) → (a || (b || c)) ≡ ((a || b) || c)
    or_both true b c = refl
    or_both false b c = refl

    by : (m : ℕ) → stop_at x.stops (n + suc (length (take m leaves))) (failed || (is_told_failing leaf || list_any is_told_failing (take m leaves))) ≡ false
        → stop_at x.stops (n + 1 + length (take m leaves)) ((failed || failing_in x.at x.now (leaf_case x.asked.tears x.at leaf)) || list_any is_told_failing (take m leaves)) ≡ false
    by m stop =
        let long : n + suc (length (take m leaves)) ≡ n + 1 + length (take m leaves) = omega arith in
        sym (λ i. stop_at x.stops (long i) ((or_both failed (is_told_failing leaf) (list_any is_told_failing (take m leaves))
        ∙ ap (λ b. (failed || b) || list_any is_told_failing (take m leaves)) (leaf_failing x.asked x.at x.now leaf (ends leaf (inl refl)))) i)) ∙ stop

among_ends : (s : Subject) (tears : Bool) (at : CutValue) (leaves : List LeafValue) → All (EndsSo s tears at) leaves → (leaf : LeafValue) → IsAmong leaves leaf → EndsSo s tears at leaf
among_ends s tears at leaves all leaf is = let place = among_place leaves leaf is in leaf_ends s tears at leaves place.0 leaf all place.1

-- an open leaf of the search before is told now

run_is_there : (p : KnownRun → Bool) (runs : List KnownRun) (r : KnownRun) → IsAmong runs r → p r ≡ true → find p runs ≡ None → ⊥
run_is_there p runs r among is none = let place = among_place runs r among in never (p r) (found_none p runs place.0 r none place.1) is

open_told : (x : Pair) (found : KnownAt) (is : IsKnownAt x.asked x.at x.was x.stops found) → ((o : OpenCase) → IsAmong found.open_cases.items o → IsToldBy x.asked x.at x.now o)
    → (leaf : LeafValue) → IsAmong is.leaves leaf → told_in x.at x.was (leaf_case x.asked.tears x.at leaf) ≡ None → told_in x.at x.now (leaf_case x.asked.tears x.at leaf) ≡ None → ⊥
open_told x found is all leaf among none now_none =
    let ends = among_ends (old x) x.asked.tears x.at is.leaves is.reached.endings leaf among in
    let opened : is_open leaf.ending ≡ true = ap is_open (leaf_told x.asked x.at x.was leaf ends ∙ ap told_ending none) in
    let kept : IsAmong (open_of is.leaves) leaf = kept_among (λ (l : LeafValue). is_open l.ending) is.leaves leaf among opened in
    let sets : IsAmong (map open_sets found.open_cases.items) leaf.sets = subst (λ (xs : List (List ℕ)). IsAmong xs leaf.sets) (sym is.are_open) (mapped_among sets_of_leaf (open_of is.leaves) leaf kept) in
    let o = among_mapped open_sets found.open_cases.items leaf.sets sets in
    let told = all o.0 o.1 in
    run_is_there (tells x.now.log x.now.way (marks_at x.at.log.entries x.at.cut) (image_of x.at (leaf_case x.asked.tears x.at leaf))) x.now.runs told.run told.there
    (subst (λ (ss : List ℕ). tells x.now.log x.now.way (marks_at x.at.log.entries x.at.cut) (image_of x.at (case_of x.asked.tears (parts_of x.at) ss)) told.run ≡ true) o.2 told.tells) now_none

all_met : (x : Pair) (leaves : List LeafValue)
    → ((leaf : LeafValue) → IsAmong leaves leaf → told_in x.at x.was (leaf_case x.asked.tears x.at leaf) ≡ None → told_in x.at x.now (leaf_case x.asked.tears x.at leaf) ≡ None → ⊥)
    → OpenBelow x.at x.was (x.most + 1) (map (leaf_case x.asked.tears x.at) leaves) → Met x (map (leaf_case x.asked.tears x.at) leaves)
all_met x [] told below = tt
all_met x (leaf ∷ leaves) told below = (
  (λ none. let less = below.0 none in (omega (arith, less), told leaf (inl refl) none)),
  all_met x leaves (λ other is. told other (inr is)) below.1,
)

-- from the first leaf on

stopped_from : (stops : Stops) (leaves : List LeafValue) → stop_at stops (0 + length leaves) (list_any is_told_failing leaves) ≡ has_stopped stops leaves
stopped_from stops leaves = let none : 0 + length leaves ≡ length leaves = omega arith in ap (λ n. stop_at stops n (list_any is_told_failing leaves)) none

ended_from : (stops : Stops) (to : List Case) (leaves : List LeafValue) → (to ≡ []) ⊎ (has_stopped stops leaves ≡ true)
    → (to ≡ []) ⊎ (stop_at stops (0 + length leaves) (false || list_any is_told_failing leaves) ≡ true)
ended_from stops to leaves (inl none) = inl none
ended_from stops to leaves (inr stop) = inr (stopped_from stops leaves ∙ stop)

-- one round: what is open after it has less to spare than what was open
one_round : (x : Pair) (was now : KnownAt) (before : IsKnownAt x.asked x.at x.was x.stops was) (after : IsKnownAt x.asked x.at x.now x.stops now)
    → ((o : OpenCase) → IsAmong was.open_cases.items o → IsToldBy x.asked x.at x.now o)
    → OpenBelow x.at x.was (x.most + 1) (map (leaf_case x.asked.tears x.at) before.leaves) → OpenBelow x.at x.now x.most (map (leaf_case x.asked.tears x.at) after.leaves)
one_round x was now before after told below =
    follow x after.waiting (whole_case x.asked.tears ∷ []) (map (leaf_case x.asked.tears x.at) after.leaves) after.left [] (whole_case x.asked.tears ∷ []) 0 false after.reached.leads refl
    (record {
      to = before.waiting;
      ls = map (leaf_case x.asked.tears x.at) before.leaves;
      left = before.left;
      leads = before.reached.leads;
      count = 0;
      was_failed = false;
      few = tt;
      owes = inl (omega arith);
      failing = λ is. is;
      met = all_met x before.leaves (open_told x was before told) below;
      ended = ends_at x before.waiting before.leaves 0 false (among_ends (old x) x.asked.tears x.at before.leaves before.reached.endings) (ended_from x.stops before.waiting before.leaves before.ended);
    })
    (going x after.leaves 0 false (among_ends (new x) x.asked.tears x.at after.leaves after.reached.endings) (λ m lt. stopped_from x.stops (take m after.leaves) ∙ after.reached.on m lt))

-- of all choices each part has all fates

whole_spare : (asked : Losses) (ps : List Part) → spare (whole_case asked.tears) ps ≡ ways_lost asked * length ps
whole_spare asked ps = by asked.tears ps
  where
    by : (b : Bool) (qs : List Part) → spare (whole_case b) qs ≡ (if b then 15 else 1) * length qs
    by true [] = refl
    by false [] = refl
    by true (q ∷ qs) = let rest = by true qs in omega (arith, rest)
    by false (q ∷ qs) = let rest = by false qs in omega (arith, rest)

all_below : (at : CutValue) (v : RecordsValue) (n : ℕ) (cs : List Case) → Below (parts_of at) n cs → OpenBelow at v n cs
all_below at v n [] below = tt
all_below at v n (c ∷ cs) below = ((λ none. below.0), all_below at v n cs below.1)

more_below : (at : CutValue) (v : RecordsValue) (n m : ℕ) (cs : List Case) → n ≤ m → OpenBelow at v n cs → OpenBelow at v m cs
more_below at v n m [] few below = tt
more_below at v n m (c ∷ cs) few below = ((λ none. let less = below.0 none in omega (arith, less, few)), more_below at v n m cs few below.1)

none_open : (at : CutValue) (v : RecordsValue) (n : ℕ) (leaf : LeafValue) (cs : List LeafValue) (F : LeafValue → Case) → n ≡ 0 → OpenBelow at v n (map F cs) → IsAmong cs leaf → told_in at v (F leaf) ≡ None → ⊥
none_open at v n leaf [] F is below among none = absurd among
none_open at v n leaf (l ∷ ls) F is below (inl same) none = let less = below.0 (ap (λ (k : LeafValue). told_in at v (F k)) same ∙ none) in omega (arith, less, is)
none_open at v n leaf (l ∷ ls) F is below (inr rest) none = none_open at v n leaf ls F is below.1 rest none

after_rounds : (asked : Losses) (log : LogValue) (way : By) (cuts : List ℕ) (stops : Stops) (records : RecordsValue) (n place k : ℕ) (found : KnownAt) → AreRounds asked log way cuts stops n records
    → slice_get cuts place ≡ Some k → k ≤ length log.entries → (is : IsKnownAt asked (record { log = log; way = way; cut = k }) records stops found)
    → OpenBelow (record { log = log; way = way; cut = k }) records (ways_lost asked * length (parts_of (record { log = log; way = way; cut = k })) + 1 - n)
    (map (leaf_case asked.tears (record { log = log; way = way; cut = k })) is.leaves)
after_rounds asked log way cuts stops records n place k found (no_round v) there le is =
    let at : CutValue = record { log = log; way = way; cut = k } in
    let whole = whole_spare asked (parts_of at) in
    all_below at records (ways_lost asked * length (parts_of at) + 1 - 0) (map (leaf_case asked.tears at) is.leaves)
    (leads_below asked at records (ways_lost asked * length (parts_of at) + 1 - 0) is.waiting (whole_case asked.tears ∷ []) (map (leaf_case asked.tears at) is.leaves) is.left le is.reached.leads
    (omega (arith, whole), tt))
after_rounds asked log way cuts stops records n place k found (one_more m was now rounds round) there le is =
    let at : CutValue = record { log = log; way = way; cut = k } in
    let all = ways_lost asked * length (parts_of at) + 1 in
    let f = has_one round.found place (let lt = slice_get_within cuts place k there in let many = round.are.count in omega (arith, lt, many)) in
    let before : IsKnownAt asked at was stops f.0 = round.are.each place k f.0 there f.1 in
    let below = after_rounds asked log way cuts stops was m place k f.0 rounds there le before in
    let x : Pair = record { asked = asked; at = at; was = was; now = now; stops = stops; most = all - suc m; within = le; more = round.put } in
    one_round x f.0 found before is (λ o among. round.all place k f.0 o there f.1 among)
    (more_below at was (all - m) (all - suc m + 1) (map (leaf_case asked.tears at) before.leaves) (omega arith) below)

ways_more : (b : Bool) (a p : ℕ) → a ≤ p → (if b then 15 else 1) * a ≤ (if b then 15 else 1) * p
ways_more true a p few = omega (arith, few)
ways_more false a p few = omega (arith, few)

nothing_open : (asked : Losses) (at : CutValue) (v : RecordsValue) (stops : Stops) (found : KnownAt) (is : IsKnownAt asked at v stops found)
    → ((leaf : LeafValue) → IsAmong is.leaves leaf → told_in at v (leaf_case asked.tears at leaf) ≡ None → ⊥) → found.open_cases.items ≡ []
nothing_open asked at v stops found is none =
    none_mapped open_sets found.open_cases.items
    (is.are_open ∙ ap (map sets_of_leaf) (kept_none (λ (l : LeafValue). is_open l.ending) is.leaves (λ leaf among. closed leaf among (told_in at v (leaf_case asked.tears at leaf)) refl)))
  where
    closed : (leaf : LeafValue) → IsAmong is.leaves leaf → (o : Option KnownRun) → told_in at v (leaf_case asked.tears at leaf) ≡ o → is_open leaf.ending ≡ false
    closed leaf among None nothing = absurd (none leaf among nothing)
    closed leaf among (Some r) some =
        ap is_open (leaf_told asked at v leaf (among_ends (subject_at asked at v) asked.tears at is.leaves is.reached.endings leaf among) ∙ ap told_ending some) ∙ no_run_is_open r.end

pub rounds_end : RoundsEnd
rounds_end = record {
  own = own_tells;
  ended = λ asked log way cuts stops records n p found rounds many each are i f there.
      let k = has_one cuts i (let lt = slice_get_within found i f there in let count = are.count in omega (arith, lt, count)) in
      let at : CutValue = record { log = log; way = way; cut = k.0 } in
      let is : IsKnownAt asked at records stops f = are.each i k.0 f k.1 there in
      let within = each i k.0 k.1 in
      let below = after_rounds asked log way cuts stops records n i k.0 f rounds k.1 within.0 is in
      let few = ways_more asked.tears (length (parts_of at)) p within.1 in
      let none : ways_lost asked * length (parts_of at) + 1 - n ≡ 0 = omega (arith, few, many) in
      nothing_open asked at records stops f is
      (λ leaf among. none_open at records (ways_lost asked * length (parts_of at) + 1 - n) leaf is.leaves (leaf_case asked.tears at) none below among);
}

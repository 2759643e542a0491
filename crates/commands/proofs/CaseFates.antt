-- What may become of the parts in a leaf: some of all fates, one at least, in their order.
use Rattle.std.proofs.Common.{ℕ, suc, ◌≡◌, ◌+◌, ◌<◌, ◌≤◌, ◌⊎◌, ◌&&◌, nat_lt, Bool, true, false, not, if◌then◌else◌, List, [], ◌∷◌, ◌++◌, length, map, filter, slice_index_or, Option, None, Some, refl, sym, subst, ◌∙◌, ap, arith, inl, inr}
use Rattle.std.specs.List.{list_all}
use Rattle.std.proofs.lemmas.Bool.Decides.{nat_tests}
use Rattle.epochs.specs.declared.part.Part.{Part}
use Rattle.choices.specs.declared.fate.Fate.{Fate}
use Rattle.machine.specs.Outcome.{fails}
use Rattle.cases.specs.Choices.{all_fates}
use Rattle.cases.specs.Cases.{Case, whole_case, is_same, with_part, show_alike, firsts, Split}
use Rattle.cases.specs.Laws.{IsAmong, AreCases}
use Rattle.cases.specs.Trees.{Subject, split_of, AreLeaves, no_case, is_beyond, is_leaf, is_split}
use Rattle.cases.specs.Search.{LeafValue}
use Rattle.cases.proofs.Cases.{AreKinds, IsSplit, first_is, shown_kinds, kept_among, among_kept}
use Rattle.losses.specs.FoundCases.{FailingValue}
use Rattle.case_runs.specs.Leaves.{failing_from}
use Rattle.join.specs.CaseTexts.{fate_number, is_above, fates_rise, is_possible, is_fate_of_run}
use Rattle.join.specs.CaseReading.{Each}

-- TESTS

pub first_so : (a b : Bool) → (a && b) ≡ true → a ≡ true
first_so true b is = refl
first_so false b is = let bad : false ≡ true = is in cc

pub second_so : (a b : Bool) → (a && b) ≡ true → b ≡ true
second_so true b is = is
second_so false b is = absurd (let bad : false ≡ true = is in cc)

pub both_so : (a b : Bool) → a ≡ true → b ≡ true → (a && b) ≡ true
both_so true b one two = two
both_so false b one two = one

-- SOME ELEMENTS OF A LIST, IN THEIR ORDER

abbrev pub AreSome : {A : Type 0} → List A → List A → Type 0
AreSome [] ys = Unit {0}
AreSome (x ∷ xs) [] = ⊥
AreSome (x ∷ xs) (y ∷ ys) = ((y ≡ x) × AreSome xs ys) ⊎ AreSome (x ∷ xs) ys

pub some_more : {A : Type 0} (xs ys : List A) (y : A) → AreSome xs ys → AreSome xs (y ∷ ys)
some_more [] ys y some = tt
some_more (x ∷ xs) ys y some = inr some

pub some_all : {A : Type 0} (xs : List A) → AreSome xs xs
some_all [] = tt
some_all (x ∷ xs) = inl (refl, some_all xs)

pub some_of_some : {A : Type 0} (xs ys zs : List A) → AreSome xs ys → AreSome ys zs → AreSome xs zs
some_of_some [] ys zs a b = tt
some_of_some (x ∷ xs) [] zs a b = absurd a
some_of_some (x ∷ xs) (y ∷ ys) [] a b = absurd b
some_of_some (x ∷ xs) (y ∷ ys) (z ∷ zs) (inl one) (inl two) = inl (two.0 ∙ one.0, some_of_some xs ys zs one.1 two.1)
some_of_some (x ∷ xs) (y ∷ ys) (z ∷ zs) (inr one) (inl two) = inr (some_of_some (x ∷ xs) ys zs one two.1)
some_of_some (x ∷ xs) (y ∷ ys) (z ∷ zs) (inl one) (inr two) = inr (some_of_some (x ∷ xs) (y ∷ ys) zs (inl one) two)
some_of_some (x ∷ xs) (y ∷ ys) (z ∷ zs) (inr one) (inr two) = inr (some_of_some (x ∷ xs) (y ∷ ys) zs (inr one) two)

pub some_kept : {A : Type 0} (q : A → Bool) (xs : List A) → AreSome (filter q xs) xs
some_kept q [] = tt
some_kept q (x ∷ xs) = by_test (some_kept q xs) (q x)
  where
    by_test : AreSome (filter q xs) xs → (b : Bool) → AreSome (if b then x ∷ filter q xs else filter q xs) (x ∷ xs)
    by_test rest true = inl (refl, rest)
    by_test rest false = some_more (filter q xs) xs x rest

pub some_map : {A B : Type 0} (f : A → B) (xs ys : List A) → AreSome xs ys → AreSome (map f xs) (map f ys)
some_map f [] ys some = tt
some_map f (x ∷ xs) [] some = absurd some
some_map f (x ∷ xs) (y ∷ ys) (inl one) = inl (ap f one.0, some_map f xs ys one.1)
some_map f (x ∷ xs) (y ∷ ys) (inr more) = inr (some_map f (x ∷ xs) ys more)

pub some_few : {A : Type 0} (xs ys : List A) → AreSome xs ys → length xs ≤ length ys
some_few [] ys some = omega arith
some_few (x ∷ xs) [] some = absurd some
some_few (x ∷ xs) (y ∷ ys) (inl one) = let rest = some_few xs ys one.1 in omega (arith, rest)
some_few (x ∷ xs) (y ∷ ys) (inr more) = let rest = some_few (x ∷ xs) ys more in omega (arith, rest)

pub some_so : {A : Type 0} (q : A → Bool) (xs ys : List A) → AreSome xs ys → list_all q ys ≡ true → list_all q xs ≡ true
some_so q [] ys some all = refl
some_so q (x ∷ xs) [] some all = absurd some
some_so q (x ∷ xs) (y ∷ ys) (inl one) all =
    both_so (q x) (list_all q xs) (ap q (sym one.0) ∙ first_so (q y) (list_all q ys) all) (some_so q xs ys one.1 (second_so (q y) (list_all q ys) all))
some_so q (x ∷ xs) (y ∷ ys) (inr more) all = some_so q (x ∷ xs) ys more (second_so (q y) (list_all q ys) all)

pub some_among : {A : Type 0} (xs ys : List A) (z : A) → AreSome xs ys → IsAmong xs z → IsAmong ys z
some_among [] ys z some among = absurd among
some_among (x ∷ xs) [] z some among = absurd some
some_among (x ∷ xs) (y ∷ ys) z (inl one) (inl same) = inl (one.0 ∙ same)
some_among (x ∷ xs) (y ∷ ys) z (inl one) (inr later) = inr (some_among xs ys z one.1 later)
some_among (x ∷ xs) (y ∷ ys) z (inr more) among = inr (some_among (x ∷ xs) ys z more among)

-- FATES RISE

above_more : (last : Option ℕ) (a b : ℕ) → is_above last a ≡ true → nat_lt a b ≡ true → is_above last b ≡ true
above_more None a b one two = refl
above_more (Some l) a b one two =
    let low : l < a = grind (arith, nat_tests, one) in
    let high : a < b = grind (arith, nat_tests, two) in
    let less : l < b = omega (arith, low, high) in
    grind (arith, nat_tests, less)

fates_from : (last : Option ℕ) (a : ℕ) (fs : List (Option Fate)) → is_above last a ≡ true → fates_rise (Some a) fs ≡ true → fates_rise last fs ≡ true
fates_from last a [] one rise = refl
fates_from last a (f ∷ fs) one rise =
    both_so (is_above last (fate_number f)) (fates_rise (Some (fate_number f)) fs)
    (above_more last a (fate_number f) one (first_so (nat_lt a (fate_number f)) (fates_rise (Some (fate_number f)) fs) rise))
    (second_so (nat_lt a (fate_number f)) (fates_rise (Some (fate_number f)) fs) rise)

pub some_fates_rise : (last : Option ℕ) (fs gs : List (Option Fate)) → AreSome fs gs → fates_rise last gs ≡ true → fates_rise last fs ≡ true
some_fates_rise last [] gs some rise = refl
some_fates_rise last (f ∷ fs) [] some rise = absurd some
some_fates_rise last (f ∷ fs) (g ∷ gs) (inl one) rise =
    let above = first_so (is_above last (fate_number g)) (fates_rise (Some (fate_number g)) gs) rise in
    let rest = second_so (is_above last (fate_number g)) (fates_rise (Some (fate_number g)) gs) rise in
    let own = some_fates_rise (Some (fate_number g)) fs gs one.1 rest in
    both_so (is_above last (fate_number f)) (fates_rise (Some (fate_number f)) fs)
    (subst (λ (x : Option Fate). is_above last (fate_number x) ≡ true) one.0 above)
    (subst (λ (x : Option Fate). fates_rise (Some (fate_number x)) fs ≡ true) one.0 own)
some_fates_rise last (f ∷ fs) (g ∷ gs) (inr more) rise =
    some_fates_rise last (f ∷ fs) gs more
    (fates_from last (fate_number g) gs (first_so (is_above last (fate_number g)) (fates_rise (Some (fate_number g)) gs) rise)
    (second_so (is_above last (fate_number g)) (fates_rise (Some (fate_number g)) gs) rise))

-- WHAT MAY BECOME OF A PART IN A LEAF

-- some of all fates, one at least
pub record AreFates (tears : Bool) (fates : List (Option Fate)) : Type 0 where
  pub of_all : AreSome fates (all_fates tears)
  pub some : 0 < length fates

pub all_rise : (tears : Bool) → fates_rise None (all_fates tears) ≡ true
all_rise true = refl
all_rise false = refl

pub is_of_run : Bool → Option Fate → Bool
is_of_run tears None = true
is_of_run tears (Some f) = is_fate_of_run tears f

all_of_run : (tears : Bool) → list_all (is_of_run tears) (all_fates tears) ≡ true
unfolding is_of_run
all_of_run true = refl
all_of_run false = refl

pub all_possible : (tears : Bool) → list_all is_possible (all_fates tears) ≡ true
all_possible true = refl
all_possible false = refl

all_long : (tears : Bool) → 0 < length (all_fates tears)
all_long true = omega arith
all_long false = omega arith

-- of each part
abbrev pub IsFair : Bool → Case → Type 0
IsFair tears c = (p : Part) → AreFates tears (c p)

fair_whole : (tears : Bool) → IsFair tears (whole_case tears)
fair_whole tears = λ p. record { of_all = some_all (all_fates tears); some = all_long tears }

fair_with : (tears : Bool) (c : Case) (p : Part) (g : List (Option Fate)) → IsFair tears c → AreFates tears g → IsFair tears (with_part c p g)
fair_with tears c p g fair own = λ q. by_test q (is_same p q)
  where
    by_test : (q : Part) (b : Bool) → AreFates tears (if b then g else c q)
    by_test q true = own
    by_test q false = fair q

length_among : {A : Type 0} (xs : List A) (x : A) → IsAmong xs x → 0 < length xs
length_among [] x among = absurd among
length_among (y ∷ xs) x among = omega arith

first_among : {A : Type 0} (alike : A → A → Bool) (xs : List A) (x : A) → IsAmong (firsts alike xs) x → IsAmong xs x
first_among alike [] x among = absurd among
first_among alike (y ∷ ys) x (inl same) = inl same
first_among alike (y ∷ ys) x (inr later) = inr (first_among alike ys x (among_kept (λ z. not (alike y z)) (firsts alike ys) x later).0)

-- the groups of some fates
kinds_fair : (tears : Bool) (c : Case) (p : Part) (alike : Option Fate → Option Fate → Bool) → AreKinds alike → IsFair tears c → (xs fates : List (Option Fate))
    → AreFates tears fates → ((x : Option Fate) → IsAmong xs x → IsAmong fates x) → Each (IsFair tears) (map (with_part c p) (map (λ x. filter (alike x) fates) xs))
kinds_fair tears c p alike laws fair [] fates are each = tt
kinds_fair tears c p alike laws fair (x ∷ xs) fates are each =
    let own : AreFates tears (filter (alike x) fates) = record {
      of_all = some_of_some (filter (alike x) fates) fates (all_fates tears) (some_kept (alike x) fates) are.of_all;
      some = length_among (filter (alike x) fates) x (kept_among (alike x) fates x (each x (inl refl)) (laws.own x));
    } in
    (fair_with tears c p (filter (alike x) fates) fair own, kinds_fair tears c p alike laws fair xs fates are (λ y among. each y (inr among)))

each_both : {A : Type 0} (P : A → Type 0) (xs ys : List A) → Each P xs → Each P ys → Each P (xs ++ ys)
each_both P [] ys one two = two
each_both P (x ∷ xs) ys one two = (one.0, each_both P xs ys one.1 two)

split_fair : (s : Subject) (tears : Bool) (c : Case) (it : Split) → split_of s c ≡ Some it → IsFair tears c → Each (IsFair tears) (map (with_part c it.part) it.groups)
split_fair s tears c it some fair =
    let is : IsSplit c it = first_is s.log s.way s.cut c _ it some in
    let own = kinds_fair tears c it.part (show_alike it.part is.unit is.pieces) (shown_kinds it.part is.unit is.pieces) fair (firsts (show_alike it.part is.unit is.pieces) (c it.part)) (c it.part) (fair it.part)
    (λ x among. first_among (show_alike it.part is.unit is.pieces) (c it.part) x among) in
    subst (λ (gs : List (List (Option Fate))). Each (IsFair tears) (map (with_part c it.part) gs)) (sym is.groups) own

leaves_fair : (s : Subject) (tears : Bool) (cs leaves left : List Case) → AreLeaves s cs leaves left → Each (IsFair tears) cs → Each (IsFair tears) leaves
leaves_fair s tears cs leaves left no_case fair = tt
leaves_fair s tears cs leaves left (is_beyond c ds leaves1 left1 out rest) fair = leaves_fair s tears ds leaves1 left1 rest fair.1
leaves_fair s tears cs leaves left (is_leaf c ds leaves1 left1 within whole rest) fair = (fair.0, leaves_fair s tears ds leaves1 left1 rest fair.1)
leaves_fair s tears cs leaves left (is_split c it ds leaves1 left1 within some rest) fair =
    leaves_fair s tears (map (with_part c it.part) it.groups ++ ds) leaves1 left1 rest
    (each_both (IsFair tears) (map (with_part c it.part) it.groups) ds (split_fair s tears c it some fair.0) fair.1)

pub cases_fair : (s : Subject) (tears : Bool) (leaves left : List Case) → AreCases s tears leaves left → Each (IsFair tears) leaves
cases_fair s tears leaves left are = leaves_fair s tears (whole_case tears ∷ []) leaves left are (fair_whole tears, tt)

pub each_mapped : {A B : Type 0} (P : B → Type 0) (f : A → B) (xs : List A) → Each P (map f xs) → Each (λ x. P (f x)) xs
each_mapped P f [] each = tt
each_mapped P f (x ∷ xs) each = (each.0, each_mapped P f xs each.1)

-- LEAVES THAT FAIL

-- one of some leaves, of which the first has number n
pub record IsOneOf (P : LeafValue → Type 0) (n m : ℕ) (f : FailingValue) : Type 0 where
  pub low : n ≤ f.number
  pub high : f.number < m
  pub fails : fails f.ending ≡ true
  pub leaf : P (record { sets = f.sets; ending = f.ending })

one_before : (P : LeafValue → Type 0) (n m : ℕ) (fs : List FailingValue) → Each (IsOneOf P (n + 1) m) fs → Each (IsOneOf P n m) fs
one_before P n m [] each = tt
one_before P n m (f ∷ fs) each =
    let low = each.0.low in
    (record { low = omega (arith, low); high = each.0.high; fails = each.0.fails; leaf = each.0.leaf }, one_before P n m fs each.1)

pub failing_are : (P : LeafValue → Type 0) (n m : ℕ) (leaves : List LeafValue) → n + length leaves ≤ m → Each P leaves → Each (IsOneOf P n m) (failing_from n leaves)
failing_are P n m [] few each = tt
failing_are P n m (leaf ∷ leaves) few each =
    let rest = one_before P n m (failing_from (n + 1) leaves) (failing_are P (n + 1) m leaves (omega (arith, few)) each.1) in
    by_test (fails leaf.ending) refl rest
  where
    by_test : (b : Bool) → fails leaf.ending ≡ b → Each (IsOneOf P n m) (failing_from (n + 1) leaves)
        → Each (IsOneOf P n m) ((if b then record { number = n; ending = leaf.ending; sets = leaf.sets } ∷ [] else []) ++ failing_from (n + 1) leaves)
    by_test true is rest = (record { low = omega arith; high = omega (arith, few); fails = is; leaf = each.0 }, rest)
    by_test false is rest = rest

-- their numbers rise, from one on
abbrev pub NumbersRise : ℕ → List FailingValue → Type 0
NumbersRise n [] = Unit {0}
NumbersRise n (f ∷ fs) = (n ≤ f.number) × NumbersRise (f.number + 1) fs

numbers_later : (n m : ℕ) (fs : List FailingValue) → n ≤ m → NumbersRise m fs → NumbersRise n fs
numbers_later n m [] low rise = tt
numbers_later n m (f ∷ fs) low rise = let own = rise.0 in (omega (arith, own, low), rise.1)

pub failing_rise : (n : ℕ) (leaves : List LeafValue) → NumbersRise n (failing_from n leaves)
failing_rise n [] = tt
failing_rise n (leaf ∷ leaves) = by_test (fails leaf.ending) (failing_rise (n + 1) leaves)
  where
    by_test : (b : Bool) → NumbersRise (n + 1) (failing_from (n + 1) leaves)
        → NumbersRise n ((if b then record { number = n; ending = leaf.ending; sets = leaf.sets } ∷ [] else []) ++ failing_from (n + 1) leaves)
    by_test true rest = (omega arith, rest)
    by_test false rest = numbers_later n (n + 1) (failing_from (n + 1) leaves) (omega arith) rest

pub failing_few : (n : ℕ) (leaves : List LeafValue) → length (failing_from n leaves) ≤ length leaves
failing_few n [] = omega arith
failing_few n (leaf ∷ leaves) = by_test (fails leaf.ending) (failing_few (n + 1) leaves)
  where
    by_test : (b : Bool) → length (failing_from (n + 1) leaves) ≤ length leaves
        → length ((if b then record { number = n; ending = leaf.ending; sets = leaf.sets } ∷ [] else []) ++ failing_from (n + 1) leaves) ≤ suc (length leaves)
    by_test true rest = omega (arith, rest)
    by_test false rest = omega (arith, rest)

-- WHAT A LEAF SAYS OF A PART

pub fates_of_run : (tears : Bool) (fates : List (Option Fate)) → AreFates tears fates → list_all (is_of_run tears) fates ≡ true
fates_of_run tears fates are = some_so (is_of_run tears) fates (all_fates tears) are.of_all (all_of_run tears)

-- its first fate, where it isn't whole
pub first_of_run : (tears : Bool) (fates : List (Option Fate)) (f : Fate) → AreFates tears fates → slice_index_or fates 0 None ≡ Some f → is_fate_of_run tears f ≡ true
unfolding is_of_run
first_of_run tears [] f are is = absurd (let bad : None ≡ Some f = is in cc)
first_of_run tears (g ∷ gs) f are is =
    let own : g ≡ Some f = is in
    let each = fates_of_run tears (g ∷ gs) are in
    subst (λ (x : Option Fate). is_of_run tears x ≡ true) own (first_so (is_of_run tears g) (list_all (is_of_run tears) gs) each)

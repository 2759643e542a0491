-- The groups of a set of fates, taken one after the other.
use Rattle.std.proofs.Common.{ℕ, suc, ◌≡◌, ◌+◌, ◌<◌, ◌≤◌, Bool, true, false, not, ◌&&◌, if◌then◌else◌, List, [], ◌∷◌, ◌++◌, length, map, filter, Option, refl, sym, ◌∙◌, ap, arith, append_assoc}
use Rattle.std.specs.List.{range_with_len}
use Rattle.std.proofs.lemmas.List.{append-nil, map-append, length-map, length-append}
use Rattle.choices.specs.declared.fate.Fate.{Fate}
use Rattle.cases.specs.Cases.{firsts, kinds}
use Rattle.cases.specs.Sets.{has, numbers_in, fates_in, fate_at}
use Rattle.cases.proofs.Cases.{AreKinds}
use Rattle.cases.proofs.Numbered.{kept_fates, fates_first, kept_twice}

-- two tests, in either order
pub kept_turned : {A : Type 0} (p q : A → Bool) (xs : List A) → filter q (filter p xs) ≡ filter p (filter q xs)
kept_turned p q [] = refl
kept_turned p q (x ∷ xs) = by_tests (p x) (q x) refl refl (kept_turned p q xs)
  where
    by_tests : (a b : Bool) → p x ≡ a → q x ≡ b → filter q (filter p xs) ≡ filter p (filter q xs)
        → filter q (if a then x ∷ filter p xs else filter p xs) ≡ filter p (if b then x ∷ filter q xs else filter q xs)
    by_tests true true one two rest =
        ap (λ v. if v then x ∷ filter q (filter p xs) else filter q (filter p xs)) two
        ∙ ap (λ ys. x ∷ ys) rest
        ∙ sym (ap (λ v. if v then x ∷ filter p (filter q xs) else filter p (filter q xs)) one)
    by_tests true false one two rest = ap (λ v. if v then x ∷ filter q (filter p xs) else filter q (filter p xs)) two ∙ rest
    by_tests false true one two rest = rest ∙ sym (ap (λ v. if v then x ∷ filter p (filter q xs) else filter p (filter q xs)) one)
    by_tests false false one two rest = rest

-- a test that passes nothing else adds nothing
kept_less : {A : Type 0} (p q : A → Bool) (xs : List A) → ((x : A) → q x ≡ true → p x ≡ true) → filter q (filter p xs) ≡ filter q xs
kept_less p q [] on = refl
kept_less p q (x ∷ xs) on = by_tests (p x) (q x) refl refl (kept_less p q xs on)
  where
    by_tests : (a b : Bool) → p x ≡ a → q x ≡ b → filter q (filter p xs) ≡ filter q xs
        → filter q (if a then x ∷ filter p xs else filter p xs) ≡ (if b then x ∷ filter q xs else filter q xs)
    by_tests true b one two rest = ap (λ v. if v then x ∷ filter q (filter p xs) else filter q (filter p xs)) two ∙ ap (λ ys. if b then x ∷ ys else ys) rest
    by_tests false true one two rest = let bad : true ≡ false = sym (on x two) ∙ one in cc
    by_tests false false one two rest = rest

-- of what passes a test that tells none of a kind apart, the firsts are those that pass it
pub firsts_kept : {A : Type 0} (alike : A → A → Bool) (q : A → Bool) (xs : List A) → ((x y : A) → alike x y ≡ true → q x ≡ q y)
    → firsts alike (filter q xs) ≡ filter q (firsts alike xs)
firsts_kept alike q [] same = refl
firsts_kept alike q (x ∷ xs) same = by_test (q x) refl (firsts_kept alike q xs same)
  where
    other : q x ≡ false → (y : _) → q y ≡ true → (b : Bool) → alike x y ≡ b → not b ≡ true
    other none y own true both = let bad : true ≡ false = sym own ∙ sym (same x y both) ∙ none in cc
    other none y own false both = refl

    by_test : (b : Bool) → q x ≡ b → firsts alike (filter q xs) ≡ filter q (firsts alike xs)
        → firsts alike (if b then x ∷ filter q xs else filter q xs) ≡ filter q (x ∷ filter (λ y. not (alike x y)) (firsts alike xs))
    by_test true is rest =
        ap (λ ys. x ∷ filter (λ y. not (alike x y)) ys) rest
        ∙ ap (λ ys. x ∷ ys) (sym (kept_turned (λ y. not (alike x y)) q (firsts alike xs)))
        ∙ sym (ap (λ v. if v then x ∷ filter q (filter (λ y. not (alike x y)) (firsts alike xs)) else filter q (filter (λ y. not (alike x y)) (firsts alike xs))) is)
    by_test false is rest =
        rest ∙ sym (kept_less (λ y. not (alike x y)) q (firsts alike xs) (λ y own. other is y own (alike x y) refl))
        ∙ sym (ap (λ v. if v then x ∷ filter q (filter (λ y. not (alike x y)) (firsts alike xs)) else filter q (filter (λ y. not (alike x y)) (firsts alike xs))) is)

-- without the first kind
pub firsts_rest : {A : Type 0} (alike : A → A → Bool) (laws : AreKinds alike) (x : A) (xs : List A)
    → firsts alike (filter (λ y. not (alike x y)) (x ∷ xs)) ≡ filter (λ y. not (alike x y)) (firsts alike xs)
firsts_rest alike laws x xs =
    ap (λ b. firsts alike (if not b then x ∷ filter (λ y. not (alike x y)) xs else filter (λ y. not (alike x y)) xs)) (laws.own x)
    ∙ firsts_kept alike (λ y. not (alike x y)) xs (λ y z both. ap not (told y z both))
  where
    told : (y z : _) → alike y z ≡ true → alike x y ≡ alike x z
    told y z both = by_tests (alike x y) (alike x z) refl refl
      where
        by_tests : (a b : Bool) → alike x y ≡ a → alike x z ≡ b → a ≡ b
        by_tests true true one two = refl
        by_tests false false one two = refl
        by_tests true false one two = let bad : true ≡ false = sym (laws.joined x y z one both) ∙ two in cc
        by_tests false true one two = let bad : true ≡ false = sym (laws.joined x z y two (laws.turned y z both)) ∙ one in cc

length_kept : {A : Type 0} (q : A → Bool) (xs : List A) → length (filter q xs) ≤ length xs
length_kept q [] = omega arith
length_kept q (x ∷ xs) = by_test (q x) (length_kept q xs)
  where
    by_test : (b : Bool) → length (filter q xs) ≤ length xs → length (if b then x ∷ filter q xs else filter q xs) ≤ suc (length xs)
    by_test true rest = omega (arith, rest)
    by_test false rest = omega (arith, rest)

pub length_fates : (bits : ℕ) → length (fates_in bits) ≤ 16
unfolding fates_in numbers_in
length_fates bits = omega (arith, length-map (filter (has bits) (range_with_len 0 16)) fate_at, length_kept (has bits) (range_with_len 0 16))

-- the groups that were made of a set, and the fates that are left of it
pub record Made (alike : Option Fate → Option Fate → Bool) (set rest : ℕ) (groups : List ℕ) : Type 0 where
  pub done : map fates_in groups ++ map (λ x. filter (alike x) (fates_in set)) (firsts alike (fates_in rest)) ≡ kinds alike (fates_in set)
  pub room : length groups + length (fates_in rest) ≤ 16
  pub some : (i : ℕ) → i < 16 → has rest i ≡ true → has set i ≡ true

pub made_none : (alike : Option Fate → Option Fate → Bool) (set : ℕ) → Made alike set set []
made_none alike set = record { done = refl; room = (let long = length_fates set in omega (arith, long)); some = λ i low is. is }

pub record MadeMore (alike : Option Fate → Option Fate → Bool) (set rest next : ℕ) (groups : List ℕ) (group : ℕ) : Type 0 where
  pub more : Made alike set next (groups ++ group ∷ [])
  pub less : length (fates_in next) < length (fates_in rest)

pub made_more : (alike : Option Fate → Option Fate → Bool) (laws : AreKinds alike) (set rest next one group : ℕ) (groups : List ℕ) → Made alike set rest groups
    → (others : List ℕ) × (numbers_in 16 rest ≡ one ∷ others)
    → ((i : ℕ) → i < 16 → has group i ≡ (has set i && alike (fate_at one) (fate_at i)))
    → ((i : ℕ) → i < 16 → has next i ≡ (has rest i && not (has group i)))
    → MadeMore alike set rest next groups group
made_more alike laws set rest next one group groups so first own left =
    let x : Option Fate = fate_at one in
    let fates = fates_first rest one first in
    let zs : List (Option Fate) = fates.0 in
    let kept : fates_in next ≡ filter (λ f. not (alike x f)) (fates_in rest) = kept_fates rest next (λ f. not (alike x f)) (λ i low. left i low ∙ by_rest i low (has rest i) refl) in
    let kept_own : fates_in next ≡ filter (λ f. not (alike x f)) (x ∷ zs) = kept ∙ ap (filter (λ f. not (alike x f))) fates.1 in
    let gone : filter (λ f. not (alike x f)) (x ∷ zs) ≡ filter (λ f. not (alike x f)) zs =
    ap (λ b. if not b then x ∷ filter (λ f. not (alike x f)) zs else filter (λ f. not (alike x f)) zs) (laws.own x) in
    let short : length (fates_in next) ≡ length (filter (λ f. not (alike x f)) zs) = ap (λ (fs : List (Option Fate)). length fs) (kept_own ∙ gone) in
    let long : length (fates_in rest) ≡ suc (length zs) = ap (λ (fs : List (Option Fate)). length fs) fates.1 in
    let few = length_kept (λ f. not (alike x f)) zs in
    let less : length (fates_in next) < length (fates_in rest) = omega (arith, short, long, few) in
    let G : Option Fate → List (Option Fate) = λ y. filter (alike y) (fates_in set) in
    let here : fates_in group ≡ G x = kept_fates set group (alike x) own in
    let room = so.room in
    record {
      less = less;
      more = record {
        room = let pushed = length-append groups (group ∷ []) in omega (arith, pushed, room, less);
        some = λ i low is. so.some i low (from_rest i low is);
        done =
            ap (λ fs. map fates_in (groups ++ group ∷ []) ++ map G fs) (ap (firsts alike) kept_own ∙ firsts_rest alike laws x zs)
            ∙ ap (λ gs. gs ++ map G (filter (λ f. not (alike x f)) (firsts alike zs))) (map-append fates_in groups (group ∷ []))
            ∙ append_assoc (map fates_in groups) (fates_in group ∷ []) (map G (filter (λ f. not (alike x f)) (firsts alike zs)))
            ∙ ap (λ g. map fates_in groups ++ g ∷ map G (filter (λ f. not (alike x f)) (firsts alike zs))) here
            ∙ sym (ap (λ fs. map fates_in groups ++ map G (firsts alike fs)) fates.1)
            ∙ so.done;
      };
    }
  where
    by_rest : (i : ℕ) → i < 16 → (b : Bool) → has rest i ≡ b → (b && not (has group i)) ≡ (b && not (alike (fate_at one) (fate_at i)))
    by_rest i low true is = ap not (own i low ∙ ap (λ b. b && alike (fate_at one) (fate_at i)) (so.some i low is))
    by_rest i low false is = refl

    from_rest : (i : ℕ) → i < 16 → has next i ≡ true → has rest i ≡ true
    from_rest i low is = Rattle.std.specs.Cmp.first_so (has rest i) (not (has group i)) (sym (left i low) ∙ is)

pub made_all : (alike : Option Fate → Option Fate → Bool) (set : ℕ) (groups : List ℕ) → Made alike set 0 groups → map fates_in groups ≡ kinds alike (fates_in set)
made_all alike set groups so =
    sym (append-nil (map fates_in groups))
    ∙ sym (ap (λ fs. map fates_in groups ++ map (λ x. filter (alike x) (fates_in set)) (firsts alike fs)) Rattle.cases.proofs.Numbered.no_fates)
    ∙ so.done

-- there is room for one more group, while fates are left
pub made_room : (alike : Option Fate → Option Fate → Bool) (set rest one : ℕ) (groups : List ℕ) → Made alike set rest groups
    → (others : List ℕ) × (numbers_in 16 rest ≡ one ∷ others) → length groups < 16
made_room alike set rest one groups so first =
    let fates = fates_first rest one first in
    let long : length (fates_in rest) ≡ suc (length fates.0) = ap (λ (fs : List (Option Fate)). length fs) fates.1 in
    let room = so.room in
    omega (arith, room, long)

-- Each choice is in exactly one case.
use Rattle.std.proofs.Common.{ℕ, ◌≡◌, ◌≤◌, ◌⊎◌, ◌==◌, nat_le, nat_lt, Bool, true, false, not, ◌&&◌, if◌then◌else◌, List, [], ◌∷◌, ◌++◌, length, map, filter, count_by, slice_index_or, Option, None, Some, refl, sym, subst, ◌∙◌, ap, arith, inl, inr}
use Rattle.std.specs.List.{list_all, range_with_len}
use Rattle.std.specs.Option.{option_map_or}
use Rattle.std.specs.Cmp.{first_so, second_so}
use Rattle.std.specs.Prelude.{IfSome}
use Rattle.std.proofs.lemmas.Bool.{eqb-true, eq-eqb, le-leb}
use Rattle.std.proofs.lemmas.List.Sums.{sum_by-cons}
use Rattle.std.proofs.lemmas.Option.{same_Some}
use Rattle.logfmt.specs.Bounds.{LogValue}
use Rattle.epochs.specs.declared.part.Part.{Part}
use Rattle.epochs.specs.declared.part.By.{By}
use Rattle.epochs.specs.declared.unit.Unit.{Unit as LogUnit}
use Rattle.choices.specs.declared.fate.Fate.{Fate}
use Rattle.cases.specs.Risk.{is_at_risk, parts_at_risk}
use Rattle.cases.specs.Choices.{Choice}
use Rattle.cases.specs.Rows.{row, part_with, shows}
use Rattle.cases.specs.Cases.{Case, whole_case, is_same, with_part, show_alike, firsts, kinds, matters, Split, split_or, split_in_row, or_else, first_split}
use Rattle.cases.specs.Trees.{Subject, is_lost, is_torn, surely, is_within, AreLeaves, no_case, is_beyond, is_leaf, is_split}
use Rattle.cases.specs.Laws.{IsAmong, Includes, OfNone, OfOne, IsAsked, EachIsInOne}

-- of lists

pub none_of_both : {A : Type 0} (P : A → Type 0) (xs ys : List A) → OfNone P xs → OfNone P ys → OfNone P (xs ++ ys)
none_of_both P [] ys none rest = rest
none_of_both P (x ∷ xs) ys none rest = (none.0, none_of_both P xs ys none.1 rest)

pub one_of_first : {A : Type 0} (P : A → Type 0) (xs ys : List A) → OfOne P xs → OfNone P ys → OfOne P (xs ++ ys)
one_of_first P [] ys one rest = absurd one
one_of_first P (x ∷ xs) ys (inl own) rest = inl (own.0, none_of_both P xs ys own.1 rest)
one_of_first P (x ∷ xs) ys (inr other) rest = inr (other.0, one_of_first P xs ys other.1 rest)

pub one_of_second : {A : Type 0} (P : A → Type 0) (xs ys : List A) → OfNone P xs → OfOne P ys → OfOne P (xs ++ ys)
one_of_second P [] ys none one = one
one_of_second P (x ∷ xs) ys none one = inr (none.0, one_of_second P xs ys none.1 one)

-- an element that goes from the front into the midst
pub none_with : {A : Type 0} (P : A → Type 0) (xs ys : List A) (x : A) → (P x → ⊥) → OfNone P (xs ++ ys) → OfNone P (xs ++ x ∷ ys)
none_with P [] ys x never none = (never, none)
none_with P (w ∷ xs) ys x never none = (none.0, none_with P xs ys x never none.1)

pub here_alone : {A : Type 0} (P : A → Type 0) (xs ys : List A) (x : A) → P x → OfNone P (xs ++ ys) → OfOne P (xs ++ x ∷ ys)
here_alone P [] ys x own none = inl (own, none)
here_alone P (w ∷ xs) ys x own none = inr (none.0, here_alone P xs ys x own none.1)

pub one_with : {A : Type 0} (P : A → Type 0) (xs ys : List A) (x : A) → (P x → ⊥) → OfOne P (xs ++ ys) → OfOne P (xs ++ x ∷ ys)
one_with P [] ys x never one = inr (never, one)
one_with P (w ∷ xs) ys x never (inl own) = inl (own.0, none_with P xs ys x never own.1)
one_with P (w ∷ xs) ys x never (inr other) = inr (other.0, one_with P xs ys x never other.1)

none_of_kept : {A : Type 0} (P : A → Type 0) (q : A → Bool) (xs : List A) → ((x : A) → q x ≡ true → P x → ⊥) → OfNone P (filter q xs)
none_of_kept P q [] never = tt
none_of_kept P q (x ∷ xs) never = by_test (none_of_kept P q xs never) (q x) refl
  where
    by_test : OfNone P (filter q xs) → (b : Bool) → q x ≡ b → OfNone P (if b then x ∷ filter q xs else filter q xs)
    by_test rest true is = (never x is, rest)
    by_test rest false is = rest

less_none : {A : Type 0} (P : A → Type 0) (q : A → Bool) (xs : List A) → OfNone P xs → OfNone P (filter q xs)
less_none P q [] none = tt
less_none P q (x ∷ xs) none = by_test (less_none P q xs none.1) (q x)
  where
    by_test : OfNone P (filter q xs) → (b : Bool) → OfNone P (if b then x ∷ filter q xs else filter q xs)
    by_test rest true = (none.0, rest)
    by_test rest false = rest

one_of_kept : {A : Type 0} (P : A → Type 0) (q : A → Bool) (xs : List A) → ((x : A) → P x → q x ≡ true) → OfOne P xs → OfOne P (filter q xs)
one_of_kept P q [] kept one = absurd one
one_of_kept P q (x ∷ xs) kept (inl own) =
    let is : q x ≡ true = kept x own.0 in
    let Q : Bool → Type 0 = λ b. OfOne P (if b then x ∷ filter q xs else filter q xs) in
    subst Q (sym is) (inl (own.0, less_none P q xs own.1))
one_of_kept P q (x ∷ xs) kept (inr other) = by_test (one_of_kept P q xs kept other.1) (q x)
  where
    by_test : OfOne P (filter q xs) → (b : Bool) → OfOne P (if b then x ∷ filter q xs else filter q xs)
    by_test rest true = inr (other.0, rest)
    by_test rest false = rest

none_mapped : {A B : Type 0} (P : A → Type 0) (Q : B → Type 0) (h : A → B) (xs : List A) → ((x : A) → Q (h x) → P x) → OfNone P xs → OfNone Q (map h xs)
none_mapped P Q h [] back none = tt
none_mapped P Q h (x ∷ xs) back none = ((λ own. none.0 (back x own)), none_mapped P Q h xs back none.1)

all_none_mapped : {A B : Type 0} (Q : B → Type 0) (h : A → B) (xs : List A) → ((x : A) → Q (h x) → ⊥) → OfNone Q (map h xs)
all_none_mapped Q h [] never = tt
all_none_mapped Q h (x ∷ xs) never = (never x, all_none_mapped Q h xs never)

one_mapped : {A B : Type 0} (P : A → Type 0) (Q : B → Type 0) (h : A → B) (xs : List A) → ((x : A) → P x → Q (h x)) → ((x : A) → Q (h x) → P x)
    → OfOne P xs → OfOne Q (map h xs)
one_mapped P Q h [] on back one = absurd one
one_mapped P Q h (x ∷ xs) on back (inl own) = inl (on x own.0, none_mapped P Q h xs back own.1)
one_mapped P Q h (x ∷ xs) on back (inr other) = inr ((λ own. other.0 (back x own)), one_mapped P Q h xs on back other.1)

-- of kinds

pub record AreKinds {A : Type 0} (alike : A → A → Bool) : Type 0 where
  pub own : (x : A) → alike x x ≡ true
  pub turned : (x y : A) → alike x y ≡ true → alike y x ≡ true
  pub joined : (x y z : A) → alike x y ≡ true → alike y z ≡ true → alike x z ≡ true

not_false : (b : Bool) → not b ≡ true → b ≡ false
not_false true is = let bad : false ≡ true = is in cc
not_false false is = refl

pub one_first : {A : Type 0} (alike : A → A → Bool) (laws : AreKinds alike) (xs : List A) (y : A) → IsAmong xs y → OfOne (λ x. alike x y ≡ true) (firsts alike xs)
one_first alike laws [] y among = absurd among
one_first alike laws (x ∷ xs) y among = by_test (one_first alike laws xs y) (alike x y) refl
  where
    among_rest : alike x y ≡ false → (x ≡ y) ⊎ IsAmong xs y → IsAmong xs y
    among_rest other (inl same) = absurd (let is : alike x y ≡ true = ap (alike x) (sym same) ∙ laws.own x in let bad : true ≡ false = sym is ∙ other in cc)
    among_rest other (inr rest) = rest

    other : alike x y ≡ false → (z : _) → alike z y ≡ true → (b : Bool) → alike x z ≡ b → not b ≡ true
    other apart z own true both = absurd (let bad : true ≡ false = sym (laws.joined x z y both own) ∙ apart in cc)
    other apart z own false both = refl

    by_test : (IsAmong xs y → OfOne (λ z. alike z y ≡ true) (firsts alike xs)) → (b : Bool) → alike x y ≡ b → OfOne (λ z. alike z y ≡ true) (firsts alike (x ∷ xs))
    by_test rest true is =
        inl (
          is,
          none_of_kept (λ z. alike z y ≡ true) (λ z. not (alike x z)) (firsts alike xs)
              (λ z kept own. let bad : true ≡ false = sym (laws.joined x y z is (laws.turned z y own)) ∙ not_false (alike x z) kept in cc),
        )
    by_test rest false is =
        inr (
          (λ own. let bad : true ≡ false = sym own ∙ is in cc),
          one_of_kept (λ z. alike z y ≡ true) (λ z. not (alike x z)) (firsts alike xs) (λ z own. other is z own (alike x z) refl) (rest (among_rest is among)),
        )

-- of what fates show

same_shown : Bool → Bool → Bool
same_shown a b = if a then b else not b

own_shown : (a : Bool) → (if a then a else not a) ≡ true
own_shown true = refl
own_shown false = refl

turned_shown : (a b : Bool) → (if a then b else not b) ≡ true → (if b then a else not a) ≡ true
turned_shown true true is = refl
turned_shown true false is = let bad : false ≡ true = is in cc
turned_shown false true is = let bad : false ≡ true = is in cc
turned_shown false false is = refl

joined_shown : (a b c : Bool) → (if a then b else not b) ≡ true → (if b then c else not c) ≡ true → (if a then c else not c) ≡ true
joined_shown true true c one two = two
joined_shown true false c one two = let bad : false ≡ true = one in cc
joined_shown false true c one two = let bad : false ≡ true = one in cc
joined_shown false false c one two = two

both_so : (a b : Bool) → a ≡ true → b ≡ true → (a && b) ≡ true
both_so true true one two = refl
both_so true false one two = let bad : false ≡ true = two in cc
both_so false b one two = let bad : false ≡ true = one in cc

pub all_alike : {A : Type 0} (f : A → Bool) (xs : List A) → ((x : A) → f x ≡ true) → list_all f xs ≡ true
all_alike f [] each = refl
all_alike f (x ∷ xs) each = both_so (f x) (list_all f xs) (each x) (all_alike f xs each)

all_of_two : {A : Type 0} (f g : A → Bool) (xs : List A) → ((x : A) → f x ≡ true → g x ≡ true) → list_all f xs ≡ true → list_all g xs ≡ true
all_of_two f g [] on is = refl
all_of_two f g (x ∷ xs) on is =
    both_so (g x) (list_all g xs) (on x (first_so (f x) (list_all f xs) is)) (all_of_two f g xs on (second_so (f x) (list_all f xs) is))

all_of_three : {A : Type 0} (f g h : A → Bool) (xs : List A) → ((x : A) → f x ≡ true → g x ≡ true → h x ≡ true) → list_all f xs ≡ true → list_all g xs ≡ true
    → list_all h xs ≡ true
all_of_three f g h [] on one two = refl
all_of_three f g h (x ∷ xs) on one two =
    both_so (h x) (list_all h xs) (on x (first_so (f x) (list_all f xs) one) (first_so (g x) (list_all g xs) two))
    (all_of_three f g h xs on (second_so (f x) (list_all f xs) one) (second_so (g x) (list_all g xs) two))

pub shown_kinds : (p : Part) (u : LogUnit) (pieces : List ℕ) → AreKinds (show_alike p u pieces)
shown_kinds p u pieces = record {
  own = λ f. all_alike (λ i. if shows f p u i then shows f p u i else not (shows f p u i)) pieces (λ i. own_shown (shows f p u i));
  turned = λ f g is.
      all_of_two (λ i. if shows f p u i then shows g p u i else not (shows g p u i)) (λ i. if shows g p u i then shows f p u i else not (shows f p u i)) pieces
      (λ i. turned_shown (shows f p u i) (shows g p u i)) is;
  joined = λ f g h one two.
      all_of_three (λ i. if shows f p u i then shows g p u i else not (shows g p u i)) (λ i. if shows g p u i then shows h p u i else not (shows h p u i))
      (λ i. if shows f p u i then shows h p u i else not (shows h p u i)) pieces
      (λ i. joined_shown (shows f p u i) (shows g p u i) (shows h p u i)) one two;
}

-- of parts

pub same_part : (p q : Part) → is_same p q ≡ true → p ≡ q
same_part p q is =
    let rest = second_so (p.entry == q.entry) ((p.place == q.place) && ((p.count == q.count) && (p.sector == q.sector))) is in
    let last = second_so (p.place == q.place) ((p.count == q.count) && (p.sector == q.sector)) rest in
    let entry = eqb-true p.entry q.entry (first_so (p.entry == q.entry) ((p.place == q.place) && ((p.count == q.count) && (p.sector == q.sector))) is) in
    let place = eqb-true p.place q.place (first_so (p.place == q.place) ((p.count == q.count) && (p.sector == q.sector)) rest) in
    let count = eqb-true p.count q.count (first_so (p.count == q.count) (p.sector == q.sector) last) in
    let sector = eqb-true p.sector q.sector (second_so (p.count == q.count) (p.sector == q.sector) last) in
    λ i. record { entry = entry i; place = place i; count = count i; sector = sector i }

pub own_part : (p : Part) → is_same p p ≡ true
own_part p =
    both_so (p.entry == p.entry) ((p.place == p.place) && ((p.count == p.count) && (p.sector == p.sector))) (eq-eqb p.entry p.entry refl)
    (both_so (p.place == p.place) ((p.count == p.count) && (p.sector == p.sector)) (eq-eqb p.place p.place refl)
    (both_so (p.count == p.count) (p.sector == p.sector) (eq-eqb p.count p.count refl) (eq-eqb p.sector p.sector refl)))

narrowed : (choice : Choice) (c : Case) (p : Part) (g : List (Option Fate)) → Includes choice c → IsAmong g (choice p) → Includes choice (with_part c p g)
narrowed choice c p g all own q = by_test (is_same p q) refl
  where
    by_test : (b : Bool) → is_same p q ≡ b → IsAmong (if b then g else c q) (choice q)
    by_test true is = let P : Part → Type 0 = λ r. IsAmong g (choice r) in subst P (same_part p q is) own
    by_test false is = all q

widened : (choice : Choice) (c : Case) (p : Part) (g : List (Option Fate)) → ((f : Option Fate) → IsAmong g f → IsAmong (c p) f)
    → Includes choice (with_part c p g) → Includes choice c
widened choice c p g some all q = by_test (is_same p q) refl (all q)
  where
    by_test : (b : Bool) → is_same p q ≡ b → IsAmong (if b then g else c q) (choice q) → IsAmong (c q) (choice q)
    by_test true is own =
        let same = same_part p q is in
        let P : Part → Type 0 = λ r. IsAmong (c r) (choice q) in
        subst P same (some (choice q) own)
    by_test false is own = own

own_fate : (choice : Choice) (c : Case) (p : Part) (g : List (Option Fate)) → Includes choice (with_part c p g) → IsAmong g (choice p)
own_fate choice c p g all =
    let P : Bool → Type 0 = λ b. IsAmong (if b then g else c p) (choice p) in
    subst P (own_part p) (all p)

-- of what passes a test
pub kept_among : {A : Type 0} (q : A → Bool) (xs : List A) (x : A) → IsAmong xs x → q x ≡ true → IsAmong (filter q xs) x
kept_among q [] x among is = absurd among
kept_among q (y ∷ ys) x (inl same) is =
    let own : q y ≡ true = ap q same ∙ is in
    let P : Bool → Type 0 = λ b. IsAmong (if b then y ∷ filter q ys else filter q ys) x in
    subst P (sym own) (inl same)
kept_among q (y ∷ ys) x (inr rest) is = by_test (kept_among q ys x rest is) (q y)
  where
    by_test : IsAmong (filter q ys) x → (b : Bool) → IsAmong (if b then y ∷ filter q ys else filter q ys) x
    by_test own true = inr own
    by_test own false = own

pub among_kept : {A : Type 0} (q : A → Bool) (xs : List A) (x : A) → IsAmong (filter q xs) x → IsAmong xs x × (q x ≡ true)
among_kept q [] x among = absurd among
among_kept q (y ∷ ys) x among = by_test (λ own. among_kept q ys x own) (q y) refl among
  where
    rest : (IsAmong (filter q ys) x → IsAmong ys x × (q x ≡ true)) → IsAmong (filter q ys) x → IsAmong (y ∷ ys) x × (q x ≡ true)
    rest again own = let was = again own in (inr was.0, was.1)

    here : (IsAmong (filter q ys) x → IsAmong ys x × (q x ≡ true)) → q y ≡ true → (y ≡ x) ⊎ IsAmong (filter q ys) x → IsAmong (y ∷ ys) x × (q x ≡ true)
    here again is (inl same) = (inl same, ap q (sym same) ∙ is)
    here again is (inr own) = rest again own

    by_test : (IsAmong (filter q ys) x → IsAmong ys x × (q x ≡ true)) → (b : Bool) → q y ≡ b → IsAmong (if b then y ∷ filter q ys else filter q ys) x
        → IsAmong (y ∷ ys) x × (q x ≡ true)
    by_test again true is own = here again is own
    by_test again false is own = rest again own

-- the groups of a split are the kinds of what a case says of its part
pub record IsSplit (c : Case) (it : Split) : Type 0 where
  pub unit : LogUnit
  pub pieces : List ℕ
  pub groups : it.groups ≡ kinds (show_alike it.part unit pieces) (c it.part)
  pub many : nat_lt 1 (length (firsts (show_alike it.part unit pieces) (c it.part))) ≡ true

split_here : (c : Case) (below : List ℕ → Option Split) (p : Part) (u : LogUnit) (pieces : List ℕ) (it : Split) → split_or below p u pieces (c p) ≡ Some it
    → ((wanted : List ℕ) → below wanted ≡ Some it → IsSplit c it) → IsSplit c it
split_here c below p u pieces it is rest = by_test (nat_lt 1 (length (firsts (show_alike p u pieces) (c p)))) refl is
  where
    by_test : (b : Bool) → nat_lt 1 (length (firsts (show_alike p u pieces) (c p))) ≡ b
        → (if b then Some (record { part = p; groups = kinds (show_alike p u pieces) (c p) }) else below (filter (λ i. not (shows (slice_index_or (c p) 0 None) p u i)) pieces)) ≡ Some it
        → IsSplit c it
    by_test true many here =
        let own : Split = record { part = p; groups = kinds (show_alike p u pieces) (c p) } in
        let same : own ≡ it = same_Some own it here in
        let P : Split → Type 0 = λ x. IsSplit c x in
        subst P same (record { unit = u; pieces = pieces; groups = refl; many = many })
    by_test false few here = rest (filter (λ i. not (shows (slice_index_or (c p) 0 None) p u i)) pieces) here

split_is : (log : LogValue) (way : By) (k s : ℕ) (c : Case) (us : List LogUnit) (wanted : List ℕ) (it : Split) → split_in_row log way k s c us wanted ≡ Some it → IsSplit c it
split_is log way k s c [] wanted it is = absurd (let bad : None ≡ Some it = is in cc)
split_is log way k s c (u ∷ below) wanted it is = by_test (λ others own. split_is log way k s c below others it own) (is_at_risk log.entries k u.entry) is
  where
    by_test : ((others : List ℕ) → split_in_row log way k s c below others ≡ Some it → IsSplit c it) → (b : Bool)
        → (if b then split_or (split_in_row log way k s c below) (part_with way log.entries u) u (filter (matters log k s u below) wanted) (c (part_with way log.entries u)) else None) ≡ Some it
        → IsSplit c it
    by_test again true here =
        split_here c (split_in_row log way k s c below) (part_with way log.entries u) u (filter (matters log k s u below) wanted) it here again
    by_test again false here = absurd (let bad : None ≡ Some it = here in cc)

pub first_is : (log : LogValue) (way : By) (k : ℕ) (c : Case) (sectors : List ℕ) (it : Split) → first_split log way k c sectors ≡ Some it → IsSplit c it
first_is log way k c [] it is = absurd (let bad : None ≡ Some it = is in cc)
first_is log way k c (s ∷ sectors) it is =
    by_first (λ own. first_is log way k c sectors it own) (split_in_row log way k s c (row log.entries k s) (range_with_len 0 8)) refl is
  where
    by_first : (first_split log way k c sectors ≡ Some it → IsSplit c it) → (o : Option Split) → split_in_row log way k s c (row log.entries k s) (range_with_len 0 8) ≡ o → or_else o (first_split log way k c sectors) ≡ Some it → IsSplit c it
    by_first again None own here = again here
    by_first again (Some x) own here =
        let same : x ≡ it = same_Some x it here in
        split_is log way k s c (row log.entries k s) (range_with_len 0 8) it (own ∙ ap (λ y. Some y) same)

-- of a case that is split a choice is in one of the cases of its groups, and of another in none
children : Case → Split → List Case
children c it = map (with_part c it.part) it.groups

pub child_is : (choice : Choice) (c : Case) (it : Split) → IsSplit c it → Includes choice c → OfOne (Includes choice) (map (with_part c it.part) it.groups)
child_is choice c it is all =
    let alike : Option Fate → Option Fate → Bool = show_alike it.part is.unit is.pieces in
    let fates : List (Option Fate) = c it.part in
    let group : Option Fate → List (Option Fate) = λ f. filter (alike f) fates in
    let firsts_one : OfOne (λ f. alike f (choice it.part) ≡ true) (firsts alike fates) = one_first alike (shown_kinds it.part is.unit is.pieces) fates (choice it.part) (all it.part) in
    let groups_one : OfOne (λ (g : List (Option Fate)). IsAmong g (choice it.part)) (map group (firsts alike fates)) =
    one_mapped (λ f. alike f (choice it.part) ≡ true) (λ (g : List (Option Fate)). IsAmong g (choice it.part)) group (firsts alike fates)
    (λ f own. kept_among (alike f) fates (choice it.part) (all it.part) own) (λ f own. (among_kept (alike f) fates (choice it.part) own).1) firsts_one in
    let P : List (List (Option Fate)) → Type 0 = λ gs. OfOne (Includes choice) (map (with_part c it.part) gs) in
    subst P (sym is.groups)
    (one_mapped (λ (g : List (Option Fate)). IsAmong g (choice it.part)) (Includes choice) (with_part c it.part) (map group (firsts alike fates))
    (λ g own. narrowed choice c it.part g all own) (λ g own. own_fate choice c it.part g own) groups_one)

pub no_child : (choice : Choice) (c : Case) (it : Split) → IsSplit c it → (Includes choice c → ⊥) → OfNone (Includes choice) (map (with_part c it.part) it.groups)
no_child choice c it is never =
    let alike : Option Fate → Option Fate → Bool = show_alike it.part is.unit is.pieces in
    let fates : List (Option Fate) = c it.part in
    let P : List (List (Option Fate)) → Type 0 = λ gs. OfNone (Includes choice) (map (with_part c it.part) gs) in
    subst P (sym is.groups) (none_of_mapped (firsts alike fates))
  where
    none_of_mapped : (fs : List (Option Fate)) → OfNone (Includes choice) (map (with_part c it.part) (map (λ f. filter (show_alike it.part is.unit is.pieces f) (c it.part)) fs))
    none_of_mapped [] = tt
    none_of_mapped (f ∷ fs) = (
      (λ own. never (widened choice c it.part (filter (show_alike it.part is.unit is.pieces f) (c it.part))
          (λ x among. (among_kept (show_alike it.part is.unit is.pieces f) (c it.part) x among).0) own)),
      none_of_mapped fs,
    )

-- over all leaves

stays_none : (s : Subject) (choice : Choice) (cs ls left : List Case) → AreLeaves s cs ls left → OfNone (Includes choice) cs → OfNone (Includes choice) (ls ++ left)
stays_none s choice cs ls left no_case none = tt
stays_none s choice cs ls left (is_beyond c rest ls2 left2 out more) none =
    none_with (Includes choice) ls left2 c none.0 (stays_none s choice rest ls left2 more none.1)
stays_none s choice cs ls left (is_leaf c rest ls2 left2 within whole more) none = (none.0, stays_none s choice rest ls2 left more none.1)
stays_none s choice cs ls left (is_split c it rest ls2 left2 within is more) none =
    let at = first_is s.log s.way s.cut c _ it is in
    stays_none s choice (map (with_part c it.part) it.groups ++ rest) ls left more
    (none_of_both (Includes choice) (map (with_part c it.part) it.groups) rest (no_child choice c it at none.0) none.1)

stays_one : (s : Subject) (choice : Choice) (cs ls left : List Case) → AreLeaves s cs ls left → OfOne (Includes choice) cs → OfOne (Includes choice) (ls ++ left)
stays_one s choice cs ls left no_case one = absurd one
stays_one s choice cs ls left (is_beyond c rest ls2 left2 out more) (inl own) =
    here_alone (Includes choice) ls left2 c own.0 (stays_none s choice rest ls left2 more own.1)
stays_one s choice cs ls left (is_beyond c rest ls2 left2 out more) (inr other) =
    one_with (Includes choice) ls left2 c other.0 (stays_one s choice rest ls left2 more other.1)
stays_one s choice cs ls left (is_leaf c rest ls2 left2 within whole more) (inl own) = inl (own.0, stays_none s choice rest ls2 left more own.1)
stays_one s choice cs ls left (is_leaf c rest ls2 left2 within whole more) (inr other) = inr (other.0, stays_one s choice rest ls2 left more other.1)
stays_one s choice cs ls left (is_split c it rest ls2 left2 within is more) (inl own) =
    let at = first_is s.log s.way s.cut c _ it is in
    stays_one s choice (map (with_part c it.part) it.groups ++ rest) ls left more
    (one_of_first (Includes choice) (map (with_part c it.part) it.groups) rest (child_is choice c it at own.0) own.1)
stays_one s choice cs ls left (is_split c it rest ls2 left2 within is more) (inr other) =
    let at = first_is s.log s.way s.cut c _ it is in
    stays_one s choice (map (with_part c it.part) it.groups ++ rest) ls left more
    (one_of_second (Includes choice) (map (with_part c it.part) it.groups) rest (no_child choice c it at other.0) other.1)

-- what is asked isn't beyond

all_among : {A : Type 0} (test : A → Bool) (xs : List A) (x : A) → list_all test xs ≡ true → IsAmong xs x → test x ≡ true
all_among test [] x all among = absurd among
all_among test (y ∷ ys) x all (inl same) = ap test (sym same) ∙ first_so (test y) (list_all test ys) all
all_among test (y ∷ ys) x all (inr rest) = all_among test ys x (second_so (test y) (list_all test ys) all) rest

fewer : {A : Type 0} (p q : A → Bool) (xs : List A) → ((x : A) → p x ≡ true → q x ≡ true) → count_by p xs ≤ count_by q xs
fewer p q [] on = omega arith
fewer p q (x ∷ xs) on =
    let one = sum_by-cons (λ y. if p y then 1 else 0) x xs in
    let two = sum_by-cons (λ y. if q y then 1 else 0) x xs in
    let rest = fewer p q xs on in
    let here = at_one (p x) (q x) (on x) in
    omega (arith, one, two, rest, here)
  where
    at_one : (a b : Bool) → (a ≡ true → b ≡ true) → (if a then 1 else 0) ≤ (if b then 1 else 0)
    at_one true true on = omega arith
    at_one true false on = absurd (let bad : false ≡ true = on refl in cc)
    at_one false true on = omega arith
    at_one false false on = omega arith

surely_few : (s : Subject) (test : Option Fate → Bool) (c : Case) (choice : Choice) → Includes choice c
    → surely s test c ≤ count_by (λ (p : Part). test (choice p)) (parts_at_risk s.way s.log.entries s.cut)
surely_few s test c choice all =
    fewer (λ (p : Part). list_all test (c p)) (λ (p : Part). test (choice p)) (parts_at_risk s.way s.log.entries s.cut)
    (λ p each. all_among test (c p) (choice p) each (all p))

asked_within : (s : Subject) (c : Case) (choice : Choice) → IsAsked s choice → Includes choice c → is_within s c ≡ true
asked_within s c choice asked all =
    let torn = surely_few s is_torn c choice all in
    let most = asked.torn in
    both_so (nat_le (surely s is_torn c) s.torn) (option_map_or (λ n. nat_le (surely s is_lost c) n) s.lost true)
    (le-leb (surely s is_torn c) s.torn (omega (arith, torn, most))) (by_lost s.lost refl asked.lost)
  where
    by_lost : (o : Option ℕ) → s.lost ≡ o → IfSome o (λ n. count_by (λ (p : Part). is_lost (choice p)) (parts_at_risk s.way s.log.entries s.cut) ≤ n)
        → option_map_or (λ n. nat_le (surely s is_lost c) n) o true ≡ true
    by_lost None is few = refl
    by_lost (Some n) is few = let lost = surely_few s is_lost c choice all in le-leb (surely s is_lost c) n (omega (arith, lost, few))

none_beyond : (s : Subject) (choice : Choice) (cs ls left : List Case) → AreLeaves s cs ls left → IsAsked s choice → OfNone (Includes choice) left
none_beyond s choice cs ls left no_case asked = tt
none_beyond s choice cs ls left (is_beyond c rest ls2 left2 out more) asked =
    ((λ own. let bad : true ≡ false = sym (asked_within s c choice asked own) ∙ out in cc), none_beyond s choice rest ls left2 more asked)
none_beyond s choice cs ls left (is_leaf c rest ls2 left2 within whole more) asked = none_beyond s choice rest ls2 left more asked
none_beyond s choice cs ls left (is_split c it rest ls2 left2 within is more) asked =
    none_beyond s choice (map (with_part c it.part) it.groups ++ rest) ls left more asked

pub each_is_in_one : EachIsInOne
each_is_in_one = record {
  one = λ s tears leaves left choice are is. stays_one s choice (whole_case tears ∷ []) leaves left are (inl (is, tt));
  asked = λ s tears leaves left choice are asked. none_beyond s choice (whole_case tears ∷ []) leaves left are asked;
}

-- The parts of a line are as a run may have them.
use Rattle.std.proofs.Common.{ℕ, zero, suc, ◌≡◌, ◌+◌, ◌<◌, ◌≤◌, ◌&&◌, Bool, true, false, if◌then◌else◌, List, [], ◌∷◌, length, drop, get_or, map, Option, None, Some, refl, sym, ap, ◌∙◌, arith}
use Rattle.std.specs.List.{list_all}
use Rattle.choices.specs.declared.fate.Fate.{Fate}
use Rattle.choices.specs.declared.name.Name.{Name}
use Rattle.join.specs.declared.case_parts.names.PartName.{PartName}
use Rattle.join.specs.CaseTexts.{comes_after, parts_rise, is_above, fate_number, fates_rise, part_of, is_named_alike, fate_in}

-- what is left of a list at a place
drop_next : {A : Type 0} (xs : List A) (i : ℕ) (d : A) → i < length xs → drop i xs ≡ get_or xs i d ∷ drop (suc i) xs
drop_next [] i d small = absurd (omega (arith, small))
drop_next (x ∷ xs) zero d small = refl
drop_next (x ∷ xs) (suc i) d small = drop_next xs i d (omega (arith, small))

pub drop_here : {A : Type 0} (xs : List A) (i : ℕ) (d : A) → i < length xs → drop i xs ≡ get_or xs i d ∷ drop (i + 1) xs
drop_here {A} xs i d small = let e : suc i ≡ i + 1 = omega arith in drop_next xs i d small ∙ ap (λ (n : ℕ). get_or xs i d ∷ drop n xs) e

-- a test that fails for an element fails for all
pub all_fails : {A B : Type 0} (test : B → Bool) (f : A → B) (xs : List A) (i : ℕ) (x : A) → i < length xs → x ≡ get_or xs i x → test (f x) ≡ false → list_all test (map f xs) ≡ false
all_fails test f [] i x small is lack = absurd (omega (arith, small))
all_fails {A} {B} test f (y ∷ ys) zero x small is lack = ap (λ (t : Bool). t && list_all test (map f ys)) (ap (λ (z : A). test (f z)) (sym is) ∙ lack)
all_fails {A} {B} test f (y ∷ ys) (suc i) x small is lack = both (test (f y)) (all_fails test f ys i x (omega (arith, small)) is lack)
  where
    both : (t : Bool) → list_all test (map f ys) ≡ false → (t && list_all test (map f ys)) ≡ false
    both true rest = rest
    both false rest = refl

pub drop_none : {A : Type 0} (xs : List A) (i : ℕ) → length xs ≤ i → drop i xs ≡ []
drop_none [] zero long = refl
drop_none [] (suc i) long = refl
drop_none (x ∷ xs) zero long = absurd (omega (arith, long))
drop_none (x ∷ xs) (suc i) long = drop_none xs i (omega (arith, long))

-- parts rise as far as they were looked at
pub record RiseFrom (parts : List PartName) (last : Option PartName) (i : ℕ) : Type 0 where
  pub left : parts_rise None parts ≡ parts_rise last (drop i parts)

pub rise_begun : (parts : List PartName) → RiseFrom parts None 0
rise_begun parts = record { left = refl }

pub rise_on : (parts : List PartName) (last : Option PartName) (i : ℕ) (d : PartName) → RiseFrom parts last i → i < length parts → comes_after last (get_or parts i d) ≡ true
    → RiseFrom parts (Some (get_or parts i d)) (i + 1)
rise_on parts last i d h small is = record {
  left =
      h.left ∙ ap (λ (ps : List PartName). parts_rise last ps) (drop_here parts i d small)
      ∙ ap (λ (t : Bool). t && parts_rise (Some (get_or parts i d)) (drop (i + 1) parts)) is;
}

pub rise_failed : (parts : List PartName) (last : Option PartName) (i : ℕ) (d : PartName) → RiseFrom parts last i → i < length parts → comes_after last (get_or parts i d) ≡ false → parts_rise None parts ≡ false
rise_failed parts last i d h small is =
    h.left ∙ ap (λ (ps : List PartName). parts_rise last ps) (drop_here parts i d small)
    ∙ ap (λ (t : Bool). t && parts_rise (Some (get_or parts i d)) (drop (i + 1) parts)) is

pub rise_ended : (parts : List PartName) (last : Option PartName) (i : ℕ) → RiseFrom parts last i → length parts ≤ i → parts_rise None parts ≡ true
rise_ended parts last i h long = h.left ∙ ap (λ (ps : List PartName). parts_rise last ps) (drop_none parts i long)

-- fates rise as far as they were looked at
pub record FatesFrom (fates : List (Option Fate)) (last : Option ℕ) (i : ℕ) : Type 0 where
  pub left : fates_rise None fates ≡ fates_rise last (drop i fates)

pub fates_begun : (fates : List (Option Fate)) → FatesFrom fates None 0
fates_begun fates = record { left = refl }

fates_here : (fates : List (Option Fate)) (last : Option ℕ) (i n : ℕ) (x : Option Fate) → FatesFrom fates last i → i < length fates → x ≡ get_or fates i x → n ≡ fate_number x
    → fates_rise None fates ≡ (is_above last n && fates_rise (Some n) (drop (i + 1) fates))
fates_here fates last i n x h small is own =
    h.left ∙ ap (λ (fs : List (Option Fate)). fates_rise last fs) (drop_here fates i x small)
    ∙ ap (λ (f : Option Fate). fates_rise last (f ∷ drop (i + 1) fates)) (sym is)
    ∙ ap (λ (m : ℕ). is_above last m && fates_rise (Some m) (drop (i + 1) fates)) (sym own)

pub fates_on : (fates : List (Option Fate)) (last : Option ℕ) (i n : ℕ) (x : Option Fate) → FatesFrom fates last i → i < length fates → x ≡ get_or fates i x → n ≡ fate_number x → is_above last n ≡ true
    → FatesFrom fates (Some n) (i + 1)
fates_on fates last i n x h small is own above = record {
  left = fates_here fates last i n x h small is own ∙ ap (λ (t : Bool). t && fates_rise (Some n) (drop (i + 1) fates)) above;
}

pub fates_failed : (fates : List (Option Fate)) (last : Option ℕ) (i n : ℕ) (x : Option Fate) → FatesFrom fates last i → i < length fates → x ≡ get_or fates i x → n ≡ fate_number x → is_above last n ≡ false
    → fates_rise None fates ≡ false
fates_failed fates last i n x h small is own below = fates_here fates last i n x h small is own ∙ ap (λ (t : Bool). t && fates_rise (Some n) (drop (i + 1) fates)) below

pub fates_ended : (fates : List (Option Fate)) (last : Option ℕ) (i : ℕ) → FatesFrom fates last i → length fates ≤ i → fates_rise None fates ≡ true
fates_ended fates last i h long = h.left ∙ ap (λ (fs : List (Option Fate)). fates_rise last fs) (drop_none fates i long)

-- what becomes of a part, by the first name
pub found_first : (n : Name) (ns : List Name) (p : PartName) (b : Bool) → is_named_alike p (part_of n) ≡ b → fate_in (n ∷ ns) p ≡ (if b then Some n.fate else fate_in ns p)
found_first n ns p true is = rw is refl
found_first n ns p false is = rw is refl

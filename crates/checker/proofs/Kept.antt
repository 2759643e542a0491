-- What is kept of a footprint is a list of its sectors, each once.
use Rattle.std.proofs.Common.{ℕ, ◌≡◌, ◌==◌, ◌||◌, ◌<◌, ◌≤◌, ◌⊎◌, nat_lt, nat_eq, Bool, true, false, if◌then◌else◌, List, [], ◌∷◌, ◌++◌, length, Option, None, Some, refl, sym, subst, inl, inr, arith}
use Rattle.std.specs.Prelude.{Contains}
use Rattle.std.specs.Option.{option_and_then}
use Rattle.std.specs.List.{AllByRecursion, IsDistinct}
use Rattle.std.proofs.lemmas.Bool.Decides.{nat_tests}
use Rattle.std.proofs.lemmas.List.{length-append}
use Rattle.std.proofs.lemmas.List.Elements.{All-from_recursion, recursion_from_All, All-contains_itself}
use Rattle.helpers.specs.Footprint.{FootprintValue, unread, lists, sectors_with, footprint_with, footprint_after}
use Rattle.helpers.proofs.KeptSectors.{kept_covers}
use Rattle.checker.specs.Footprints.{footprint_of, KeptIsFootprint}

-- one sector more is listed already, or there is room for it
listed_is : (room : ℕ) (own : List ℕ) (x : ℕ) (more : List ℕ) → sectors_with room own x ≡ Some more
    → (more ≡ own) ⊎ ((lists own x ≡ false) × (length own < room) × (more ≡ own ++ x ∷ []))
listed_is room own x more is = by (lists own x) (nat_lt (length own) room) refl refl is
  where
    by : (there fits : Bool) → lists own x ≡ there → nat_lt (length own) room ≡ fits
        → (if there then Some own else if fits then Some (own ++ x ∷ []) else None) ≡ Some more
        → (more ≡ own) ⊎ ((lists own x ≡ false) × (length own < room) × (more ≡ own ++ x ∷ []))
    by true fits e f h = inl (let same : Some own ≡ Some more = h in cc)
    by false true e f h =
        let same : Some (own ++ x ∷ []) ≡ Some more = h in
        inr (e, grind (arith, nat_tests), let it : more ≡ own ++ x ∷ [] = cc in it)
    by false false e f h = absurd (let bad : None ≡ Some more = h in cc)

-- what each sector at which the run looks leaves true of a list is true of what is kept
kept_keeps : (P : List ℕ → Type 0) (Q : ℕ → Type 0) (room : ℕ)
    → ((own : List ℕ) (x : ℕ) → Q x → P own → lists own x ≡ false → length own < room → P (own ++ x ∷ []))
    → (xs : List ℕ) (f : FootprintValue) (sectors : List ℕ) → f.room ≡ room → AllByRecursion Q xs
    → ((own : List ℕ) → f.sectors ≡ Some own → P own) → (footprint_after f xs).sectors ≡ Some sectors → P sectors
unfolding footprint_with
kept_keeps P Q room step [] f sectors e each first is = first sectors is
kept_keeps P Q room step (x ∷ xs) f sectors e each first is =
    kept_keeps P Q room step xs (footprint_with f x) sectors e each.1 (λ more got. next f.sectors refl more got) is
  where
    next : (kept : Option (List ℕ)) → f.sectors ≡ kept → (more : List ℕ) → option_and_then (λ (own : List ℕ). sectors_with f.room own x) kept ≡ Some more → P more
    next None none more got = absurd (let bad : None ≡ Some more = got in cc)
    next (Some own) was more got =
        elim (listed_is f.room own x more got) [
          | inl same ↦ subst P (sym same) (first own was)
          | inr new ↦ subst P (sym new.2) (step own x each.0 (first own was) new.0 (subst (λ (r : ℕ). length own < r) e new.1))
        ]

-- of a run that hasn't looked at any
first_kept : (P : List ℕ → Type 0) (room : ℕ) → P [] → (own : List ℕ) → (unread room).sectors ≡ Some own → P own
first_kept P room empty own is = by (room == 0) is
  where
    by : (b : Bool) → (if b then None else Some []) ≡ Some own → P own
    by true h = absurd (let bad : None ≡ Some own = h in cc)
    by false h = subst P (let same : Some [] ≡ Some own = h in let it : [] ≡ own = cc in it) empty

all_push : (Q : ℕ → Type 0) (xs : List ℕ) (x : ℕ) → AllByRecursion Q xs → Q x → AllByRecursion Q (xs ++ x ∷ [])
all_push Q [] x each own = (own, tt)
all_push Q (y ∷ xs) x each own = (each.0, all_push Q xs x each.1 own)

none_same : (xs : List ℕ) (x : ℕ) → lists xs x ≡ false → AllByRecursion (λ y. nat_eq y x ≡ false) xs
none_same [] x none = tt
none_same (y ∷ xs) x none = by (none_same xs x) (y == x) refl none
  where
    by : (lists xs x ≡ false → AllByRecursion (λ y. nat_eq y x ≡ false) xs) → (b : Bool) → (y == x) ≡ b → (b || lists xs x) ≡ false
        → AllByRecursion (λ z. nat_eq z x ≡ false) (y ∷ xs)
    by rest true e h = absurd (let bad : true ≡ false = h in cc)
    by rest false e h = (e, rest h)

distinct_push : (xs : List ℕ) (x : ℕ) → IsDistinct nat_eq xs → AllByRecursion (λ y. nat_eq y x ≡ false) xs → IsDistinct nat_eq (xs ++ x ∷ [])
unfolding IsDistinct
distinct_push [] x once others = (tt, tt)
distinct_push (y ∷ xs) x once others = (all_push (λ z. nat_eq y z ≡ false) xs x once.0 others.0, distinct_push xs x once.1 others.1)

none_twice : IsDistinct nat_eq []
unfolding IsDistinct
none_twice = tt

anything : (xs : List ℕ) → AllByRecursion (λ x. Unit {0}) xs
anything [] = tt
anything (x ∷ xs) = (tt, anything xs)

few_push : (room : ℕ) (own : List ℕ) (x : ℕ) → length own < room → length (own ++ x ∷ []) ≤ room
few_push room own x less = omega (arith, length-append own (x ∷ []), less)

pub kept_is_footprint : KeptIsFootprint
kept_is_footprint checker device context room sectors is =
    let run : List ℕ = footprint_of checker device context in
    let Any : ℕ → Type 0 = λ x. Unit {0} in
    let Own : List ℕ → Type 0 = AllByRecursion (Contains run) in
    let Few : List ℕ → Type 0 = λ own. length own ≤ room in (
      record {
        each = All-from_recursion (Contains sectors) run (kept_covers (Contains sectors) run (unread room) sectors is (recursion_from_All (Contains sectors) sectors (All-contains_itself sectors))).0;
        alone = All-from_recursion (Contains run) sectors
            (kept_keeps Own (Contains run) room (λ own x here rest new less. all_push (Contains run) own x rest here) run (unread room) sectors refl
            (recursion_from_All (Contains run) run (All-contains_itself run)) (first_kept Own room tt) is);
        once = kept_keeps (IsDistinct nat_eq) Any room (λ own x here rest new less. distinct_push own x rest (none_same own x new)) run (unread room) sectors refl
            (anything run) (first_kept (IsDistinct nat_eq) room none_twice) is;
      },
      kept_keeps Few Any room (λ own x here rest new less. few_push room own x less) run (unread room) sectors refl (anything run) (first_kept Few room (omega arith)) is,
    )

-- The leaves of which a judge was told: those that fail and those that are open.
use Rattle.std.proofs.Common.{ℕ, suc, ◌≡◌, ◌+◌, ◌-◌, Bool, true, false, not, ◌&&◌, ◌||◌, if◌then◌else◌, List, [], ◌∷◌, ◌++◌, length, map, filter, nat_lt, nat_le, slice_get, Option, Some, refl, sym, ◌∙◌, ap, arith, append_assoc}
use Rattle.std.specs.List.{list_any}
use Rattle.std.proofs.lemmas.Bool.{lt-ltb}
use Rattle.std.specs.Option.{option_map_or}
use Rattle.std.proofs.lemmas.List.{append-nil, length-map}
use Rattle.machine.specs.Outcome.{fails}
use Rattle.cases.specs.Search.{LeafValue}
use Rattle.losses.specs.FoundCases.{FailingValue}
use Rattle.case_runs.specs.Leaves.{failing_if, failing_from}
use Rattle.known.specs.declared.found.KnownFailing.{KnownFailing}
use Rattle.known.specs.declared.found.OpenCase.{OpenCase}
use Rattle.known.specs.declared.leaves.MetLeaf.{MetLeaf}
use Rattle.known.specs.declared.found.Stops.{Stops}
use Rattle.known.specs.declared.run.KnownRun.{KnownRun}
use Rattle.known.specs.declared.run.RunEnd.{RunEnd}
use Rattle.known.specs.declared.run.RunEnd.TheVariants as end
use Rattle.known.specs.Ends.{ending_of, is_open}
use Rattle.known.specs.Leaves.{is_told, told_of, open_of, is_told_failing, has_stopped, failing_value, open_sets, sets_of_leaf, leaf_by, leaf_of, AreMet}

pub kept_append : {A : Type 0} (p : A → Bool) (xs ys : List A) → filter p (xs ++ ys) ≡ filter p xs ++ filter p ys
kept_append p [] ys = refl
kept_append p (x ∷ xs) ys = by (kept_append p xs ys) (p x)
  where
    by : filter p (xs ++ ys) ≡ filter p xs ++ filter p ys → (b : Bool) → (if b then x ∷ filter p (xs ++ ys) else filter p (xs ++ ys)) ≡ (if b then x ∷ filter p xs else filter p xs) ++ filter p ys
    by rest true = ap (λ zs. x ∷ zs) rest
    by rest false = rest

-- of all leaves each is told or open
pub told_and_open : (leaves : List LeafValue) → length (told_of leaves) + length (open_of leaves) ≡ length leaves
told_and_open [] = refl
told_and_open (leaf ∷ leaves) = by (is_open leaf.ending) (told_and_open leaves)
  where
    by : (b : Bool) → length (told_of leaves) + length (open_of leaves) ≡ length leaves
        → length (if not b then leaf ∷ told_of leaves else told_of leaves) + length (if b then leaf ∷ open_of leaves else open_of leaves) ≡ suc (length leaves)
    by true all = omega (arith, all)
    by false all = omega (arith, all)

-- those that fail, of some leaves and of others after them
pub failing_append : (n : ℕ) (leaves more : List LeafValue) → failing_from n (leaves ++ more) ≡ failing_from n leaves ++ failing_from (n + length leaves) more
failing_append n [] more = let e : n ≡ n + 0 = omega arith in ap (λ m. failing_from m more) e
failing_append n (leaf ∷ leaves) more =
    ap (λ fs. failing_if n leaf ++ fs) (failing_append (n + 1) leaves more) ∙ regroup (failing_if n leaf) (failing_from (n + 1) leaves) (failing_from (n + 1 + length leaves) more)
    ∙ ap (λ m. (failing_if n leaf ++ failing_from (n + 1) leaves) ++ failing_from m more) (let e : n + 1 + length leaves ≡ n + suc (length leaves) = omega arith in e)
  where
    regroup : (xs ys zs : List FailingValue) → xs ++ (ys ++ zs) ≡ (xs ++ ys) ++ zs
    regroup xs ys zs = simp append_assoc

-- one leaf more
pub met_more : (leaves now : List LeafValue) (leaf : LeafValue) (failing more : List KnownFailing) (those others : List OpenCase) (number : ℕ) → AreMet leaves failing those
    → number ≡ length leaves - length those → now ≡ leaves ++ leaf ∷ [] → map failing_value more ≡ map failing_value failing ++ failing_from number (told_of (leaf ∷ []))
    → map open_sets others ≡ map open_sets those ++ map sets_of_leaf (open_of (leaf ∷ [])) → AreMet now more others
met_more leaves now leaf failing more those others number so at put fails opens = record {
  are_failing =
      let open_long : length those ≡ length (open_of leaves) = sym (length-map those open_sets) ∙ ap (λ xs. length xs) so.are_open ∙ length-map (open_of leaves) sets_of_leaf in
      let all = told_and_open leaves in
      let many : number ≡ 0 + length (told_of leaves) = omega (arith, at, open_long, all) in
      fails ∙ ap (λ m. map failing_value failing ++ failing_from m (told_of (leaf ∷ []))) many ∙ ap (λ fs. fs ++ failing_from (0 + length (told_of leaves)) (told_of (leaf ∷ []))) so.are_failing
      ∙ sym (failing_append 0 (told_of leaves) (told_of (leaf ∷ []))) ∙ ap (failing_from 0) (sym (kept_append is_told leaves (leaf ∷ [])) ∙ ap told_of (sym put));
  are_open =
      opens ∙ ap (λ xs. xs ++ map sets_of_leaf (open_of (leaf ∷ []))) so.are_open ∙ sym (map_both (open_of leaves) (open_of (leaf ∷ [])))
      ∙ ap (map sets_of_leaf) (sym (kept_append (λ (l : LeafValue). is_open l.ending) leaves (leaf ∷ [])) ∙ ap open_of (sym put));
}
  where
    map_both : (xs ys : List LeafValue) → map sets_of_leaf (xs ++ ys) ≡ map sets_of_leaf xs ++ map sets_of_leaf ys
    map_both [] ys = refl
    map_both (x ∷ xs) ys = ap (λ zs. x.sets ∷ zs) (map_both xs ys)

-- no run ends open
pub no_run_is_open : (e : RunEnd) → is_open (ending_of e) ≡ false
no_run_is_open (end.Answer a) = refl
no_run_is_open (end.Signal s) = refl
no_run_is_open end.OutOfTime = refl

-- whether a list has an element
abbrev some_in : {A : Type 0} → List A → Bool
some_in [] = false
some_in (x ∷ xs) = true

-- whether a told leaf fails, by those that are kept
any_failing : (n : ℕ) (leaves : List LeafValue) → some_in (failing_from n (told_of leaves)) ≡ list_any is_told_failing leaves
any_failing n [] = refl
any_failing n (leaf ∷ leaves) = by (is_open leaf.ending) (any_failing n leaves) (any_failing (n + 1) leaves)
  where
    told : some_in (failing_from (n + 1) (told_of leaves)) ≡ list_any is_told_failing leaves → (b : Bool)
        → some_in ((if b then record { number = n; ending = leaf.ending; sets = leaf.sets } ∷ [] else []) ++ failing_from (n + 1) (told_of leaves)) ≡ (b || list_any is_told_failing leaves)
    told next true = refl
    told next false = next

    by : (opened : Bool) → some_in (failing_from n (told_of leaves)) ≡ list_any is_told_failing leaves
        → some_in (failing_from (n + 1) (told_of leaves)) ≡ list_any is_told_failing leaves
        → some_in (failing_from n (if not opened then leaf ∷ told_of leaves else told_of leaves)) ≡ ((not opened && fails leaf.ending) || list_any is_told_failing leaves)
    by true same next = same
    by false same next = told next (fails leaf.ending)

-- whether the search is to end, by what is kept
pub stopped_so : (stops : Stops) (leaves : List LeafValue) (failing : List FailingValue) (count failures : ℕ) (answer : Bool) → count ≡ length leaves → failures ≡ length failing
    → failing ≡ failing_from 0 (told_of leaves) → answer ≡ ((stops.at_failing && nat_lt 0 failures) || option_map_or (λ n. nat_le n count) stops.cases false) → answer ≡ has_stopped stops leaves
stopped_so stops leaves failing count failures answer many some are told =
    told ∙ (λ i. (stops.at_failing && (ap (nat_lt 0) some ∙ has_some failing ∙ ap (λ (fs : List FailingValue). some_in fs) are ∙ any_failing 0 leaves) i) || option_map_or (λ n. nat_le n (many i)) stops.cases false)
  where
    has_some : (fs : List FailingValue) → nat_lt 0 (length fs) ≡ some_in fs
    has_some [] = refl
    has_some (f ∷ fs) = lt-ltb 0 (suc (length fs)) (omega arith)

-- how many are told, by what is kept
pub told_so : (leaves : List LeafValue) (failing : List KnownFailing) (those : List OpenCase) (n : ℕ) → AreMet leaves failing those → n ≡ length leaves - length those → n ≡ length (told_of leaves)
told_so leaves failing those n so is =
    let open_long : length those ≡ length (open_of leaves) = sym (length-map those open_sets) ∙ ap (λ (xs : List (List ℕ)). length xs) so.are_open ∙ length-map (open_of leaves) sets_of_leaf in
    let all = told_and_open leaves in
    omega (arith, is, open_long, all)

-- one leaf: a told one, and an open one
pub told_alone : (n : ℕ) (sets : List ℕ) (r : KnownRun) → failing_if n (record { sets = sets; ending = ending_of r.end }) ≡ failing_from n (told_of (leaf_by sets (Some r) ∷ []))
told_alone n sets r = by (is_open (ending_of r.end)) (no_run_is_open r.end)
  where
    leaf : LeafValue
    leaf = leaf_by sets (Some r)

    by : (b : Bool) → b ≡ false → failing_if n leaf ≡ failing_from n (if not b then leaf ∷ [] else [])
    by true is = absurd (let bad : true ≡ false = is in cc)
    by false is = sym (append-nil (failing_if n leaf))

pub not_open_alone : (sets : List ℕ) (r : KnownRun) → map sets_of_leaf (open_of (leaf_by sets (Some r) ∷ [])) ≡ []
not_open_alone sets r = by (is_open (ending_of r.end)) (no_run_is_open r.end)
  where
    leaf : LeafValue
    leaf = leaf_by sets (Some r)

    by : (b : Bool) → b ≡ false → map sets_of_leaf (if b then leaf ∷ [] else []) ≡ []
    by true is = absurd (let bad : true ≡ false = is in cc)
    by false is = refl

-- one leaf more, which the record at a place tells, if one stands there
pub met_put : (runs : List KnownRun) (all now : List MetLeaf) (failing more : List KnownFailing) (those others : List OpenCase) (sets : List ℕ) (place number : ℕ) (run : Option KnownRun)
    → AreMet (map (leaf_of runs) all) failing those → number ≡ length all - length those → run ≡ slice_get runs place
    → map (leaf_of runs) now ≡ map (leaf_of runs) all ++ leaf_by sets (slice_get runs place) ∷ []
    → map failing_value more ≡ map failing_value failing ++ failing_from number (told_of (leaf_by sets run ∷ []))
    → map open_sets others ≡ map open_sets those ++ map sets_of_leaf (open_of (leaf_by sets run ∷ [])) → AreMet (map (leaf_of runs) now) more others
met_put runs all now failing more those others sets place number run so at same put fails opens =
    met_more (map (leaf_of runs) all) (map (leaf_of runs) now) (leaf_by sets (slice_get runs place)) failing more those others number so
    (at ∙ ap (λ n. n - length those) (sym (length-map all (leaf_of runs)))) put
    (fails ∙ ap (λ o. map failing_value failing ++ failing_from number (told_of (leaf_by sets o ∷ []))) same)
    (opens ∙ ap (λ o. map open_sets those ++ map sets_of_leaf (open_of (leaf_by sets o ∷ []))) same)

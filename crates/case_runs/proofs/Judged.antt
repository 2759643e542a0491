-- What the cases of a cut tell of a checker.
use Rattle.std.proofs.Common.{ℕ, zero, suc, ◌≡◌, ◌+◌, ◌<◌, ◌≤◌, ◌==◌, Bool, true, false, if◌then◌else◌, List, [], ◌∷◌, ◌++◌, length, slice_get, Option, None, Some, refl, sym, subst, ◌∙◌, ap, arith, inl, inr}
use Rattle.std.specs.List.{range_with_len, AllByRecursion}
use Rattle.std.proofs.lemmas.Bool.Decides.{eqb_tells}
use Rattle.std.proofs.lemmas.List.Elements.{All-from_recursion}
use Rattle.std.proofs.lemmas.Option.{slice_get_past, slice_get_cases}
use Rattle.base.proofs.Lists.{same_by_place}
use Rattle.logfmt.specs.Bounds.{LogValue}
use Rattle.epochs.specs.declared.part.By.{By}
use Rattle.helpers.specs.declared.device.Context.{Context}
use Rattle.machine.specs.Outcome.{Ending, OutOfSteps}
use Rattle.machine.specs.Footprint.{HaveSame}
use Rattle.checker.specs.Checker.{CheckerValue, judgement}
use Rattle.checker.specs.Footprints.{kept_footprint, AgreeingAreJudgedAlike}
use Rattle.images.specs.Views.{sectors_of}
use Rattle.images.specs.Whole.{length_view}
use Rattle.cases.specs.Risk.{parts_at_risk}
use Rattle.cases.specs.Choices.{Choice, departures, image_at}
use Rattle.cases.specs.Laws.{OfOne, OfNone}
use Rattle.case_runs.specs.Judges.{most_looks, or_all, looks}
use Rattle.case_runs.specs.Laws.{CheckersTell}

-- what holds of a range holds of each number in it
in_range : (P : ℕ → Type 0) (a n i : ℕ) → AllByRecursion P (range_with_len a n) → a ≤ i → i < a + n → P i
in_range P a zero i each low high = absurd (omega (arith, low, high))
in_range P a (suc n) i each low high = elim (eqb_tells a i) [
  | inl same ↦ subst P same.1 each.0
  | inr other ↦ let apart = other.1 in in_range P (a + 1) n i each.1 (omega (arith, low, apart)) (omega (arith, high))
]

-- what a checker ends in on a device, if that is one of its size
if_sized : CheckerValue → Context → Bool → List (List ℕ) → Ending
if_sized checker context b d = if b then judgement checker d context else OutOfSteps

same_devices : (device other : List (List ℕ)) → length device ≡ length other → HaveSame device other (range_with_len 0 (length device)) → device ≡ other
same_devices device other count same = same_by_place device other each
  where
    each : (i : ℕ) → slice_get device i ≡ slice_get other i
    each i = elim (slice_get_cases device i).1 [
      | inl a ↦ let low = a.1 in in_range (λ n. slice_get device n ≡ slice_get other n) 0 (length device) i same (omega arith) (omega (arith, low))
      | inr past ↦ let end = past.0 in slice_get_past device i end ∙ sym (slice_get_past other i (omega (arith, end, count)))
    ]

pub checkers_told : AgreeingAreJudgedAlike → CheckersTell
unfolding looks if_sized
checkers_told agree checker context device other alike same =
    ap (λ n. if_sized checker context (n == context.sectors) other) (sym alike.count) ∙ by (length device == context.sectors) same
  where
    by_kept : (o : Option (List ℕ)) → (kept_footprint most_looks checker device context).sectors ≡ o → HaveSame device other (or_all device o)
        → judgement checker other context ≡ judgement checker device context
    by_kept (Some sectors) is same =
        (agree checker device other context most_looks sectors is (record {
          count = alike.count;
          whole = alike.sectors;
          others = alike.others;
          same = All-from_recursion (λ n. slice_get device n ≡ slice_get other n) sectors same;
        })).ends
    by_kept None is same = ap (λ d. judgement checker d context) (sym (same_devices device other alike.count same))

    by : (b : Bool) → HaveSame device other (if b then or_all device (kept_footprint most_looks checker device context).sectors else [])
        → if_sized checker context b other ≡ if_sized checker context b device
    by false same = refl
    by true same = by_kept (kept_footprint most_looks checker device context).sectors refl same

-- one of the leaves has it, where none that was left out does

none_one : {A : Type 0} (P : A → Type 0) (xs : List A) → OfOne P xs → OfNone P xs → ⊥
none_one P [] one none = one
none_one P (x ∷ xs) (inl here) none = none.0 here.0
none_one P (x ∷ xs) (inr rest) none = none_one P xs rest.1 none.1

pub in_leaves : {A : Type 0} (P : A → Type 0) (xs ys : List A) → OfOne P (xs ++ ys) → OfNone P ys → (i : ℕ) × (x : A) × (slice_get xs i ≡ Some x) × P x
in_leaves P [] ys one none = absurd (none_one P ys one none)
in_leaves P (x ∷ xs) ys (inl here) none = (0, x, refl, here.0)
in_leaves P (x ∷ xs) ys (inr rest) none = let it = in_leaves P xs ys rest.1 none in (suc it.0, it.1, it.2, it.3)

pub length_image : (log : LogValue) (way : By) (cut : ℕ) (choice : Choice) → length (image_at log way cut choice) ≡ log.sectors
unfolding sectors_of
length_image log way cut choice = length_view (record { log = log; cut = cut; departures = departures choice (parts_at_risk way log.entries cut) })

-- How often a number stands in a list.
use Rattle.std.proofs.Common.{◌≢◌, replicate, ℕ, zero, suc, ◌≡◌, ◌+◌, ◌<◌, ◌≤◌, ◌==◌, Bool, true, false, if◌then◌else◌, List, [], ◌∷◌, ◌++◌, length, map, filter, take, slice_set, refl, sym, ◌∙◌, ap, subst, arith}
use Rattle.std.specs.List.{slice_index_or, range_with_len}
use Rattle.std.proofs.lemmas.Bool.Decides.{eqb_tells}
use Rattle.std.proofs.lemmas.List.{length-replicate, length-set, get_or-set_same, get_or-set_other, length-take-le, map-append}
use Rattle.std.proofs.lemmas.List.Filters.{length-filter_more}
use Rattle.std.proofs.lemmas.List.Elements.{filter-append}
use Rattle.base.proofs.Lists.{range_with_len-more}
use Rattle.losses.specs.declared.why.group.FailingGroup.{FailingGroup}
use Rattle.losses.specs.CountedGroups.{times, group_at, has_images}

pub times_few : (k : ℕ) (ns : List ℕ) → times k ns ≤ length ns
times_few k [] = omega arith
times_few k (n ∷ ns) = by_test (n == k) (times_few k ns)
  where
    by_test : (b : Bool) → times k ns ≤ length ns → length (if b then n ∷ filter (λ (m : ℕ). m == k) ns else filter (λ (m : ℕ). m == k) ns) ≤ suc (length ns)
    by_test true le = omega (arith, le)
    by_test false le = omega (arith, le)

-- of the first places there are no more than these
pub times_before : (k i : ℕ) (ns : List ℕ) → i ≤ length ns → times k (take i ns) ≤ i
times_before k i ns le = omega (arith, times_few k (take i ns), length-take-le i ns le)

-- the counts of the first places
pub record AreCounts (ns counts : List ℕ) (i : ℕ) : Type 0 where
  pub long : length counts ≡ length ns
  pub each : (k : ℕ) → slice_index_or counts k 0 ≡ times k (take i ns)

-- one place more
pub count_more : (ns counts : List ℕ) (i place new : ℕ) → AreCounts ns counts i → i < length ns → slice_index_or ns i 0 ≡ place → place < length counts
    → new ≡ slice_index_or counts place 0 → AreCounts ns (slice_set counts place (new + 1)) (i + 1)
count_more ns counts i place new are lt is within was =
    record {
      long = length-set counts place (new + 1) ∙ are.long;
      each = λ k. at k (slice_index_or ns i 0 == k) refl;
    }
  where
    at : (k : ℕ) (b : Bool) → (slice_index_or ns i 0 == k) ≡ b → slice_index_or (slice_set counts place (new + 1)) k 0 ≡ times k (take (i + 1) ns)
    at k true e =
        let same : slice_index_or ns i 0 ≡ k = grind (arith, eqb_tells, e) in
        let here : place ≡ k = sym is ∙ same in
        let more = length-filter_more (λ (n : ℕ). n == k) ns i 0 lt in
        let one = ap {B = ℕ} (λ (b : Bool). if b then 1 else 0) e in
        let own = are.each k in
        subst (λ p. slice_index_or (slice_set counts p (new + 1)) k 0 ≡ times k (take (i + 1) ns)) (sym here)
        (get_or-set_same counts k (new + 1) 0 (subst (λ p. p < length counts) here within)
        ∙ omega (arith, was, own, more, one, ap (λ p. slice_index_or counts p 0) here))
    at k false e =
        let other : slice_index_or ns i 0 ≢ k = λ same. let bad : true ≡ false = grind (arith, eqb_tells, e, same) in cc in
        let away : k ≢ place = λ same. other (is ∙ sym same) in
        let more = length-filter_more (λ (n : ℕ). n == k) ns i 0 lt in
        let none = ap {B = ℕ} (λ (b : Bool). if b then 1 else 0) e in
        let own = are.each k in
        get_or-set_other counts place k (new + 1) 0 away ∙ omega (arith, own, more, none)

-- the groups of one image more
pub group_more : (outcomes : List (List ℕ)) (begin : ℕ) (images places : List ℕ) (i : ℕ) (g : FailingGroup) (groups more : List FailingGroup)
    → groups ≡ filter has_images (map (group_at outcomes begin images places) (range_with_len 0 i))
    → g ≡ group_at outcomes begin images places i → more ≡ groups ++ filter has_images (g ∷ [])
    → more ≡ filter has_images (map (group_at outcomes begin images places) (range_with_len 0 (i + 1)))
group_more outcomes begin images places i g groups more are is on =
    let f : ℕ → FailingGroup = group_at outcomes begin images places in
    let zero_first : 0 + i ≡ i = omega arith in
    let ranges = range_with_len-more 0 i ∙ ap (λ k. range_with_len 0 i ++ k ∷ []) zero_first in
    on ∙ ap (λ gs. gs ++ filter has_images (g ∷ [])) are ∙ ap (λ x. filter has_images (map f (range_with_len 0 i)) ++ filter has_images (x ∷ [])) is
    ∙ sym (filter-append has_images (map f (range_with_len 0 i)) (f i ∷ []))
    ∙ ap (filter has_images) (sym (map-append f (range_with_len 0 i) (i ∷ [])) ∙ ap (map f) (sym ranges))

-- nothing is counted yet
pub none_counted : (ns counts : List ℕ) → counts ≡ replicate (length ns) 0 → AreCounts ns counts 0
none_counted ns counts is =
    rw is (record { long = length-replicate (length ns) 0; each = λ k. zero_at (length ns) k })
  where
    zero_at : (n k : ℕ) → ◌≡◌ {A = ℕ} (slice_index_or (replicate n 0) k 0) 0
    zero_at zero k = refl
    zero_at (suc n) zero = refl
    zero_at (suc n) (suc k) = zero_at n k

-- inside a list what stands there doesn't depend on the default
pub at_any_default : (xs : List ℕ) (i d e : ℕ) → i < length xs → slice_index_or xs i d ≡ slice_index_or xs i e
at_any_default [] i d e lt = absurd (omega (arith, lt))
at_any_default (x ∷ xs) zero d e lt = refl
at_any_default (x ∷ xs) (suc i) d e lt = at_any_default xs i d e (omega (arith, lt))

-- Sums and least numbers of lists that change at one place or grow.
use Rattle.std.proofs.Common.{◌≡◌, ℕ, zero, suc, ◌+◌, ◌≤◌, ◌≢◌, min, max, List, [], ◌∷◌, ◌++◌, set, sym, refl, ap, ◌∙◌, ◌<◌, ⊎_elim, arith}
use Rattle.std.proofs.lemmas.Bool.Decides.{leb_tells}
use mathlib.Core.Option.{some, some-injective, some-ne-none}
use lib.ListN.{get_elem?}
use Rattle.atomic_table.proofs.Lists.{set_else}
use Rattle.shares.specs.Steps.{total, least_of, greatest_of, none_posted}

module _ {A : Type 0} (f : A → ℕ) where
  pub total_append : (xs ys : List A) → total f (xs ++ ys) ≡ total f xs + total f ys
  total_append [] ys = omega arith
  total_append (x ∷ xs) ys = omega (arith, total_append xs ys)

  pub total_snoc : (xs : List A) (x : A) → total f (xs ++ x ∷ []) ≡ total f xs + f x
  total_snoc [] x = omega arith
  total_snoc (y ∷ ys) x = omega (arith, total_snoc ys x)

  pub total_set : (xs : List A) (j : ℕ) (v w : A) → get_elem? xs j ≡ some v → total f (set xs j w) + f v ≡ total f xs + f w
  total_set [] j v w at = absurd (some-ne-none v (sym at))
  total_set (x ∷ xs) zero v w at = omega (arith, ap f (some-injective x v at))
  total_set (x ∷ xs) (suc j) v w at = omega (arith, total_set xs j v w at)

  pub total_part : (xs : List A) (j : ℕ) (v : A) → get_elem? xs j ≡ some v → f v ≤ total f xs
  total_part [] j v at = absurd (some-ne-none v (sym at))
  total_part (x ∷ xs) zero v at = omega (arith, ap f (some-injective x v at))
  total_part (x ∷ xs) (suc j) v at = omega (arith, total_part xs j v at)

  -- where no element has more of f than of g
  pub total_at_most : (g : A → ℕ) (xs : List A) → ((j : ℕ) (v : A) → get_elem? xs j ≡ some v → f v ≤ g v) → total f xs ≤ total g xs
  total_at_most g [] each = omega arith
  total_at_most g (x ∷ xs) each = omega (arith, each zero x refl, total_at_most g xs (λ j. each (suc j)))

  -- where each element's number is the sum of two
  pub total_parts : (g h : A → ℕ) → ((x : A) → f x ≡ g x + h x) → (xs : List A) → total f xs ≡ total g xs + total h xs
  total_parts g h each [] = omega arith
  total_parts g h each (x ∷ xs) = omega (arith, each x, total_parts g h each xs)

  pub greatest_snoc : (xs : List A) (x : A) → greatest_of f (xs ++ x ∷ []) ≡ max (greatest_of f xs) (f x)
  greatest_snoc [] x = omega arith
  greatest_snoc (y ∷ ys) x = omega (arith, greatest_snoc ys x)

  pub greatest_append : (xs ys : List A) → greatest_of f (xs ++ ys) ≡ max (greatest_of f xs) (greatest_of f ys)
  greatest_append [] ys = omega arith
  greatest_append (x ∷ xs) ys = omega (arith, greatest_append xs ys)

  pub least_bound : (xs : List A) → least_of f xs ≤ none_posted
  least_bound [] = omega arith
  least_bound (x ∷ xs) = omega (arith, least_bound xs)

  pub least_snoc : (xs : List A) (x : A) → least_of f (xs ++ x ∷ []) ≡ min (least_of f xs) (f x)
  least_snoc [] x = omega arith
  least_snoc (y ∷ ys) x = omega (arith, least_snoc ys x)

  pub least_append : (xs ys : List A) → least_of f (xs ++ ys) ≡ min (least_of f xs) (least_of f ys)
  least_append [] ys = omega (arith, least_bound ys)
  least_append (x ∷ xs) ys = omega (arith, least_append xs ys)

  pub least_part : (xs : List A) (j : ℕ) (v : A) → get_elem? xs j ≡ some v → least_of f xs ≤ f v
  least_part [] j v at = absurd (some-ne-none v (sym at))
  least_part (x ∷ xs) zero v at = omega (arith, ap f (some-injective x v at))
  least_part (x ∷ xs) (suc j) v at = omega (arith, least_part xs j v at)

  -- one element's number becomes the lesser of it and i
  pub least_set : (xs : List A) (j : ℕ) (v w : A) (i : ℕ) → get_elem? xs j ≡ some v → f w ≡ min (f v) i → least_of f (set xs j w) ≡ min (least_of f xs) i
  least_set [] j v w i at e = absurd (some-ne-none v (sym at))
  least_set (x ∷ xs) zero v w i at e = omega (arith, ap f (some-injective x v at))
  least_set (x ∷ xs) (suc j) v w i at e = omega (arith, least_set xs j v w i at e)

  -- one element's number is taken out
  pub least_cleared : (xs : List A) (j : ℕ) (v w : A) → get_elem? xs j ≡ some v → f w ≡ none_posted → min (least_of f (set xs j w)) (f v) ≡ least_of f xs
  least_cleared [] j v w at e = absurd (some-ne-none v (sym at))
  least_cleared (x ∷ xs) zero v w at e = omega (arith, ap f (some-injective x v at), least_bound xs)
  least_cleared (x ∷ xs) (suc j) v w at e = omega (arith, least_cleared xs j v w at e)

  -- the same where another element's number is no greater: nothing changes
  pub least_out : (xs : List A) (i j : ℕ) (u v w : A) → get_elem? xs i ≡ some u → get_elem? xs j ≡ some v → i ≢ j → f u ≤ f v → f w ≡ none_posted → least_of f (set xs j w) ≡ least_of f xs
  least_out xs i j u v w at_i at_j apart le e = omega (arith, least_cleared xs j v w at_j e, least_part (set xs j w) i u (set_else xs j i w apart ∙ at_i))

-- where the least f is not none, some element is counted by what counts an element with that f
pub least_counted : {A : Type 0} (f : A → ℕ) (g : ℕ → A → ℕ) → ((x : A) → f x < none_posted → 0 < g (f x) x) → (xs : List A) → least_of f xs < none_posted → 0 < total (g (least_of f xs)) xs
least_counted f g each [] lower = absurd (omega arith)
least_counted f g each (x ∷ xs) lower = ⊎_elim
    (λ t.
    let le = t.1 in
    let same : min (f x) (least_of f xs) ≡ f x = omega arith in
    let here : 0 < g (f x) x = each x (omega arith) in
    let there : 0 < g (min (f x) (least_of f xs)) x = rw same here in
    omega arith)
    (λ t.
    let lt = t.1 in
    let same : min (f x) (least_of f xs) ≡ least_of f xs = omega arith in
    let rest : 0 < total (g (least_of f xs)) xs = least_counted f g each xs (omega arith) in
    let there : 0 < total (g (min (f x) (least_of f xs))) xs = rw same rest in
    omega arith)
    (leb_tells (f x) (least_of f xs))

module _ {A : Type 0} (p f : A → ℕ) where
  -- f is 0 of each element that has nothing of p
  abbrev IdleHasNone : List A → Type 0
  IdleHasNone xs = (i : ℕ) (u : A) → get_elem? xs i ≡ some u → p u ≡ 0 → f u ≡ 0

  total_none : (xs : List A) → total p xs ≡ 0 → IdleHasNone xs → total f xs ≡ 0
  total_none [] e idle = refl
  total_none (x ∷ xs) e idle = omega (arith, idle zero x refl (omega arith), total_none xs (omega arith) (λ i. idle (suc i)))

  -- where one element has all of p
  pub total_alone : (xs : List A) (j : ℕ) (v : A) → get_elem? xs j ≡ some v → total p xs ≤ p v → IdleHasNone xs → total f xs ≡ f v
  total_alone [] j v at all idle = absurd (some-ne-none v (sym at))
  total_alone (x ∷ xs) zero v at all idle =
      let s = ap p (some-injective x v at) in
      omega (arith, ap f (some-injective x v at), total_none xs (omega arith) (λ i. idle (suc i)))
  total_alone (x ∷ xs) (suc j) v at all idle =
      let s = total_part p xs j v at in
      omega (arith, idle zero x refl (omega arith), total_alone xs j v at (omega arith) (λ i. idle (suc i)))

  -- f is none_posted of each element that has nothing of p
  abbrev IdleHasLeast : List A → Type 0
  IdleHasLeast xs = (i : ℕ) (u : A) → get_elem? xs i ≡ some u → p u ≡ 0 → f u ≡ none_posted

  least_none : (xs : List A) → total p xs ≡ 0 → IdleHasLeast xs → least_of f xs ≡ none_posted
  least_none [] e idle = refl
  least_none (x ∷ xs) e idle = omega (arith, idle zero x refl (omega arith), least_none xs (omega arith) (λ i. idle (suc i)))

  pub least_alone : (xs : List A) (j : ℕ) (v : A) → get_elem? xs j ≡ some v → total p xs ≤ p v → f v ≤ none_posted → IdleHasLeast xs → least_of f xs ≡ f v
  least_alone [] j v at all bound idle = absurd (some-ne-none v (sym at))
  least_alone (x ∷ xs) zero v at all bound idle =
      let s = ap p (some-injective x v at) in
      omega (arith, ap f (some-injective x v at), least_none xs (omega arith) (λ i. idle (suc i)))
  least_alone (x ∷ xs) (suc j) v at all bound idle =
      let s = total_part p xs j v at in
      omega (arith, idle zero x refl (omega arith), least_alone xs j v at (omega arith) bound (λ i. idle (suc i)))

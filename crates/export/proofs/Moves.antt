-- A sum over all numbers, by those in which two functions differ.
use Rattle.std.proofs.Common.{ℕ, ◌≡◌, ◌+◌, Bool, true, false, cond, List, [], ◌∷◌, filter, sum_by, refl, arith}
use Rattle.std.proofs.lemmas.List.Sums.{sum_by-cons}

pub sums_move : (f g : ℕ → ℕ) (d : ℕ → Bool) (ns : List ℕ) → ((n : ℕ) → d n ≡ false → f n ≡ g n)
    → sum_by g ns + sum_by f (filter d ns) ≡ sum_by f ns + sum_by g (filter d ns)
sums_move f g d [] same = refl
sums_move f g d (n ∷ ns) same =
    let rest : List ℕ = filter d ns in
    let was = sums_move f g d ns same in
    let one = sum_by-cons f n ns in
    let two = sum_by-cons g n ns in
    let by : (b : Bool) → d n ≡ b → sum_by g (n ∷ ns) + sum_by f (cond b (n ∷ rest) rest) ≡ sum_by f (n ∷ ns) + sum_by g (cond b (n ∷ rest) rest) =
    λ b. elim b as (λ c. d n ≡ c → sum_by g (n ∷ ns) + sum_by f (cond c (n ∷ rest) rest) ≡ sum_by f (n ∷ ns) + sum_by g (cond c (n ∷ rest) rest)) [
      | true ↦ λ e. let three = sum_by-cons f n rest in let four = sum_by-cons g n rest in omega (arith, was, one, two, three, four)
      | false ↦ λ e. let equal = same n e in omega (arith, was, one, two, equal)
    ] in
    by (d n) refl

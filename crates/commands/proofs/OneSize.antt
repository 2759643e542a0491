-- Some of texts aren't longer than all of them.
use Rattle.std.proofs.Common.{ℕ, zero, suc, ◌+◌, ◌≤◌, ◌^◌, List, [], ◌∷◌, length, take, arith}
use Rattle.std.proofs.lemmas.List.Sums.{sum_by-cons}
use Rattle.join.specs.Joining.{size_of, IsFirstLong}

size_take : (n : ℕ) (ts : List (List ℕ)) → size_of (take n ts) ≤ size_of ts
size_take zero ts = omega arith
size_take (suc n) [] = omega arith
size_take (suc n) (t ∷ ts) =
    let rest = size_take n ts in
    let left = sum_by-cons (λ (u : List ℕ). length u) t (take n ts) in
    let right = sum_by-cons (λ (u : List ℕ). length u) t ts in
    omega (arith, rest, left, right)

pub not_long : (texts : List (List ℕ)) (file : ℕ) → size_of texts ≤ 2 ^ 30 → IsFirstLong texts file → ⊥
not_long texts file short h = let some = size_take (file + 1) texts in let past = h.past in omega (arith, short, some, past)

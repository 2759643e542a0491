-- How many failures of a program no flush takes away, failure by failure.
use Rattle.std.proofs.Common.{ℕ, ◌≡◌, ◌+◌, ◌<◌, ◌≤◌, List, [], ◌∷◌, ◌++◌, length, length-append, filter, take, get_or, sym, ◌∙◌, ap, arith}
use Rattle.std.proofs.lemmas.List.{take_more}
use Rattle.std.proofs.lemmas.List.Elements.{filter-append}
use Rattle.losses.specs.declared.cure.failure.Failure.{Failure}
use Rattle.losses.specs.CureText.{is_uncured}

-- with one more
pub uncured_more : (program : ℕ) (fs : List Failure) (n count one now : ℕ) (f : Failure) → n < length fs → f ≡ get_or fs n f
    → (count ≡ length (filter (is_uncured program) (take n fs))) × (count ≤ n) → one ≡ length (filter (is_uncured program) (f ∷ [])) → one ≤ 1 → now ≡ count + one
    → (now ≡ length (filter (is_uncured program) (take (n + 1) fs))) × (now ≤ n + 1)
uncured_more program fs n count one now f within is so_far more few sum =
    let taken : take (n + 1) fs ≡ take n fs ++ f ∷ [] = take_more fs n f within ∙ ap (λ (x : Failure). take n fs ++ x ∷ []) (sym is) in
    let whole : length (filter (is_uncured program) (take (n + 1) fs)) ≡ length (filter (is_uncured program) (take n fs)) + length (filter (is_uncured program) (f ∷ [])) =
    ap (λ (xs : List Failure). length (filter (is_uncured program) xs)) taken ∙ ap length (filter-append (is_uncured program) (take n fs) (f ∷ []))
    ∙ length-append (filter (is_uncured program) (take n fs)) (filter (is_uncured program) (f ∷ [])) in
    (omega (arith, whole, so_far.0, more, sum), omega (arith, so_far.1, few, sum))

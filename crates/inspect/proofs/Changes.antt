-- Texts that are appended: the registers that a step changed, one after the other, and three parts.
use Rattle.std.proofs.Common.{ℕ, ◌≡◌, ◌+◌, List, [], ◌∷◌, ◌++◌, append_assoc, append-nil, Option, None, sym, ap, ◌∙◌, arith}
use Rattle.std.specs.Prelude.{slice_index_or}
use Rattle.std.specs.List.{flat_map, range_with_len}
use Rattle.std.proofs.lemmas.Grind.{flat_map-append}
use Rattle.base.proofs.Lists.{range_with_len-more}
use Rattle.base.specs.declared.limits.Limits.{Limits}
use Rattle.inspect.specs.Trace.{change_text}

-- one more register
pub one_more : (limits : Limits) (before now : List (Option ℕ)) (first out more : List ℕ) (n : ℕ)
    → out ≡ first ++ flat_map (λ r. change_text limits r (slice_index_or before r None) (slice_index_or now r None)) (range_with_len 0 n)
    → more ≡ out ++ change_text limits n (slice_index_or before n None) (slice_index_or now n None)
    → more ≡ first ++ flat_map (λ r. change_text limits r (slice_index_or before r None) (slice_index_or now r None)) (range_with_len 0 (n + 1))
one_more limits before now first out more n so_far came =
    let f : ℕ → List ℕ = λ r. change_text limits r (slice_index_or before r None) (slice_index_or now r None) in
    let here : 0 + n ≡ n = omega arith in
    let next : range_with_len 0 (n + 1) ≡ range_with_len 0 n ++ n ∷ [] = range_with_len-more 0 n ∙ ap (λ (m : ℕ). range_with_len 0 n ++ m ∷ []) here in
    let last : flat_map f (n ∷ []) ≡ f n = append-nil (f n) in
    came ∙ ap (λ (xs : List ℕ). xs ++ f n) so_far
    ∙ append_assoc first (flat_map f (range_with_len 0 n)) (f n)
    ∙ ap (λ (xs : List ℕ). first ++ (flat_map f (range_with_len 0 n) ++ xs)) (sym last)
    ∙ ap (λ (xs : List ℕ). first ++ xs) (sym (flat_map-append f (range_with_len 0 n) (n ∷ [])))
    ∙ ap (λ (xs : List ℕ). first ++ flat_map f xs) (sym next)

-- three parts, one after the other
pub three_parts : (first a b c one two three : List ℕ) → one ≡ first ++ a → two ≡ one ++ b → three ≡ two ++ c → three ≡ first ++ (a ++ b ++ c)
three_parts first a b c one two three h k l =
    l ∙ ap (λ (xs : List ℕ). xs ++ c) (k ∙ ap (λ (xs : List ℕ). xs ++ b) h ∙ append_assoc first a b) ∙ append_assoc first (a ++ b) c

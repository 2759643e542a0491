-- How texts of cases are told from texts of parts.
use Rattle.std.proofs.Common.{ℕ, ◌≡◌, ◌<◌, ◌≤◌, ◌⊎◌, inl, inr, Bool, min, List, [], ◌∷◌, bytes_eq, get_or, length, map, take, sym, ◌∙◌, ap, arith}
use Rattle.std.proofs.lemmas.Bool.{cases_lt}
use Rattle.std.proofs.lemmas.List.{take_all}
use Rattle.commands.specs.Acting.{cases_line, are_cases}

take_least : (n : ℕ) (xs : List ℕ) → take (min (length xs) n) xs ≡ take n xs
take_least n xs = by_length (cases_lt (length xs) n)
  where
    by_length : (length xs < n) ⊎ (n ≤ length xs) → take (min (length xs) n) xs ≡ take n xs
    by_length (inl few) =
        let least : min (length xs) n ≡ length xs = omega (arith, few) in
        ap (λ (k : ℕ). take k xs) least ∙ take_all (length xs) xs (omega arith) ∙ sym (take_all n xs (omega (arith, few)))
    by_length (inr many) = let least : min (length xs) n ≡ n = omega (arith, many) in ap (λ (k : ℕ). take k xs) least

-- a test of the first bytes of the first text
pub begins_so : {V : Type 0} (items : V → List ℕ) (texts : List V) (v : V) (b : Bool) (text first : List ℕ) (most : ℕ) → 0 < length texts → v ≡ get_or texts 0 v → text ≡ items v → most ≡ min (length text) 14
    → first ≡ take most text → b ≡ bytes_eq first cases_line → b ≡ are_cases (map items texts)
begins_so items [] v b text first most some at is so taken test = absurd (omega (arith, some))
begins_so items (x ∷ xs) v b text first most some at is so taken test =
    let same : text ≡ items x = is ∙ ap items at in
    let begun : first ≡ take 14 (items x) = taken ∙ ap (λ (k : ℕ). take k text) so ∙ take_least 14 text ∙ ap (λ (t : List ℕ). take 14 t) same in
    test ∙ ap (λ (t : List ℕ). bytes_eq t cases_line) begun

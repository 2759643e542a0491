-- The sectors in which the images of two cases differ.
use Rattle.std.proofs.Common.{ℕ, ◌≡◌, List, ◌++◌, length, slice_get, Some, Result, Ok, Err, OnOk, sym, ◌∙◌, ap}
use Rattle.std.specs.List.{flat_map, range_with_len}
use Rattle.crash_text.specs.Sectors.{both_there, sector_at, sector_difference, difference_text}

pub put_both : {T E : Type 0} (r : Result T E) (n : ℕ) (lefts rights : List (List ℕ)) (left right old new : List ℕ) → OnOk r (new ≡ old ++ sector_difference n left right)
    → slice_get lefts n ≡ Some left → slice_get rights n ≡ Some right → OnOk r (new ≡ old ++ sector_at lefts rights n)
put_both (Ok done) n lefts rights left right old new put one two =
    let same : sector_at lefts rights n ≡ sector_difference n left right = λ i. both_there n (one i) (two i) in
    put ∙ ap (λ xs. old ++ xs) (sym same)
put_both (Err e) n lefts rights left right old new put one two = tt

pub all_put : (lefts rights : List (List ℕ)) (n : ℕ) (old new : List ℕ) → n ≡ length rights → new ≡ old ++ flat_map (sector_at lefts rights) (range_with_len 0 n)
    → new ≡ old ++ difference_text lefts rights
unfolding difference_text
all_put lefts rights n old new end put = put ∙ ap (λ m. old ++ flat_map (sector_at lefts rights) (range_with_len 0 m)) end

-- Sums of weights: they are small, and grow by one sector.
use Rattle.std.proofs.Common.{ℕ, zero, suc, slice_get, Some, ◌≡◌, ◌+◌, ◌*◌, ◌^◌, ◌<◌, ◌≤◌, List, [], ◌∷◌, length, take, sum_by, sym, ◌∙◌, ap, arith}
use Rattle.std.specs.List.{range_with_len}
use Rattle.std.proofs.lemmas.List.Sums.{sum_by-cons, sum_by_push}
use Rattle.std.proofs.lemmas.List.FromFn.{length-range_with_len}
use Rattle.base.specs.Sizes.{most_sectors}
use Rattle.base.proofs.Lists.{range_with_len-more}
use Rattle.std.proofs.lemmas.Option.{get_or_from_slice_get}
use Rattle.images.specs.Views.{ViewValue, sectors_of}
use Rattle.images.specs.Keys.{content_at}
use Rattle.images.specs.Whole.{length_view}
use Rattle.export.specs.Kept.{spread, weight, weight_at, sum_of}

weight_small : (n : ℕ) (sector : List ℕ) → weight n sector ≤ 274877906943
unfolding weight spread
weight_small n sector = omega arith

pub sums_small : (device : List (List ℕ)) (ns : List ℕ) → sum_by (weight_at device) ns ≤ 274877906943 * length ns
unfolding weight_at
sums_small device [] = omega arith
sums_small device (n ∷ ns) =
    let rest = sums_small device ns in
    let one = weight_small n (content_at device n) in
    let all = sum_by-cons (weight_at device) n ns in
    omega (arith, rest, one, all)

-- a sum over the numbers below another, and one number more
pub sum_more : (device : List (List ℕ)) (n : ℕ)
    → sum_by (weight_at device) (range_with_len 0 (n + 1)) ≡ sum_by (weight_at device) (range_with_len 0 n) + weight_at device n
sum_more device n =
    let here : 0 + n ≡ n = omega arith in
    ap (sum_by (weight_at device)) (range_with_len-more 0 n) ∙ sum_by_push (weight_at device) (range_with_len 0 n) (0 + n)
    ∙ ap (λ m. sum_by (weight_at device) (range_with_len 0 n) + weight_at device m) here

-- a sector's weight, as it was read
pub weight_read : (device : List (List ℕ)) (n : ℕ) (sector : List ℕ) (w : ℕ) → slice_get device n ≡ Some sector → w ≡ weight n sector → w ≡ weight_at device n
unfolding weight_at
weight_read device n sector w there is = is ∙ ap (weight n) (sym (get_or_from_slice_get device n sector [] there))

-- the sum of all sectors of a device
pub sum_all : (view : ViewValue) (n sum : ℕ) → sum ≡ sum_by (weight_at (sectors_of view)) (range_with_len 0 n) → n ≡ view.log.sectors → sum ≡ sum_of (sectors_of view)
unfolding sum_of
sum_all view n sum is all = is ∙ ap (λ k. sum_by (weight_at (sectors_of view)) (range_with_len 0 k)) (all ∙ sym (length_view view))

-- a sum is small
pub sum_fits : (device : List (List ℕ)) (ns : List ℕ) (sum count : ℕ) → sum ≡ sum_by (weight_at device) ns → length ns ≤ count → count ≤ most_sectors → sum < 2 ^ 63
sum_fits device ns sum count is few limit =
    let small = sums_small device ns in
    omega (arith, is, small, few, limit)

pub weight_fits : (n : ℕ) (sector : List ℕ) (w : ℕ) → w ≡ weight n sector → w ≤ 274877906943
weight_fits n sector w is = let small = weight_small n sector in omega (arith, is, small)

pub take_short : (xs : List ℕ) (i : ℕ) → length (take i xs) ≤ length xs
take_short [] zero = omega arith
take_short [] (suc i) = omega arith
take_short (x ∷ xs) zero = omega arith
take_short (x ∷ xs) (suc i) = let rest = take_short xs i in omega (arith, rest)

pub whole_fits : (view : ViewValue) (sum : ℕ) → sum ≡ sum_of (sectors_of view) → view.log.sectors ≤ most_sectors → sum < 2 ^ 63
unfolding sum_of
whole_fits view sum is limit =
    let long = length-range_with_len 0 (length (sectors_of view)) in
    let size = length_view view in
    sum_fits (sectors_of view) (range_with_len 0 (length (sectors_of view))) sum view.log.sectors is (omega (arith, long, size)) limit

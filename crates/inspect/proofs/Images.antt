-- The sectors of an image.
use Rattle.std.proofs.Common.{ℕ, ◌≡◌, ◌+◌, ◌<◌, List, [], map, Some, slice_get, ap, ◌∙◌, arith}
use Rattle.std.proofs.lemmas.List.FromFn.{length-map-range_with_len, get_or-map-range_with_len}
use Rattle.std.proofs.lemmas.Option.{slice_get-get_or}
use Rattle.std.specs.List.{range_with_len}
use Rattle.logfmt.specs.Initial.{initial_sector}
use Rattle.inspect.specs.TrialImage.{device_of}

-- a sector of the device
pub sector_there : (bytes : List ℕ) (sectors n : ℕ) → n < sectors → slice_get (device_of bytes sectors) n ≡ Some (initial_sector bytes n)
unfolding device_of
sector_there bytes sectors n lt =
    let here : 0 + n ≡ n = omega arith in
    let f : ℕ → List ℕ = initial_sector bytes in
    let long = length-map-range_with_len f 0 sectors in
    slice_get-get_or (map f (range_with_len 0 sectors)) n [] (omega (arith, long, lt))
    ∙ ap (λ s. Some s) (get_or-map-range_with_len f 0 sectors n n [] lt here)

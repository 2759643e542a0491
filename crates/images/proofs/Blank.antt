-- The device before the first unit.
use Rattle.std.proofs.Common.{ℕ, ◌≡◌, List, [], ◌∷◌, length, map, replicate, refl, ◌∙◌, ap}
use Rattle.std.specs.List.{range_with_len}
use Rattle.std.proofs.lemmas.List.FromFn.{length-range_with_len}
use Rattle.logfmt.specs.Bounds.{LogValue}
use Rattle.logfmt.specs.Initial.{initial_sector}
use Rattle.choices.specs.declared.choice.Departure.{Departure}
use Rattle.images.specs.Images.{byte_after, sector_after, device_after, crash_image}

-- where nothing was written there is the initial content
pub first_sector : (log : LogValue) (ds : List Departure) (s : ℕ) → sector_after log [] ds s ≡ initial_sector log.initial s
unfolding sector_after byte_after initial_sector
first_sector log ds s = refl

pub first_device : (log : LogValue) (ds : List Departure) → crash_image log 0 ds ≡ map (initial_sector log.initial) (range_with_len 0 log.sectors)
unfolding device_after
first_device log ds = ap (λ (f : ℕ → List ℕ). map f (range_with_len 0 log.sectors)) (λ j s. first_sector log ds s j)

map_same : {X : Type 0} (x : X) (ns : List ℕ) → map (λ (_ : ℕ). x) ns ≡ replicate (length ns) x
map_same x [] = refl
map_same x (n ∷ ns) = ap (λ xs. x ∷ xs) (map_same x ns)

-- without initial content there are zeros
zero_sector : (s : ℕ) → initial_sector [] s ≡ replicate {A = ℕ} 512 0
unfolding initial_sector
zero_sector s = map_same {X = ℕ} 0 (range_with_len 0 512) ∙ ap (λ n. replicate {A = ℕ} n 0) (length-range_with_len 0 512)

pub zero_device : (sectors : ℕ) → map (initial_sector []) (range_with_len 0 sectors) ≡ replicate sectors (replicate {A = ℕ} 512 0)
zero_device sectors =
    ap (λ (f : ℕ → List ℕ). map f (range_with_len 0 sectors)) (λ j s. zero_sector s j)
    ∙ map_same (replicate {A = ℕ} 512 0) (range_with_len 0 sectors)
    ∙ ap (λ n. replicate n (replicate {A = ℕ} 512 0)) (length-range_with_len 0 sectors)

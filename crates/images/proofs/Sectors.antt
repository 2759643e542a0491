-- Sectors of an image and of its base, by their numbers.
use Rattle.std.proofs.Common.{ℕ, zero, suc, ◌≡◌, ◌+◌, ◌<◌, ◌≤◌, Bool, true, false, if◌then◌else◌, List, [], map, slice_get, Some, ◌∙◌, ap, arith}
use Rattle.std.specs.List.{range_with_len}
use Rattle.std.proofs.lemmas.List.FromFn.{length-map-range_with_len, get_or-map-range_with_len}
use Rattle.std.proofs.lemmas.Option.{slice_get-get_or}
use Rattle.logfmt.specs.declared.entry.Entry.{Entry}
use Rattle.logfmt.specs.Bounds.{LogValue}
use Rattle.epochs.specs.declared.unit.Unit.{Unit as LogUnit}
use Rattle.epochs.specs.Units.{units_before}
use Rattle.epochs.specs.Cuts.{is_flush_at}
use Rattle.epochs.specs.Laws.{last_flush}
use Rattle.choices.specs.declared.choice.Departure.{Departure}
use Rattle.images.specs.Images.{sector_after, device_after}
use Rattle.images.specs.Views.{ViewValue, sectors_of}
use Rattle.images.specs.Keys.{base_of}

-- the last flush entry is not after the cut
pub flush_within : (es : List Entry) (k : ℕ) → last_flush es k ≤ k
flush_within es zero = omega arith
flush_within es (suc k) =
    let by : (b : Bool) → (if b then k else last_flush es k) ≤ suc k =
    λ b. elim b as (λ c. (if c then k else last_flush es k) ≤ suc k) [
      | true ↦ omega arith
      | false ↦ let rest = flush_within es k in omega (arith, rest)
    ] in
    by (is_flush_at es k)

-- a sector of a device
pub device_there : (log : LogValue) (us : List LogUnit) (ds : List Departure) (n : ℕ) → n < log.sectors
    → slice_get (device_after log us ds) n ≡ Some (sector_after log us ds n)
unfolding device_after
device_there log us ds n lt =
    let here : 0 + n ≡ n = omega arith in
    let f : ℕ → List ℕ = sector_after log us ds in
    let long = length-map-range_with_len f 0 log.sectors in
    slice_get-get_or (map f (range_with_len 0 log.sectors)) n [] (omega (arith, long, lt))
    ∙ ap (λ s. Some s) (get_or-map-range_with_len f 0 log.sectors n n [] lt here)

-- a sector of an image, and one of its base
pub view_there : (view : ViewValue) (n : ℕ) → n < view.log.sectors
    → slice_get (sectors_of view) n ≡ Some (sector_after view.log (units_before view.log.entries view.cut) view.departures n)
unfolding sectors_of
view_there view n lt = device_there view.log (units_before view.log.entries view.cut) view.departures n lt

pub base_there : (log : LogValue) (cut n : ℕ) → n < log.sectors
    → slice_get (base_of log cut) n ≡ Some (sector_after log (units_before log.entries (last_flush log.entries cut)) [] n)
unfolding base_of
base_there log cut n lt = device_there log (units_before log.entries (last_flush log.entries cut)) [] n lt

-- A view is a device: that many sectors, each of 512 bytes.
use Rattle.std.specs.Prelude.{ℕ, zero, suc, ◌≡◌, List, [], ◌∷◌, length, map, slice_get, Some, None}
use Rattle.std.specs.List.{range_with_len}
use Rattle.std.proofs.Common.{sym, ◌∙◌, ap}
use Rattle.std.proofs.lemmas.List.FromFn.{length-map-range_with_len}
use Rattle.std.proofs.lemmas.Option.{same_Some}
use Rattle.logfmt.specs.Bounds.{LogValue}
use Rattle.epochs.specs.declared.unit.Unit.{Unit as LogUnit}
use Rattle.epochs.specs.Units.{units_before}
use Rattle.choices.specs.declared.choice.Departure.{Departure}
use Rattle.images.specs.Images.{byte_after, sector_after, device_after}
use Rattle.images.specs.Views.{ViewValue, sectors_of}

-- an image has the sectors of its device
pub length_view : (view : ViewValue) → length (sectors_of view) ≡ view.log.sectors
unfolding sectors_of device_after
length_view view = length-map-range_with_len (sector_after view.log (units_before view.log.entries view.cut) view.departures) 0 view.log.sectors

mapped : (f : ℕ → List ℕ) (xs : List ℕ) (n : ℕ) (s : List ℕ) → ((x : ℕ) → length (f x) ≡ 512) → slice_get (map f xs) n ≡ Some s → length s ≡ 512
mapped f [] n s each h = absurd (let bad : None ≡ Some s = h in cc)
mapped f (x ∷ xs) zero s each h = ap length (sym (same_Some (f x) s h)) ∙ each x
mapped f (x ∷ xs) (suc n) s each h = mapped f xs n s each h

-- what units leave of a sector has 512 bytes
pub length-sector_after : (log : LogValue) (us : List LogUnit) (ds : List Departure) (s : ℕ) → length (sector_after log us ds s) ≡ 512
unfolding sector_after
length-sector_after log us ds s = length-map-range_with_len (byte_after log us ds s) 0 512

-- each sector of an image has 512 bytes
pub whole_view : (view : ViewValue) (n : ℕ) (s : List ℕ) → slice_get (sectors_of view) n ≡ Some s → length s ≡ 512
unfolding sectors_of device_after
whole_view view n s h =
    let us = units_before view.log.entries view.cut in
    mapped (sector_after view.log us view.departures) (range_with_len 0 view.log.sectors) n s (length-sector_after view.log us view.departures) h

-- A crash image is a device of bytes.
use Rattle.std.proofs.Common.{ℕ, zero, suc, ◌≡◌, ◌+◌, ◌*◌, ◌<◌, ◌≤◌, Bool, true, false, if◌then◌else◌, List, [], ◌∷◌, length, map, take, slice_get, filter, count_by, Option, Some, None, refl, subst, arith}
use Rattle.std.specs.List.{slice_index, slice_range, last_or, range_with_len}
use Rattle.std.specs.Option.{option_map_or}
use Rattle.std.proofs.lemmas.List.{length-take}
use Rattle.std.proofs.lemmas.List.Sums.{count_by-le-length}
use Rattle.std.proofs.lemmas.Option.{same_Some}
use Rattle.base.specs.Numbers.{zeros}
use Rattle.logfmt.specs.declared.entry.Entry.{Entry}
use Rattle.logfmt.specs.Bounds.{LogValue, IsLog, AreBytes}
use Rattle.logfmt.specs.Initial.{initial_byte}
use Rattle.logfmt.proofs.DataBytes.{range_bytes, zero_bytes}
use Rattle.epochs.specs.declared.unit.Unit.{Unit as LogUnit}
use Rattle.epochs.specs.Units.{units_before, unit_content}
use Rattle.choices.specs.declared.choice.Departure.{Departure}
use Rattle.images.specs.Images.{writes, byte_after, sector_after, device_after}
use Rattle.images.specs.Views.{ViewValue, sectors_of}
use Rattle.images.specs.Whole.{length_view, whole_view}
use Rattle.images.specs.Laws.{ImagesAreDevices}

-- the data of each entry of a list
abbrev HaveBytes : List Entry → Type 0
HaveBytes es = (i : ℕ) (e : Entry) → slice_get es i ≡ Some e → AreBytes e.content

either : (discard : Bool) (content : List ℕ) (place : ℕ) → AreBytes content
    → AreBytes (if discard then zeros 512 else slice_range content (512 * place) (512 * place + 512))
either true content place h = zero_bytes 512
either false content place h = range_bytes content (512 * place) (512 * place + 512) h

-- a unit has bytes
unit_bytes : (es : List Entry) (u : LogUnit) → HaveBytes es → AreBytes (unit_content es u)
unfolding unit_content
unit_bytes es u h = of_entry (slice_get es u.entry) refl
  where
    of_entry : (o : Option Entry) → slice_get es u.entry ≡ o
        → AreBytes (option_map_or (λ (entry : Entry). if entry.flags.discard then zeros 512 else slice_range entry.content (512 * u.place) (512 * u.place + 512)) o [])
    of_entry None there = λ i. omega arith
    of_entry (Some entry) there = either entry.flags.discard entry.content u.place (h u.entry entry there)

-- so each byte of a sector is one
byte_fits : (log : LogValue) (us : List LogUnit) (ds : List Departure) (s i : ℕ) → IsLog log → byte_after log us ds s i < 256
unfolding byte_after
byte_fits log us ds s i is = of_unit (last_or None (filter (writes ds s i) us))
  where
    of_unit : (o : Option LogUnit) → option_map_or (λ (u : LogUnit). slice_index (unit_content log.entries u) i) o (initial_byte log.initial s i) < 256
    of_unit None = is.initial (512 * s + i)
    of_unit (Some u) = unit_bytes log.entries u (λ j e there. (is.entries j e there).bytes) i

mapped_bytes : (f : ℕ → ℕ) (xs : List ℕ) → ((x : ℕ) → f x < 256) → AreBytes (map f xs)
mapped_bytes f [] h i = omega arith
mapped_bytes f (x ∷ xs) h zero = h x
mapped_bytes f (x ∷ xs) h (suc i) = mapped_bytes f xs h i

sector_bytes : (log : LogValue) (us : List LogUnit) (ds : List Departure) (s : ℕ) → IsLog log → AreBytes (sector_after log us ds s)
unfolding sector_after
sector_bytes log us ds s is = mapped_bytes (byte_after log us ds s) (range_with_len 0 512) (λ i. byte_fits log us ds s i is)

mapped_sectors : (f : ℕ → List ℕ) (xs : List ℕ) (n : ℕ) (sector : List ℕ) → ((x : ℕ) → AreBytes (f x)) → slice_get (map f xs) n ≡ Some sector → AreBytes sector
mapped_sectors f [] n sector h there = absurd (let bad : None ≡ Some sector = there in cc)
mapped_sectors f (x ∷ xs) zero sector h there = subst AreBytes (same_Some (f x) sector there) (h x)
mapped_sectors f (x ∷ xs) (suc n) sector h there = mapped_sectors f xs n sector h there

image_bytes : (view : ViewValue) → IsLog view.log → (n : ℕ) (sector : List ℕ) → slice_get (sectors_of view) n ≡ Some sector → AreBytes sector
unfolding sectors_of device_after
image_bytes view is n sector there =
    let us = units_before view.log.entries view.cut in
    mapped_sectors (sector_after view.log us view.departures) (range_with_len 0 view.log.sectors) n sector
    (λ s. sector_bytes view.log us view.departures s is) there

-- as many of the first entries are few, where there are few entries
few_before : (p : Entry → Bool) (es : List Entry) (k : ℕ) → length es ≤ 65536 → count_by p (take k es) ≤ 65536
few_before p es k few = omega (arith, few, count_by-le-length p (take k es), length-take k es)

pub images_are_devices : ImagesAreDevices
images_are_devices view is = record {
  count = length_view view;
  long = whole_view view;
  bytes = image_bytes view is;
  fits = record {
    epoch = few_before (λ (entry : Entry). entry.flags.flush) view.log.entries view.cut is.count;
    marks = few_before (λ (entry : Entry). entry.flags.mark) view.log.entries view.cut is.count;
  };
}

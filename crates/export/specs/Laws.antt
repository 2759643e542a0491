-- What who reads the text of `export` has of it.
use Rattle.std.specs.Prelude.{ℕ, zero, suc, ◌≡◌, ◌<◌, if◌then◌else◌, List, [], ◌∷◌, slice_set, Some, None}
use Rattle.images.specs.Keys.{ChangedValue}
use Rattle.export.specs.Export.{AskedValue, device_at, marks_before, first_same, is_new, initial_device, records_at}

-- a device after records were written to it, one after the other
unfoldable pub written : List (List ℕ) → List ChangedValue → List (List ℕ)
written device [] = device
written device (sector ∷ rest) = written (slice_set device sector.number sector.content) rest

-- what a reader's device holds after n lines: it begins with what the device held before entry 0, and each new image writes its records
unfoldable pub reader : AskedValue → ℕ → List (List ℕ)
reader a zero = initial_device a.plan.log
reader a (suc i) = if is_new a i then written (reader a i) (records_at a i) else reader a i

-- after the line and the records of a new image the reader's device is that image. Where an image is told to be the same as another,
-- that is an earlier one, which was new, has the same bytes and as many marks, and is what the reader's device held after its own line;
-- and no image before that one has the same bytes and as many marks. No image before a new one has the same bytes and as many marks.
pub record ReadersHaveImages (a : AskedValue) : Type 0 where
  pub new : (i : ℕ) → first_same a i ≡ None → reader a (suc i) ≡ device_at a i
  pub earlier : (i j : ℕ) → first_same a i ≡ Some j → j < i
  pub first : (i j : ℕ) → first_same a i ≡ Some j → first_same a j ≡ None
  pub bytes : (i j : ℕ) → first_same a i ≡ Some j → reader a (suc j) ≡ device_at a i
  pub marks : (i j : ℕ) → first_same a i ≡ Some j → marks_before a j ≡ marks_before a i
  pub none_before : (i j k : ℕ) → first_same a i ≡ Some j → k < j → device_at a k ≡ device_at a i → marks_before a k ≡ marks_before a i → ⊥
  pub none : (i k : ℕ) → first_same a i ≡ None → k < i → device_at a k ≡ device_at a i → marks_before a k ≡ marks_before a i → ⊥

abbrev pub ExportsAreImages : Type 0
ExportsAreImages = (a : AskedValue) → ReadersHaveImages a

-- The device that the bytes of an image are (docs/OUTPUT.md, The text of `check`).
use Rattle.std.specs.Prelude.{ℕ, zero, suc, ◌≡◌, ◌*◌, ◌/◌, ◌%◌, ◌==◌, ◌&&◌, nat_le, Bool, List, [], ◌∷◌, length, map, slice_get, None, Some}
use Rattle.std.specs.List.{range_with_len}
use Rattle.std.proofs.Common.{sym, ◌∙◌, ap}
use Rattle.std.proofs.lemmas.List.FromFn.{length-map-range_with_len}
use Rattle.std.proofs.lemmas.Option.{same_Some}
use Rattle.base.specs.Sizes.{sector_limit}
use Rattle.base.specs.declared.limits.Limits.{Limits}
use Rattle.logfmt.specs.Initial.{initial_byte, initial_sector}

abbrev pub sectors_of : List ℕ → ℕ
sectors_of bytes = length bytes / 512

-- whole sectors, 1 of them to as many as a device within these limits has
abbrev pub is_image : Limits → List ℕ → Bool
is_image limits bytes = (length bytes % 512 == 0) && nat_le 512 (length bytes) && nat_le (length bytes) (512 * sector_limit limits)

-- the sectors of the image: byte i of sector n is byte 512 n + i
unfoldable pub device_of : List ℕ → ℕ → List (List ℕ)
device_of bytes sectors = map (initial_sector bytes) (range_with_len 0 sectors)

-- the bytes, and how many sectors there are
pub record ImageValue : Type 0 where
  pub bytes : List ℕ
  pub sectors : ℕ

pub length_device : (bytes : List ℕ) (sectors : ℕ) → length (device_of bytes sectors) ≡ sectors
unfolding device_of
length_device bytes sectors = length-map-range_with_len (initial_sector bytes) 0 sectors

mapped : (f : ℕ → List ℕ) (xs : List ℕ) (n : ℕ) (s : List ℕ) → ((x : ℕ) → length (f x) ≡ 512) → slice_get (map f xs) n ≡ Some s → length s ≡ 512
mapped f [] n s each h = absurd (let bad : None ≡ Some s = h in cc)
mapped f (x ∷ xs) zero s each h = ap length (sym (same_Some (f x) s h)) ∙ each x
mapped f (x ∷ xs) (suc n) s each h = mapped f xs n s each h

length-initial_sector : (bytes : List ℕ) (s : ℕ) → length (initial_sector bytes s) ≡ 512
unfolding initial_sector
length-initial_sector bytes s = length-map-range_with_len (initial_byte bytes s) 0 512

-- each sector has 512 bytes
pub whole_device : (bytes : List ℕ) (sectors n : ℕ) (s : List ℕ) → slice_get (device_of bytes sectors) n ≡ Some s → length s ≡ 512
unfolding device_of
whole_device bytes sectors n s h = mapped (initial_sector bytes) (range_with_len 0 sectors) n s (length-initial_sector bytes) h

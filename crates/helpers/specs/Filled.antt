-- A device in which each byte is the same.
use Rattle.std.specs.Prelude.{ℕ, zero, suc, ◌≡◌, ◌<◌, ◌≤◌, List, length, replicate, None, Some, slice_get}
use Rattle.std.proofs.Common.{refl, sym, ◌∙◌, ap, arith}
use Rattle.std.proofs.Math.ListN.{length-replicate}

pub record FilledWith : Type 0 where
  pub count : ℕ
  pub byte : ℕ

unfoldable pub filled_sector : ℕ → List ℕ
filled_sector byte = replicate 512 byte

unfoldable pub filled_device : ℕ → ℕ → List (List ℕ)
filled_device count byte = replicate count (filled_sector byte)

get_replicate : (k n : ℕ) (x : List ℕ) → n < k → slice_get (replicate k x) n ≡ Some x
get_replicate zero n x h = absurd (omega (arith, h))
get_replicate (suc k) zero x h = refl
get_replicate (suc k) (suc n) x h = get_replicate k n x (omega (arith, h))

get_replicate_past : (k n : ℕ) (x : List ℕ) → k ≤ n → slice_get (replicate k x) n ≡ None
get_replicate_past zero n x h = refl
get_replicate_past (suc k) zero x h = absurd (omega (arith, h))
get_replicate_past (suc k) (suc n) x h = get_replicate_past k n x (omega (arith, h))

element_replicate : (k n : ℕ) (x s : List ℕ) → slice_get (replicate k x) n ≡ Some s → s ≡ x
element_replicate zero n x s h = absurd (let bad : None ≡ Some s = h in cc)
element_replicate (suc k) zero x s h = let e : Some s ≡ Some x = sym h in cc
element_replicate (suc k) (suc n) x s h = element_replicate k n x s h

-- a sector inside
pub filled_inside : (count byte n : ℕ) → n < count → slice_get (filled_device count byte) n ≡ Some (filled_sector byte)
unfolding filled_device
filled_inside count byte n h = get_replicate count n (filled_sector byte) h

-- there is none past the end
pub filled_past : (count byte n : ℕ) → count ≤ n → slice_get (filled_device count byte) n ≡ None
unfolding filled_device
filled_past count byte n h = get_replicate_past count n (filled_sector byte) h

pub length_filled : (count byte : ℕ) → length (filled_device count byte) ≡ count
unfolding filled_device
length_filled count byte = length-replicate {A = List ℕ} count (filled_sector byte)

-- each sector has 512 bytes
pub whole_filled : (count byte n : ℕ) (s : List ℕ) → slice_get (filled_device count byte) n ≡ Some s → length s ≡ 512
unfolding filled_device filled_sector
whole_filled count byte n s h =
    ap length (element_replicate count n (replicate {A = ℕ} 512 byte) s h) ∙ length-replicate {A = ℕ} 512 byte

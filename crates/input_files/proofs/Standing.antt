-- The text that stands for a long program, and its faults.
use Rattle.std.proofs.Common.{ℕ, ◌≡◌, ◌≢◌, ◌==◌, ◌+◌, ◌/◌, ◌%◌, ◌<◌, ◌≤◌, nat_le, if◌then◌else◌, true, false, List, length, refl, sym, ◌∙◌, ap, inr, arith}
use Rattle.std.proofs.lemmas.Bool.Decides.{nat_tests}
use Rattle.std.proofs.lemmas.List.{length-take-le, take_all}
use Rattle.base.specs.declared.causes.CodeCause.TheVariants as cause
use Rattle.bpf_isa.specs.Program.{cut, count, at_slot}
use Rattle.input_files.specs.Standing.{standing, stand_in, ShortStandsForItself, LongIsRefusedAlike, LongIsRefused}

-- what stands for a long one is long, no longer than it, and cuts a slot as it does
record StandsLong (n m : ℕ) : Type 0 where
  pub long : 32768 < m
  pub within : m ≤ n
  pub alike : m % 8 ≡ n % 8

stands : (n : ℕ) → 32768 < n → StandsLong n (standing n)
stands n more =
    let first : nat_le n 32768 ≡ false = grind (arith, nat_tests, more) in
    rw first (elim (n % 8 == 0) as (λ b. n % 8 == 0 ≡ b → StandsLong n (if b then 32776 else 32768 + n % 8)) [
      | true ↦ λ e. let whole : n % 8 ≡ 0 = grind (arith, nat_tests, e) in record { long = omega arith; within = omega (arith, whole, more); alike = omega (arith, whole) }
      | false ↦ λ e. let part : n % 8 ≢ 0 = grind (arith, nat_tests, e) in record { long = omega (arith, part); within = omega (arith, more); alike = omega arith }
    ] refl)

stands_length : (bytes : List ℕ) → 32768 < length bytes → length (stand_in bytes) ≡ standing (length bytes)
stands_length bytes more = let s = stands (length bytes) more in length-take-le (standing (length bytes)) bytes s.within

pub short : ShortStandsForItself
short bytes few =
    let first : nat_le (length bytes) 32768 ≡ true = grind (arith, nat_tests, few) in
    rw first (take_all (length bytes) bytes (omega arith))

pub alike : LongIsRefusedAlike
alike bytes more _ _ (cut h) =
    let s = stands (length bytes) more in
    let e = stands_length bytes more in
    cut (λ k. h (ap (λ n. n % 8) e ∙ s.alike ∙ k))
alike bytes more _ _ (count h k) =
    let s = stands (length bytes) more in
    let e = stands_length bytes more in
    count (sym s.alike ∙ sym (ap (λ n. n % 8) e) ∙ h) (inr more)
alike bytes more c _ (at_slot d before whole begins there fails) =
    let s = stands (length bytes) more in
    let e = stands_length bytes more in
    absurd (omega (arith, s.long, e, whole.limit))

pub refused : LongIsRefused
refused bytes more none =
    let s = stands (length bytes) more in
    let e = stands_length bytes more in
    let whole : length (stand_in bytes) % 8 ≢ 0 = λ k. none cause.SlotCount 0 (count k (inr (omega (arith, s.long, e)))) in
    none cause.Length (length (stand_in bytes) / 8) (cut whole)

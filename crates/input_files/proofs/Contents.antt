-- What is kept of a program, whatever its file is said to have.
use Rattle.std.proofs.Common.{ℕ, ◌≡◌, ◌≢◌, ◌==◌, ◌+◌, ◌/◌, ◌%◌, ◌<◌, ◌≤◌, nat_le, if◌then◌else◌, Bool, true, false, List, length, Option, None, Some, refl, ◌∙◌, ap, inr, arith}
use Rattle.std.proofs.lemmas.Bool.Decides.{nat_tests}
use Rattle.std.proofs.lemmas.List.{length-take-le, take_all}
use Rattle.base.specs.declared.causes.CodeCause.TheVariants as cause
use Rattle.bpf_isa.specs.Program.{HasNoFault, cut, count}
use Rattle.input_files.specs.declared.kind.FileKind.TheVariants as kind
use Rattle.input_files.specs.Contents.{counted_length, kept_program, long_length, told_length, ShortIsKeptWhole, LongIsNeverRun}
use Rattle.input_files.specs.Standing.{standing}

-- a list that is too long has a fault
pub long_fault : (bytes : List ℕ) → 32768 < length bytes → HasNoFault bytes → ⊥
long_fault bytes long none =
    let whole : length bytes % 8 ≢ 0 = λ k. none cause.SlotCount 0 (count k (inr long)) in
    none cause.Length (length bytes / 8) (cut whole)

-- what stands for as many bytes as are read, or more
many_stand : (n : ℕ) → 32776 ≤ n → (32768 < standing n) × (standing n ≤ 32776)
many_stand n many =
    let long : nat_le n 32768 ≡ false = grind (arith, nat_tests, many) in
    rw long (elim (n % 8 == 0) as (λ b. n % 8 == 0 ≡ b → (32768 < (if b then 32776 else 32768 + n % 8)) × ((if b then 32776 else 32768 + n % 8) ≤ 32776)) [
      | true ↦ λ e. (omega arith, omega arith)
      | false ↦ λ e. let part : n % 8 ≢ 0 = grind (arith, nat_tests, e) in (omega (arith, part), omega arith)
    ] refl)

-- what is counted of as many
many_counted : (n : ℕ) → 32776 ≤ n → 32776 ≤ counted_length n
many_counted n many = elim (nat_le n 67108864) as (λ b. 32776 ≤ (if b then n else 67108872)) [ true ↦ many | false ↦ omega arith ]

-- of as many bytes what is said or counted is told
pub many_told : (said : Option ℕ) (bytes : List ℕ) → nat_le 32776 (length bytes) ≡ true → told_length kind.Program said bytes ≡ long_length said (length bytes)
many_told said bytes read = rw read refl

-- that is no fewer
no_fewer : (said : Option ℕ) (n : ℕ) → 32776 ≤ n → 32776 ≤ long_length said n
no_fewer None n many = many_counted n many
no_fewer (Some m) n many =
    elim (nat_le 32776 m) as (λ b. nat_le 32776 m ≡ b → 32776 ≤ (if b then m else counted_length n)) [
      | true ↦ λ e. grind (arith, nat_tests, e)
      | false ↦ λ e. many_counted n many
    ] refl

-- of fewer they themselves
pub few_told : (said : Option ℕ) (bytes : List ℕ) → length bytes < 32776 → told_length kind.Program said bytes ≡ length bytes
few_told said bytes few = let read : nat_le 32776 (length bytes) ≡ false = grind (arith, nat_tests, few) in rw read refl

pub kept_whole : ShortIsKeptWhole
kept_whole said bytes few =
    let told = few_told said bytes (omega (arith, few)) in
    let whole : nat_le (length bytes) 32768 ≡ true = grind (arith, nat_tests, few) in
    rw told (rw whole (take_all (length bytes) bytes (omega arith)))

-- what is kept of one that is too long is too long
kept_long : (said : Option ℕ) (bytes : List ℕ) → 32768 < length bytes → 32768 < length (kept_program said bytes)
kept_long said bytes long =
    let by_test : (b : Bool) → nat_le 32776 (length bytes) ≡ b → 32768 < length (kept_program said bytes) =
    λ b. elim b as (λ v. nat_le 32776 (length bytes) ≡ v → 32768 < length (kept_program said bytes)) [
      | true ↦ λ e.
          let many : 32776 ≤ length bytes = grind (arith, nat_tests, e) in
          let told = no_fewer said (length bytes) many in
          let is = many_told said bytes e in
          let stand = many_stand (told_length kind.Program said bytes) (omega (arith, told, is)) in
          let kept = length-take-le (standing (told_length kind.Program said bytes)) bytes (omega (arith, stand.1, many)) in
          omega (arith, kept, stand.0)
      | false ↦ λ e.
          let few : length bytes < 32776 = grind (arith, nat_tests, e) in
          let told = few_told said bytes few in
          let over : nat_le (length bytes) 32768 ≡ false = grind (arith, nat_tests, long) in
          let part : (length bytes % 8 == 0) ≡ false = grind (arith, nat_tests, long, few) in
          let stand : standing (length bytes) ≡ 32768 + length bytes % 8 = rw over (rw part refl) in
          let same : standing (told_length kind.Program said bytes) ≡ 32768 + length bytes % 8 = ap standing told ∙ stand in
          let kept = length-take-le (standing (told_length kind.Program said bytes)) bytes (omega (arith, same, long, few)) in
          omega (arith, kept, same, long, few)
    ] in
    by_test (nat_le 32776 (length bytes)) refl

pub never_run : LongIsNeverRun
never_run said bytes long none = long_fault (kept_program said bytes) (kept_long said bytes long) none

-- what is told of a program that is said to have as many bytes as were read, or fewer
pub said_length : (m n : ℕ) → 32776 ≤ m → long_length (Some m) n ≡ m
said_length m n many = let test : nat_le 32776 m ≡ true = grind (arith, nat_tests, many) in rw test refl

pub unsaid_length : (m n : ℕ) → m < 32776 → long_length (Some m) n ≡ counted_length n
unsaid_length m n few = let test : nat_le 32776 m ≡ false = grind (arith, nat_tests, few) in rw test refl

-- The parts of an entry: how many there are, and where they lie in it.
use Rattle.std.proofs.Common.{ℕ, zero, suc, ◌≡◌, ◌+◌, ◌*◌, ◌<◌, ◌≤◌, ◌⊎◌, if◌then◌else◌, ap, inl, inr, arith, refl}
use Rattle.std.proofs.lemmas.Bool.Decides.{eqb_tells}
use Rattle.logfmt.specs.declared.entry.Entry.{Entry}
use Rattle.epochs.specs.declared.part.By.{By}
use Rattle.epochs.specs.declared.part.By.TheVariants as by
use Rattle.epochs.specs.Parts.{part_size, part_count}

none_or_some : (n : ℕ) → (n ≡ 0) ⊎ (1 ≤ n)
none_or_some zero = inl refl
none_or_some (suc n) = inr (omega arith)

-- an entry of sectors is one part, by write, and an entry without any is none
one_part : (x : Entry) (j : ℕ) → j < part_count by.Write x → (j ≡ 0) × (1 ≤ x.count)
one_part x j lt = elim (eqb_tells x.count 0) [
  | inl none ↦
      let gone : part_count by.Write x ≡ 0 = ap (λ b. if b then 0 else 1) none.0 in
      absurd (omega (arith, gone, lt))
  | inr some ↦
      let one : part_count by.Write x ≡ 1 = ap (λ b. if b then 0 else 1) some.0 in
      let more = some.1 in
      (omega (arith, one, lt), elim (none_or_some x.count) [ inl none ↦ absurd (more none) | inr le ↦ le ])
]

-- a part has a sector, and lies in its entry
pub part_some : (way : By) (x : Entry) (j : ℕ) → j < part_count way x → 1 ≤ part_size way x
part_some by.Sector x j lt = omega arith
part_some by.Write x j lt = (one_part x j lt).1

pub part_inside : (way : By) (x : Entry) (j : ℕ) → j < part_count way x → j * part_size way x + part_size way x ≤ x.count
part_inside by.Sector x j lt = omega (arith, lt)
part_inside by.Write x j lt =
    let none : j ≡ 0 = (one_part x j lt).0 in
    let at : j * x.count ≡ 0 * x.count = ap (λ n. n * x.count) none in
    omega (arith, at)

-- an entry has no more parts than sectors
pub parts_few : (way : By) (x : Entry) → part_count way x ≤ x.count
parts_few by.Sector x = omega arith
parts_few by.Write x = elim (eqb_tells x.count 0) [
  | inl none ↦ let gone : part_count by.Write x ≡ 0 = ap (λ b. if b then 0 else 1) none.0 in omega (arith, gone)
  | inr some ↦
      let one : part_count by.Write x ≡ 1 = ap (λ b. if b then 0 else 1) some.0 in
      let le = (one_part x 0 (omega (arith, one))).1 in
      omega (arith, le, one)
]

-- a later part begins after an earlier one
pub parts_rise : (way : By) (x : Entry) (i j : ℕ) → i < j → j < part_count way x → i * part_size way x < j * part_size way x
parts_rise by.Sector x i j less lt = omega (arith, less)
parts_rise by.Write x i j less lt = let none : j ≡ 0 = (one_part x j lt).0 in absurd (omega (arith, none, less))

-- as many sectors of an entry as a part has, that lie in it, are one of its parts
pub part_found : (way : By) (x : Entry) (place count : ℕ) → count ≡ part_size way x → 1 ≤ count → place + count ≤ x.count
    → (j : ℕ) × (j < part_count way x) × (j * part_size way x ≡ place)
part_found by.Sector x place count is some le = (place, omega (arith, is, le), omega arith)
part_found by.Write x place count is some le = elim (eqb_tells x.count 0) [
  | inl none ↦ let zero_count = none.1 in absurd (omega (arith, zero_count, is, some))
  | inr more ↦
      let one : part_count by.Write x ≡ 1 = ap (λ b. if b then 0 else 1) more.0 in
      (0, omega (arith, one), omega (arith, is, le))
]

-- two parts of an entry, of which one begins after the other, have no sector in common
pub parts_apart : (way : By) (x : Entry) (a b count other : ℕ) → count ≡ part_size way x → other ≡ part_size way x → 1 ≤ other → b + other ≤ x.count → a < b
    → a + count ≤ b
parts_apart by.Sector x a b count other is so some le less = omega (arith, is, less)
parts_apart by.Write x a b count other is so some le less = absurd (omega (arith, so, le, less))

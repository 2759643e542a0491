-- A sector that nothing between two images covers.
use Rattle.std.proofs.Common.{ℕ, zero, suc, ◌≡◌, ◌≢◌, ◌+◌, ◌-◌, ◌<◌, ◌≤◌, List, [], ◌∷◌, ◌++◌, length, map, slice_get, slice_index_or, Some, sym, subst, ◌∙◌, ap, inl, inr, arith, append_assoc}
use Rattle.std.specs.List.{All, range_with_len}
use Rattle.std.proofs.lemmas.Option.{slice_get_cases}
use Rattle.std.proofs.lemmas.List.{append-nil}
use Rattle.logfmt.specs.declared.entry.Entry.{Entry}
use Rattle.logfmt.specs.Bounds.{LogValue, IsLog}
use Rattle.epochs.specs.declared.unit.Unit.{Unit as LogUnit}
use Rattle.epochs.specs.Units.{unit_of, units_of_entry, units_before}
use Rattle.epochs.proofs.Growth.{units_before-next}
use Rattle.choices.specs.declared.choice.Departure.{Departure}
use Rattle.images.specs.Images.{sector_after}
use Rattle.images.specs.Table.{AreParts}
use Rattle.images.proofs.Departing.{Covers, departed_elsewhere}
use Rattle.images.proofs.Fates.{fates_show}

-- an entry covers a sector
pub record Writes (x : Entry) (n : ℕ) : Type 0 where
  pub low : x.sector ≤ n
  pub high : n < x.sector + x.count

-- no entry between two cuts covers a sector
abbrev pub NoneWrites : LogValue → ℕ → ℕ → ℕ → Type 0
NoneWrites log k m n = (e : ℕ) (x : Entry) → k ≤ e → e < m → slice_get log.entries e ≡ Some x → Writes x n → ⊥

-- no departure covers it
abbrev pub NoneCovers : List Departure → ℕ → Type 0
NoneCovers ds n = (j : ℕ) (d : Departure) → slice_get ds j ≡ Some d → Covers d n → ⊥

-- units of other sectors
units_elsewhere : (log : LogValue) (us vs : List LogUnit) (n : ℕ) → All (λ (u : LogUnit). n ≢ u.sector) vs → sector_after log (us ++ vs) [] n ≡ sector_after log us [] n
units_elsewhere log us [] n others = ap (λ ws. sector_after log ws [] n) (append-nil us)
units_elsewhere log us (v ∷ vs) n others =
    ap (λ ws. sector_after log ws [] n) (sym (append_assoc us (v ∷ []) vs))
    ∙ units_elsewhere log (us ++ v ∷ []) vs n (λ i d lt. others (suc i) d (omega (arith, lt)))
    ∙ fates_show.elsewhere log us v [] n (others 0 v (omega arith))

entry_elsewhere : (e : ℕ) (x : Entry) (n a k : ℕ) → a + k ≤ x.count → (Writes x n → ⊥) → All (λ (u : LogUnit). n ≢ u.sector) (map (unit_of e x) (range_with_len a k))
entry_elsewhere e x n a zero le none = λ i d lt. absurd (omega (arith, lt))
entry_elsewhere e x n a (suc k) le none =
    let rest : All (λ (u : LogUnit). n ≢ u.sector) (map (unit_of e x) (range_with_len (a + 1) k)) = entry_elsewhere e x n (a + 1) k (omega (arith, le)) none in
    λ i d lt. at rest i d lt
  where
    at : All (λ (u : LogUnit). n ≢ u.sector) (map (unit_of e x) (range_with_len (a + 1) k)) → (i : ℕ) (d : LogUnit) → i < length (map (unit_of e x) (range_with_len a (suc k)))
        → n ≢ (slice_index_or (map (unit_of e x) (range_with_len a (suc k))) i d).sector
    at rest zero d lt = λ here. none (record { low = omega (arith, here); high = omega (arith, here, le) })
    at rest (suc i) d lt = rest i d (omega (arith, lt))

later : (log : LogValue) (k j n : ℕ) → k + j ≤ length log.entries → NoneWrites log k (k + j) n
    → sector_after log (units_before log.entries (k + j)) [] n ≡ sector_after log (units_before log.entries k) [] n
later log k zero n le none = ap (λ m. sector_after log (units_before log.entries m) [] n) (let here : k + 0 ≡ k = omega arith in here)
later log k (suc j) n le none =
    let next : k + suc j ≡ suc (k + j) = omega arith in
    elim (slice_get_cases log.entries (k + j)).1 [
      | inl a ↦
          let x : Entry = a.0 in
          ap (λ m. sector_after log (units_before log.entries m) [] n) next
          ∙ ap (λ us. sector_after log us [] n) (units_before-next log.entries (k + j) x a.2)
          ∙ units_elsewhere log (units_before log.entries (k + j)) (units_of_entry (k + j) x) n
          (entry_elsewhere (k + j) x n 0 x.count (omega arith) (none (k + j) x (omega arith) (omega arith) a.2))
          ∙ later log k j n (omega (arith, le)) (λ e y low high. none e y low (omega (arith, high)))
      | inr past ↦ absurd (omega (arith, past.0, le))
    ]

-- two images of a log agree in a sector that neither loses, and that nothing between their cuts covers
pub agree : (log : LogValue) (k m : ℕ) (ds es : List Departure) (n : ℕ) → IsLog log → k ≤ m → m ≤ length log.entries → AreParts log ds → AreParts log es
    → NoneCovers ds n → NoneCovers es n → NoneWrites log k m n
    → sector_after log (units_before log.entries k) ds n ≡ sector_after log (units_before log.entries m) es n
agree log k m ds es n bounds le within parts others own other none =
    let back : k + (m - k) ≡ m = omega (arith, le) in
    let P : ℕ → Type 0 = λ c. NoneWrites log k c n → c ≤ length log.entries → sector_after log (units_before log.entries c) [] n ≡ sector_after log (units_before log.entries k) [] n in
    let whole = subst P back (λ free fits. later log k (m - k) n fits free) none within in
    sym (departed_elsewhere log k ds n bounds (omega (arith, le, within)) parts own) ∙ sym whole
    ∙ departed_elsewhere log m es n bounds within others other

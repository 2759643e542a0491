-- The pieces of a unit that matter, candidate by candidate.
use Rattle.std.proofs.Common.{ℕ, ◌≡◌, ◌+◌, ◌<◌, ◌≤◌, ◌==◌, Bool, true, false, ◌&&◌, ◌||◌, if◌then◌else◌, List, [], ◌∷◌, filter, refl, sym, ◌∙◌, ap, arith, inl, inr}
use Rattle.std.proofs.lemmas.Bool.Decides.{eqb_tells}
use Rattle.std.specs.List.{list_any}
use Rattle.logfmt.specs.Bounds.{LogValue}
use Rattle.logfmt.specs.Initial.{initial_sector}
use Rattle.epochs.specs.declared.unit.Unit.{Unit as LogUnit}
use Rattle.epochs.specs.Units.{unit_content}
use Rattle.cases.specs.Risk.{is_at_risk}
use Rattle.cases.specs.Rows.{row, candidates}
use Rattle.cases.specs.Cases.{matters}
use Rattle.cases.specs.Sets.{has, pieces_in}
use Rattle.cases.specs.Table.{difference, IsNext}
use Rattle.cases.proofs.Numbered.{none_has, kept_pieces}

or_no : (b : Bool) → (b || false) ≡ b
or_no true = refl
or_no false = refl

and_no : (b : Bool) → (b && false) ≡ false
and_no true = refl
and_no false = refl

and_yes : (b : Bool) → (b && true) ≡ b
and_yes true = refl
and_yes false = refl

-- below n those of some pieces that pass a test were added
pub record Added (test : ℕ → Bool) (pieces found n more : ℕ) : Type 0 where
  pub below : (i : ℕ) → i < n → has more i ≡ (has found i || (has pieces i && test i))
  pub above : (i : ℕ) → n ≤ i → has more i ≡ has found i

pub added_none : (test : ℕ → Bool) (pieces found : ℕ) → Added test pieces found 0 found
added_none test pieces found = record { below = λ i low. absurd (omega (arith, low)); above = λ i high. refl }

pub added_one : (test : ℕ → Bool) (pieces found n bits more : ℕ) (is : Bool) → Added test pieces found n bits → is ≡ (has pieces n && test n)
    → ((i : ℕ) → has more i ≡ (has bits i || (is && (i == n)))) → Added test pieces found (n + 1) more
added_one test pieces found n bits more is so own step = record {
  below = λ i low. elim (eqb_tells i n) [
    | inl same ↦
        let e = same.1 in
        step i ∙ ap (λ b. b || (is && (i == n))) (so.above i (omega (arith, e))) ∙ ap (λ b. has found i || (is && b)) same.0 ∙ ap (λ b. has found i || b) (and_yes is ∙ own)
        ∙ ap (λ m. has found i || (has pieces m && test m)) (sym e)
    | inr other ↦
        let apart = other.1 in
        step i ∙ ap (λ b. has bits i || (is && b)) other.0 ∙ ap (λ b. has bits i || b) (and_no is) ∙ or_no (has bits i) ∙ so.below i (omega (arith, low, apart))
  ];
  above = λ i high. elim (eqb_tells i n) [
    | inl same ↦ absurd (let e = same.1 in omega (arith, high, e))
    | inr other ↦
        step i ∙ ap (λ b. has bits i || (is && b)) other.0 ∙ ap (λ b. has bits i || b) (and_no is) ∙ or_no (has bits i) ∙ so.above i (omega (arith, high))
  ];
}

-- whether one of some sectors differs from another in a piece
abbrev pub any_other : List ℕ → List (List ℕ) → ℕ → Bool
any_other content cs i = list_any (λ (c : List ℕ). difference content c i) cs

-- those that were found, and those that the units below are still to be asked for, are those that matter
pub record MatterSo (log : LogValue) (k : ℕ) (u : LogUnit) (pieces found cut : ℕ) : Type 0 where
  pub so : (i : ℕ) → i < 8
      → (has found i || (has pieces i && any_other (unit_content log.entries u) (candidates log k u.sector (row log.entries cut u.sector)) i))
      ≡ (has pieces i && any_other (unit_content log.entries u) (candidates log k u.sector (row log.entries u.entry u.sector)) i)
  pub low : cut ≤ u.entry

pub matter_none : (log : LogValue) (k : ℕ) (u : LogUnit) (pieces : ℕ) → MatterSo log k u pieces 0 u.entry
matter_none log k u pieces = record {
  so = λ i less. ap (λ b. b || (has pieces i && any_other (unit_content log.entries u) (candidates log k u.sector (row log.entries u.entry u.sector)) i)) (none_has i);
  low = omega arith;
}

regrouped : (f p d r : Bool) → ((f || (p && d)) || (p && r)) ≡ (f || (p && (d || r)))
regrouped true p d r = refl
regrouped false true true r = refl
regrouped false true false r = refl
regrouped false false d r = refl

-- what a unit below adds
matter_next : (log : LogValue) (k : ℕ) (u below : LogUnit) (pieces found cut more : ℕ) (content other : List ℕ) (risk : Bool) → IsNext log cut u.sector below
    → is_at_risk log.entries k below.entry ≡ risk → content ≡ unit_content log.entries u → other ≡ unit_content log.entries below
    → ((i : ℕ) → i < 8 → has more i ≡ (has found i || (has pieces i && difference content other i)))
    → (i : ℕ) → i < 8
    → (has more i || (has pieces i && any_other (unit_content log.entries u) (if risk then candidates log k u.sector (row log.entries below.entry u.sector) else []) i))
    ≡ (has found i || (has pieces i && any_other (unit_content log.entries u) (candidates log k u.sector (row log.entries cut u.sector)) i))
matter_next log k u below pieces found cut more content other risk next is own own_other step i less =
    let rest : List (List ℕ) = if risk then candidates log k u.sector (row log.entries below.entry u.sector) else [] in
    let C : List ℕ = unit_content log.entries u in
    ap (λ b. b || (has pieces i && any_other C rest i)) (step i less)
    ∙ (λ j. (has found i || (has pieces i && difference (own j) (own_other j) i)) || (has pieces i && any_other C rest i))
    ∙ regrouped (has found i) (has pieces i) (difference C (unit_content log.entries below) i) (any_other C rest i)
    ∙ sym (ap (λ us. has found i || (has pieces i && any_other C (candidates log k u.sector us) i)) next.rest
    ∙ ap (λ b. has found i || (has pieces i && any_other C (unit_content log.entries below ∷ (if b then candidates log k u.sector (row log.entries below.entry u.sector) else [])) i)) is)

pub matter_more : (log : LogValue) (k : ℕ) (u below : LogUnit) (pieces found cut more : ℕ) (content other : List ℕ) → MatterSo log k u pieces found cut → IsNext log cut u.sector below
    → is_at_risk log.entries k below.entry ≡ true → content ≡ unit_content log.entries u → other ≡ unit_content log.entries below
    → ((i : ℕ) → i < 8 → has more i ≡ (has found i || (has pieces i && difference content other i)))
    → MatterSo log k u pieces more below.entry
matter_more log k u below pieces found cut more content other before next is own own_other step = record {
  so = λ i less. matter_next log k u below pieces found cut more content other true next is own own_other step i less ∙ before.so i less;
  low = let one = next.before in let two = before.low in omega (arith, one, two);
}

-- the pieces that matter, where the unit below isn't at risk, and where none is below
pub matter_ends : (log : LogValue) (k : ℕ) (u below : LogUnit) (pieces found cut more : ℕ) (content other : List ℕ) → MatterSo log k u pieces found cut → IsNext log cut u.sector below
    → is_at_risk log.entries k below.entry ≡ false → content ≡ unit_content log.entries u → other ≡ unit_content log.entries below
    → ((i : ℕ) → i < 8 → has more i ≡ (has found i || (has pieces i && difference content other i)))
    → pieces_in more ≡ filter (matters log k u.sector u (row log.entries u.entry u.sector)) (pieces_in pieces)
matter_ends log k u below pieces found cut more content other before next is own own_other step =
    kept_pieces pieces more (matters log k u.sector u (row log.entries u.entry u.sector))
    (λ i less. sym (ap (λ b. has more i || b) (and_no (has pieces i)) ∙ or_no (has more i))
    ∙ matter_next log k u below pieces found cut more content other false next is own own_other step i less ∙ before.so i less)

pub matter_all : (log : LogValue) (k : ℕ) (u : LogUnit) (pieces found cut more : ℕ) (content held : List ℕ) → MatterSo log k u pieces found cut → row log.entries cut u.sector ≡ []
    → content ≡ unit_content log.entries u → held ≡ initial_sector log.initial u.sector
    → ((i : ℕ) → i < 8 → has more i ≡ (has found i || (has pieces i && difference content held i)))
    → pieces_in more ≡ filter (matters log k u.sector u (row log.entries u.entry u.sector)) (pieces_in pieces)
matter_all log k u pieces found cut more content held before none own own_held step =
    kept_pieces pieces more (matters log k u.sector u (row log.entries u.entry u.sector))
    (λ i less.
    step i less
    ∙ (λ j. has found i || (has pieces i && difference (own j) (own_held j) i))
    ∙ ap (λ b. has found i || (has pieces i && b)) (sym (or_no (difference (unit_content log.entries u) (initial_sector log.initial u.sector) i)))
    ∙ sym (ap (λ us. has found i || (has pieces i && any_other (unit_content log.entries u) (candidates log k u.sector us) i)) none)
    ∙ before.so i less)

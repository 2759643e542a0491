-- Rows that are kept: how one is made, which part of it splits a case, and what its sector holds.
use Rattle.std.proofs.Common.{ℕ, ◌≡◌, ◌+◌, ◌<◌, ◌≤◌, ◌⊎◌, nat_lt, Bool, true, false, not, ◌&&◌, if◌then◌else◌, List, [], ◌∷◌, ◌++◌, length, map, filter, drop, slice_get, slice_index_or, get_or, Option, None, Some, All, refl, sym, subst, ◌∙◌, ap, arith, append_assoc, add-one, inl, inr}
use Rattle.std.specs.List.{range_with_len}
use Rattle.std.proofs.lemmas.Bool.{cases_lt}
use Rattle.std.proofs.lemmas.List.{append-nil, drop_all}
use Rattle.std.proofs.lemmas.List.Elements.{All-get_or}
use Rattle.std.proofs.Math.Seq.{drop-cons}
use Rattle.std.proofs.lemmas.Option.{slice_get_within, get_or_from_slice_get}
use Rattle.logfmt.specs.Initial.{initial_sector}
use Rattle.epochs.specs.declared.unit.Unit.{Unit as LogUnit}
use Rattle.epochs.specs.declared.part.Part.{Part}
use Rattle.epochs.specs.Units.{unit_content}
use Rattle.epochs.specs.Laws.{last_flush}
use Rattle.cases.specs.declared.split.Parted.{Parted}
use Rattle.cases.specs.declared.known.Over.{Over}
use Rattle.cases.specs.declared.known.SectorRow.{SectorRow}
use Rattle.cases.specs.Risk.{is_at_risk}
use Rattle.cases.specs.Rows.{row, part_with, shows}
use Rattle.cases.specs.Cases.{show_alike, firsts, kinds, matters, split_in_row}
use Rattle.cases.specs.Sets.{has, fate_at, fates_in, pieces_in, numbers_in}
use Rattle.cases.specs.AtCut.{CutValue, parts_of, Apart, case_of, image_of, split_by}
use Rattle.cases.specs.Table.{IsNext}
use Rattle.cases.specs.declared.lend.UnitReach.{UnitReach}
use Rattle.cases.specs.Lent.{reach_with, LeavesEach, ReachesSo, IsTornOver}
use Rattle.cases.specs.Known.{IsOver, IsBase, AreOver, IsRow, AreRows}
use Rattle.cases.proofs.AtRisk.{flushed}
use Rattle.cases.proofs.Grouped.{kept_turned}
use Rattle.cases.proofs.Numbered.{kept_twice, same_kept}
use Rattle.cases.proofs.Splitting.{RowSo, UnitSo, row_start, row_durable, row_found, row_left}
use Rattle.cases.proofs.Lending.{FromBelow, below_start, below_gone, below_whole, below_none, whole_unit, reached}

-- the units so far, and what is below them
pub record KeptSo (at : CutValue) (s : ℕ) (over : List Over) (cut : ℕ) : Type 0 where
  pub so : (os : List Over) (base : Option LogUnit) → AreOver at cut s os base → AreOver at at.cut s (over ++ os) base
  pub low : cut ≤ at.cut

pub kept_start : (at : CutValue) (s cut : ℕ) → cut ≡ at.cut → KeptSo at s [] cut
kept_start at s cut is = record { so = λ os base are. subst (λ k. AreOver at k s os base) is are; low = omega (arith, is) }

pub kept_more : (at : CutValue) (s : ℕ) (over more : List Over) (cut : ℕ) (o : Over) → KeptSo at s over cut → IsOver at cut s o → more ≡ over ++ o ∷ [] → KeptSo at s more o.unit.entry
kept_more at s over more cut o before own pushed = record {
  so = λ os base are.
      subst (λ (xs : List Over). AreOver at at.cut s xs base) (sym (ap (λ (xs : List Over). xs ++ os) pushed ∙ append_assoc over (o ∷ []) os)) (before.so (o ∷ os) base (own, are));
  low = let one = own.next.before in let two = before.low in omega (arith, one, two);
}

pub kept_end : (at : CutValue) (s : ℕ) (over : List Over) (cut : ℕ) (base : Option LogUnit) → KeptSo at s over cut → IsBase at cut s base → AreOver at at.cut s over base
kept_end at s over cut base before own = subst (λ (xs : List Over). AreOver at at.cut s xs base) (append-nil over) (before.so [] base own)

-- the units from a place on
pub record LeftSo (at : CutValue) (r : SectorRow) (sets : List ℕ) (wanted cut i : ℕ) : Type 0 where
  pub row : RowSo at r.sector sets wanted cut
  pub over : AreOver at cut r.sector (drop i r.over.items) r.base

pub left_start : (at : CutValue) (r : SectorRow) (sets : List ℕ) (cut : ℕ) → IsRow at r → cut ≡ at.cut → LeftSo at r sets 255 cut 0
left_start at r sets cut is same = record {
  row = subst (λ k. RowSo at r.sector sets 255 k) (sym same) (row_start at r.sector sets);
  over = subst (λ k. AreOver at k r.sector r.over.items r.base) (sym same) is;
}

-- the next of them
pub next_over : (at : CutValue) (s cut : ℕ) (items : List Over) (base : Option LogUnit) (i : ℕ) (o : Over) → AreOver at cut s (drop i items) base → slice_get items i ≡ Some o
    → IsOver at cut s o × AreOver at o.unit.entry s (drop (i + 1) items) base
next_over at s cut items base i o are there =
    let within = slice_get_within items i o there in
    let more : drop i items ≡ o ∷ drop (i + 1) items =
    drop-cons items i o within ∙ ap (λ t. t ∷ drop (Rattle.std.proofs.Common.suc i) items) (get_or_from_slice_get items i o o there) ∙ ap (λ n. o ∷ drop n items) (sym (add-one i)) in
    subst (λ (xs : List Over). AreOver at cut s xs base) more are

-- those of the wanted pieces that matter
wanted_left : (wanted own pieces : ℕ) (test : ℕ → Bool) → ((i : ℕ) → has pieces i ≡ (has wanted i && has own i)) → pieces_in own ≡ filter test (range_with_len 0 8)
    → pieces_in pieces ≡ filter test (pieces_in wanted)
unfolding pieces_in numbers_in
wanted_left wanted own pieces test both is =
    same_kept (has pieces) (λ i. has own i && has wanted i) 0 8 (λ i low high. both i ∙ turned (has wanted i) (has own i))
    ∙ sym (kept_twice (has own) (has wanted) (range_with_len 0 8))
    ∙ ap (filter (has wanted)) is
    ∙ kept_turned test (has wanted) (range_with_len 0 8)
  where
    turned : (a b : Bool) → (a && b) ≡ (b && a)
    turned true true = refl
    turned true false = refl
    turned false true = refl
    turned false false = refl

pub over_unit : (at : CutValue) (s : ℕ) (sets : List ℕ) (wanted cut pieces : ℕ) (o : Over) → IsOver at cut s o → Apart (parts_of at) → length sets ≡ length (parts_of at)
    → ((i : ℕ) → has pieces i ≡ (has wanted i && has o.pieces i)) → UnitSo at s sets wanted cut o.unit o.part pieces
over_unit at s sets wanted cut pieces o own apart long both =
    let within = slice_get_within (parts_of at) o.part _ own.there in
    record {
      next = own.next;
      risk = own.risk;
      apart = apart;
      there = own.there;
      within = omega (arith, within, long);
      left = wanted_left wanted o.pieces pieces (matters at.log at.cut o.unit.sector o.unit (row at.log.entries o.unit.entry o.unit.sector)) both own.pieces;
    }

beyond_flush : (at : CutValue) (u : LogUnit) → at.cut ≤ length at.log.entries → is_at_risk at.log.entries at.cut u.entry ≡ true → last_flush at.log.entries at.cut ≤ u.entry
beyond_flush at u le risk = elim (cases_lt u.entry (last_flush at.log.entries at.cut)) [
  | inl less ↦ absurd (let bad : true ≡ false = sym risk ∙ flushed at.log.entries at.cut u.entry le less in cc)
  | inr more ↦ omega (arith, more)
]

-- it splits the case
pub over_found : (at : CutValue) (r : SectorRow) (sets : List ℕ) (wanted cut i pieces set : ℕ) (part : Part) (o : Over) (it : Parted) → at.cut ≤ length at.log.entries → length sets ≡ length (parts_of at)
    → Apart (parts_of at) → LeftSo at r sets wanted cut i → slice_get r.over.items i ≡ Some o → ((j : ℕ) → has pieces j ≡ (has wanted j && has o.pieces j))
    → slice_get (parts_of at) o.part ≡ Some part → set ≡ slice_index_or sets o.part 0
    → (map fates_in it.groups.items ≡ kinds (show_alike part o.unit (pieces_in pieces)) (fates_in set)) × (1 < length it.groups.items) → it.part ≡ o.part
    → (tears : Bool) → (it.part < length (parts_of at))
    × (split_in_row at.log at.way at.cut r.sector (case_of tears (parts_of at) sets) (row at.log.entries at.cut r.sector) (range_with_len 0 8) ≡ Some (split_by (parts_of at) it))
over_found at r sets wanted cut i pieces set part o it le long apart before there both own held groups same =
    let next = next_over at r.sector cut r.over.items r.base i o before.over there in
    let one : part ≡ part_with at.way at.log.entries o.unit = Rattle.std.proofs.lemmas.Option.same_Some part _ (sym own ∙ next.0.there) in
    row_found at r.sector sets wanted cut o.unit o.part pieces set part it long before.row (over_unit at r.sector sets wanted cut pieces o next.0 apart long both) one held groups.0 groups.1 same

-- it doesn't, and the row goes on
pub over_passed : (at : CutValue) (r : SectorRow) (sets : List ℕ) (wanted cut i pieces set more : ℕ) (part : Part) (o : Over) → at.cut ≤ length at.log.entries → length sets ≡ length (parts_of at)
    → Apart (parts_of at) → LeftSo at r sets wanted cut i → slice_get r.over.items i ≡ Some o → ((j : ℕ) → has pieces j ≡ (has wanted j && has o.pieces j))
    → slice_get (parts_of at) o.part ≡ Some part → set ≡ slice_index_or sets o.part 0
    → nat_lt 1 (length (firsts (show_alike part o.unit (pieces_in pieces)) (fates_in set))) ≡ false
    → pieces_in more ≡ filter (λ j. not (shows (slice_index_or (fates_in set) 0 None) part o.unit j)) (pieces_in pieces)
    → LeftSo at r sets more o.unit.entry (i + 1)
over_passed at r sets wanted cut i pieces set more part o le long apart before there both own held few hidden =
    let next = next_over at r.sector cut r.over.items r.base i o before.over there in
    let one : part ≡ part_with at.way at.log.entries o.unit = Rattle.std.proofs.lemmas.Option.same_Some part _ (sym own ∙ next.0.there) in
    record {
      row =
          row_left at r.sector sets wanted cut o.unit o.part pieces set more part before.row (over_unit at r.sector sets wanted cut pieces o next.0 apart long both) one held few hidden
          (beyond_flush at o.unit le next.0.risk);
      over = next.1;
    }

-- no unit more
pub over_none : (at : CutValue) (r : SectorRow) (sets : List ℕ) (wanted cut i : ℕ) → LeftSo at r sets wanted cut i → length r.over.items ≤ i
    → (tears : Bool) → split_in_row at.log at.way at.cut r.sector (case_of tears (parts_of at) sets) (row at.log.entries at.cut r.sector) (range_with_len 0 8) ≡ None
over_none at r sets wanted cut i before past tears =
    by_base r.base (subst (λ (xs : List Over). AreOver at cut r.sector xs r.base) (drop_all i r.over.items past) before.over)
  where
    by_base : (base : Option LogUnit) → IsBase at cut r.sector base
        → split_in_row at.log at.way at.cut r.sector (case_of tears (parts_of at) sets) (row at.log.entries at.cut r.sector) (range_with_len 0 8) ≡ None
    by_base None none = before.row.so tears ∙ ap (λ us. split_in_row at.log at.way at.cut r.sector (case_of tears (parts_of at) sets) us (pieces_in wanted)) none
    by_base (Some u) is = row_durable at r.sector sets wanted cut u before.row is.0 is.1 tears

-- the same of what the sector holds
pub record HeldSo (at : CutValue) (r : SectorRow) (sets : List ℕ) (cut i : ℕ) : Type 0 where
  pub below : FromBelow at r.sector sets cut
  pub over : AreOver at cut r.sector (drop i r.over.items) r.base

pub held_start : (at : CutValue) (r : SectorRow) (sets : List ℕ) (cut : ℕ) → IsRow at r → cut ≡ at.cut → HeldSo at r sets cut 0
held_start at r sets cut is same = record {
  below = below_start at r.sector sets cut same;
  over = subst (λ k. AreOver at k r.sector r.over.items r.base) (sym same) is;
}

pub held_next : (at : CutValue) (r : SectorRow) (sets : List ℕ) (cut i : ℕ) (o : Over) → HeldSo at r sets cut i → slice_get r.over.items i ≡ Some o → IsOver at cut r.sector o
held_next at r sets cut i o before there = (next_over at r.sector cut r.over.items r.base i o before.over there).0

pub held_gone : (at : CutValue) (r : SectorRow) (sets : List ℕ) (cut i : ℕ) (o : Over) → at.cut ≤ length at.log.entries → HeldSo at r sets cut i → slice_get r.over.items i ≡ Some o
    → LeavesEach at sets o.unit false → HeldSo at r sets o.unit.entry (i + 1)
held_gone at r sets cut i o le before there none =
    let next = next_over at r.sector cut r.over.items r.base i o before.over there in
    record { below = below_gone at r.sector sets cut o.unit le before.below next.0.next none; over = next.1 }

pub held_whole : (at : CutValue) (r : SectorRow) (sets : List ℕ) (cut i : ℕ) (o : Over) (content : List ℕ) → at.cut ≤ length at.log.entries → r.sector < at.log.sectors
    → HeldSo at r sets cut i → slice_get r.over.items i ≡ Some o → LeavesEach at sets o.unit true → content ≡ unit_content at.log.entries o.unit → length content ≡ 512
    → (tears : Bool) → slice_get (image_of at (case_of tears (parts_of at) sets)) r.sector ≡ Some content
held_whole at r sets cut i o content le on before there all own long =
    let next = next_over at r.sector cut r.over.items r.base i o before.over there in
    below_whole at r.sector sets cut o.unit content le on before.below next.0.next all own long

-- what of a unit reaches the device
pub over_reach : (at : CutValue) (sets : List ℕ) (k s n : ℕ) (o : Over) (reach : UnitReach) → IsOver at k s o → Apart (parts_of at) → length sets ≡ length (parts_of at)
    → reach ≡ reach_with (fate_at n) → fate_at n ≡ slice_index_or (fates_in (slice_index_or sets o.part 0)) 0 None → ReachesSo at sets o.unit reach
over_reach at sets k s n o reach own apart long is first =
    let within = slice_get_within (parts_of at) o.part _ own.there in
    subst (λ (r : UnitReach). ReachesSo at sets o.unit r) (sym (is ∙ ap reach_with first)) (reached at sets o.unit o.part _ own.next.unit own.risk apart own.there (omega (arith, within, long)) refl)

-- what is below them
pub held_base : (at : CutValue) (r : SectorRow) (sets : List ℕ) (cut i : ℕ) → HeldSo at r sets cut i → length r.over.items ≤ i → IsBase at cut r.sector r.base
held_base at r sets cut i before past = subst (λ (xs : List Over). AreOver at cut r.sector xs r.base) (drop_all i r.over.items past) before.over

pub base_unit : (at : CutValue) (k s : ℕ) (base : Option LogUnit) (u : LogUnit) → IsBase at k s base → base ≡ Some u → IsNext at.log k s u × (is_at_risk at.log.entries at.cut u.entry ≡ false)
base_unit at k s base u own is = subst (IsBase at k s) is own

pub base_none : (at : CutValue) (k s : ℕ) (base : Option LogUnit) → IsBase at k s base → base ≡ None → row at.log.entries k s ≡ []
base_none at k s base own is = subst (IsBase at k s) is own

pub held_unit : (at : CutValue) (r : SectorRow) (sets : List ℕ) (cut i : ℕ) (u : LogUnit) (content : List ℕ) → at.cut ≤ length at.log.entries → r.sector < at.log.sectors
    → HeldSo at r sets cut i → IsNext at.log cut r.sector u × (is_at_risk at.log.entries at.cut u.entry ≡ false) → content ≡ unit_content at.log.entries u → length content ≡ 512
    → (tears : Bool) → slice_get (image_of at (case_of tears (parts_of at) sets)) r.sector ≡ Some content
held_unit at r sets cut i u content le on before next own long =
    below_whole at r.sector sets cut u content le on before.below next.0 (whole_unit at sets u next.1) own long

pub held_none : (at : CutValue) (r : SectorRow) (sets : List ℕ) (cut i : ℕ) (held : List ℕ) → r.sector < at.log.sectors → HeldSo at r sets cut i → row at.log.entries cut r.sector ≡ []
    → held ≡ initial_sector at.log.initial r.sector → (tears : Bool) → slice_get (image_of at (case_of tears (parts_of at) sets)) r.sector ≡ Some held
held_none at r sets cut i held on before none own = below_none at r.sector sets cut held before.below on own 255 refl (inr none)

pub no_pieces : (A : Type 0) → (◌≡◌ {A = ℕ} 255 0) ⊎ A → A
no_pieces A (inl bad) = absurd (omega (arith, bad))
no_pieces A (inr is) = is

-- a row among those that are kept
pub among_rows : (at : CutValue) (rows : List SectorRow) (place : ℕ) (r : SectorRow) → AreRows at rows → slice_get rows place ≡ Some r → IsRow at r
among_rows at rows place r all there =
    subst (IsRow at) (get_or_from_slice_get rows place r r there) (All-get_or (IsRow at) rows place r (slice_get_within rows place r there) all)

-- a unit whose part is torn
pub held_torn : (at : CutValue) (r : SectorRow) (sets : List ℕ) (cut i : ℕ) (o : Over) → HeldSo at r sets cut i → slice_get r.over.items i ≡ Some o
    → (part : ℕ) × IsTornOver at sets o.unit.sector part → (part : ℕ) × IsTornOver at sets r.sector part
held_torn at r sets cut i o before there torn =
    let next = next_over at r.sector cut r.over.items r.base i o before.over there in
    (torn.0, subst (λ s. IsTornOver at sets s torn.0) next.0.next.over torn.1)

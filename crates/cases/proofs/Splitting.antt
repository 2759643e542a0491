-- The first part of a row, and of some sectors, that splits a case.
use Rattle.std.proofs.Common.{ℕ, suc, ◌≡◌, ◌+◌, ◌<◌, ◌≤◌, nat_lt, Bool, true, false, not, if◌then◌else◌, List, [], ◌∷◌, length, map, filter, drop, slice_get, slice_index_or, Option, None, Some, refl, sym, ◌∙◌, ap, arith, add-one, inl}
use Rattle.std.specs.List.{range_with_len}
use Rattle.std.proofs.lemmas.Bool.Decides.{nat_tests}
use Rattle.std.proofs.lemmas.List.{length-map, drop_all}
use Rattle.std.proofs.Math.Seq.{drop-cons}
use Rattle.std.proofs.lemmas.Option.{get_or_from_slice_get, MatchOption-at_some, MatchOption-at_none}
use Rattle.logfmt.specs.Bounds.{LogValue}
use Rattle.epochs.specs.declared.unit.Unit.{Unit as LogUnit}
use Rattle.epochs.specs.declared.part.Part.{Part}
use Rattle.epochs.specs.declared.part.By.{By}
use Rattle.choices.specs.declared.fate.Fate.{Fate}
use Rattle.choices.specs.Choices.{nowhere}
use Rattle.cases.specs.declared.split.Parted.{Parted}
use Rattle.cases.specs.Risk.{is_at_risk}
use Rattle.cases.specs.Rows.{row, part_with, shows}
use Rattle.cases.specs.Cases.{Case, Split, show_alike, firsts, kinds, matters, split_or, split_in_row, first_split, or_else}
use Rattle.cases.specs.Sets.{fates_in, pieces_in, numbers_in}
use Rattle.cases.specs.AtCut.{CutValue, parts_of, Apart, case_of, split_by, IsFound}
use Rattle.cases.specs.Table.{IsNext}
use Rattle.epochs.specs.Laws.{last_flush}
use Rattle.epochs.proofs.Runs.{last_flush_le}
use Rattle.cases.specs.Laws.{IsAmong}
use Rattle.cases.proofs.AtRisk.{flushed}
use Rattle.cases.proofs.Rows.{unit_before, row_units}
use Rattle.cases.proofs.Chosen.{case_there}

-- of no pieces no part tells anything

pub one_kind : (alike : Option Fate → Option Fate → Bool) (fates : List (Option Fate)) → ((f g : Option Fate) → alike f g ≡ true) → nat_lt 1 (length (firsts alike fates)) ≡ false
one_kind alike [] all = refl
one_kind alike (f ∷ fs) all = ap (λ (gs : List (Option Fate)). nat_lt 1 (suc (length gs))) (gone (firsts alike fs))
  where
    gone : (gs : List (Option Fate)) → filter (λ g. not (alike f g)) gs ≡ []
    gone [] = refl
    gone (g ∷ gs) = ap (λ b. if not b then g ∷ filter (λ h. not (alike f h)) gs else filter (λ h. not (alike f h)) gs) (all f g) ∙ gone gs

pub none_wanted : (log : LogValue) (way : By) (k s : ℕ) (c : Case) (us : List LogUnit) → split_in_row log way k s c us [] ≡ None
none_wanted log way k s c [] = refl
none_wanted log way k s c (u ∷ below) = by_risk (none_wanted log way k s c below) (is_at_risk log.entries k u.entry)
  where
    p : Part
    p = part_with way log.entries u

    by_risk : split_in_row log way k s c below [] ≡ None → (b : Bool) → (if b then split_or (split_in_row log way k s c below) p u [] (c p) else None) ≡ None
    by_risk rest true =
        ap (λ b. if b then Some (record { part = p; groups = kinds (show_alike p u []) (c p) }) else split_in_row log way k s c below []) (one_kind (show_alike p u []) (c p) (λ f g. refl))
        ∙ rest
    by_risk rest false = refl

pub pieces_none : pieces_in 0 ≡ []
unfolding pieces_in numbers_in
pieces_none = refl

pub pieces_all : pieces_in 255 ≡ range_with_len 0 8
unfolding pieces_in numbers_in
pieces_all = refl

-- a part, by what it shows

pub parted : (below : List ℕ → Option Split) (p : Part) (u : LogUnit) (pieces : List ℕ) (fates : List (Option Fate)) (groups : List ℕ)
    → map fates_in groups ≡ kinds (show_alike p u pieces) fates → 1 < length groups → split_or below p u pieces fates ≡ Some (record { part = p; groups = map fates_in groups })
parted below p u pieces fates groups is many =
    let alike = show_alike p u pieces in
    let long : length groups ≡ length (firsts alike fates) = sym (length-map groups fates_in) ∙ ap (λ (gs : List (List (Option Fate))). length gs) is ∙ length-map (firsts alike fates) (λ x. filter (alike x) fates) in
    let two : nat_lt 1 (length (firsts alike fates)) ≡ true = grind (arith, nat_tests, long, many) in
    ap (λ b. if b then Some (record { part = p; groups = kinds alike fates }) else below (filter (λ i. not (shows (slice_index_or fates 0 None) p u i)) pieces)) two
    ∙ ap (λ gs. Some (record { part = p; groups = gs })) (sym is)

-- of few groups it tells nothing
pub few_kinds : (alike : Option Fate → Option Fate → Bool) (fates : List (Option Fate)) (groups : List ℕ) → map fates_in groups ≡ kinds alike fates → length groups ≤ 1
    → nat_lt 1 (length (firsts alike fates)) ≡ false
few_kinds alike fates groups is few =
    let long : length groups ≡ length (firsts alike fates) = sym (length-map groups fates_in) ∙ ap (λ (gs : List (List (Option Fate))). length gs) is ∙ length-map (firsts alike fates) (λ x. filter (alike x) fates) in
    grind (arith, nat_tests, long, few)

-- the row of a sector from a cut down, so far

pub record RowSo (at : CutValue) (s : ℕ) (sets : List ℕ) (wanted cut : ℕ) : Type 0 where
  pub so : (tears : Bool)
      → split_in_row at.log at.way at.cut s (case_of tears (parts_of at) sets) (row at.log.entries at.cut s) (range_with_len 0 8)
      ≡ split_in_row at.log at.way at.cut s (case_of tears (parts_of at) sets) (row at.log.entries cut s) (pieces_in wanted)
  pub low : cut ≤ at.cut
  pub high : last_flush at.log.entries at.cut ≤ cut

pub row_start : (at : CutValue) (s : ℕ) (sets : List ℕ) → RowSo at s sets 255 at.cut
row_start at s sets = record {
  so = λ tears. ap (split_in_row at.log at.way at.cut s (case_of tears (parts_of at) sets) (row at.log.entries at.cut s)) (sym pieces_all);
  low = omega arith;
  high = last_flush_le at.log.entries at.cut;
}

-- what stands before the last flush entry isn't at risk
flushed_row : (log : LogValue) (way : By) (k s : ℕ) (c : Case) (us : List LogUnit) (wanted : List ℕ) → k ≤ length log.entries
    → ((u : LogUnit) → IsAmong us u → u.entry < last_flush log.entries k) → split_in_row log way k s c us wanted ≡ None
flushed_row log way k s c [] wanted le all = refl
flushed_row log way k s c (u ∷ below) wanted le all =
    let p : Part = part_with way log.entries u in
    ap (λ b. if b then split_or (split_in_row log way k s c below) p u (filter (matters log k s u below) wanted) (c p) else None) (flushed log.entries k u.entry le (all u (inl refl)))

pub row_flushed : (at : CutValue) (s : ℕ) (sets : List ℕ) (wanted cut : ℕ) → RowSo at s sets wanted cut → at.cut ≤ length at.log.entries
    → row at.log.entries cut s ≡ row at.log.entries (last_flush at.log.entries at.cut) s
    → (tears : Bool) → split_in_row at.log at.way at.cut s (case_of tears (parts_of at) sets) (row at.log.entries at.cut s) (range_with_len 0 8) ≡ None
row_flushed at s sets wanted cut before le none tears =
    let c : Case = case_of tears (parts_of at) sets in
    let m : ℕ = last_flush at.log.entries at.cut in
    let low = last_flush_le at.log.entries at.cut in
    before.so tears
    ∙ ap (λ us. split_in_row at.log at.way at.cut s c us (pieces_in wanted)) none
    ∙ flushed_row at.log at.way at.cut s c (row at.log.entries m s) (pieces_in wanted) le
    (λ u among.
    let was = unit_before at.log.entries m u (omega (arith, low, le)) (row_units at.log.entries m s u among) in
    let entry : was.entry ≡ u.entry = ap (λ (v : LogUnit). v.entry) was.is in
    let less = was.before in
    omega (arith, entry, less))

pub row_shown : (at : CutValue) (s : ℕ) (sets : List ℕ) (wanted cut : ℕ) → RowSo at s sets wanted cut → wanted ≡ 0
    → (tears : Bool) → split_in_row at.log at.way at.cut s (case_of tears (parts_of at) sets) (row at.log.entries at.cut s) (range_with_len 0 8) ≡ None
row_shown at s sets wanted cut before none tears =
    before.so tears
    ∙ ap (split_in_row at.log at.way at.cut s (case_of tears (parts_of at) sets) (row at.log.entries cut s)) (ap pieces_in none ∙ pieces_none)
    ∙ none_wanted at.log at.way at.cut s (case_of tears (parts_of at) sets) (row at.log.entries cut s)

pub row_durable : (at : CutValue) (s : ℕ) (sets : List ℕ) (wanted cut : ℕ) (u : LogUnit) → RowSo at s sets wanted cut → IsNext at.log cut s u
    → is_at_risk at.log.entries at.cut u.entry ≡ false
    → (tears : Bool) → split_in_row at.log at.way at.cut s (case_of tears (parts_of at) sets) (row at.log.entries at.cut s) (range_with_len 0 8) ≡ None
row_durable at s sets wanted cut u before next risk tears =
    let c : Case = case_of tears (parts_of at) sets in
    let p : Part = part_with at.way at.log.entries u in
    before.so tears
    ∙ ap (λ us. split_in_row at.log at.way at.cut s c us (pieces_in wanted)) next.rest
    ∙ ap (λ b. if b then split_or (split_in_row at.log at.way at.cut s c (row at.log.entries u.entry s)) p u (filter (matters at.log at.cut s u (row at.log.entries u.entry s)) (pieces_in wanted)) (c p) else None) risk

-- a unit at risk of the row: the number of its part, and those of the wanted pieces that matter
pub record UnitSo (at : CutValue) (s : ℕ) (sets : List ℕ) (wanted cut : ℕ) (u : LogUnit) (number pieces : ℕ) : Type 0 where
  pub next : IsNext at.log cut s u
  pub risk : is_at_risk at.log.entries at.cut u.entry ≡ true
  pub apart : Apart (parts_of at)
  pub there : slice_get (parts_of at) number ≡ Some (part_with at.way at.log.entries u)
  pub within : number < length sets
  pub left : pieces_in pieces ≡ filter (matters at.log at.cut u.sector u (row at.log.entries u.entry u.sector)) (pieces_in wanted)

row_unit : (at : CutValue) (s : ℕ) (sets : List ℕ) (wanted cut : ℕ) (u : LogUnit) (number pieces : ℕ) → RowSo at s sets wanted cut → UnitSo at s sets wanted cut u number pieces → (tears : Bool)
    → split_in_row at.log at.way at.cut s (case_of tears (parts_of at) sets) (row at.log.entries at.cut s) (range_with_len 0 8)
    ≡ split_or (split_in_row at.log at.way at.cut s (case_of tears (parts_of at) sets) (row at.log.entries u.entry s)) (part_with at.way at.log.entries u) u (pieces_in pieces)
    (fates_in (slice_index_or sets number 0))
row_unit at s sets wanted cut u number pieces before unit tears =
    let c : Case = case_of tears (parts_of at) sets in
    let p : Part = part_with at.way at.log.entries u in
    let own : c p ≡ fates_in (slice_index_or sets number 0) = case_there tears (parts_of at) sets number p unit.apart unit.there unit.within in
    let left : filter (matters at.log at.cut s u (row at.log.entries u.entry s)) (pieces_in wanted) ≡ pieces_in pieces =
    ap (λ t. filter (matters at.log at.cut t u (row at.log.entries u.entry t)) (pieces_in wanted)) (sym unit.next.over) ∙ sym unit.left in
    before.so tears
    ∙ ap (λ us. split_in_row at.log at.way at.cut s c us (pieces_in wanted)) unit.next.rest
    ∙ ap (λ b. if b then split_or (split_in_row at.log at.way at.cut s c (row at.log.entries u.entry s)) p u (filter (matters at.log at.cut s u (row at.log.entries u.entry s)) (pieces_in wanted)) (c p) else None) unit.risk
    ∙ (λ i. split_or (split_in_row at.log at.way at.cut s c (row at.log.entries u.entry s)) p u (left i) (own i))

-- it splits the case
pub row_found : (at : CutValue) (s : ℕ) (sets : List ℕ) (wanted cut : ℕ) (u : LogUnit) (number pieces set : ℕ) (part : Part) (it : Parted) → length sets ≡ length (parts_of at)
    → RowSo at s sets wanted cut → UnitSo at s sets wanted cut u number pieces → part ≡ part_with at.way at.log.entries u → set ≡ slice_index_or sets number 0
    → map fates_in it.groups.items ≡ kinds (show_alike part u (pieces_in pieces)) (fates_in set) → 1 < length it.groups.items → it.part ≡ number
    → (tears : Bool) → (it.part < length (parts_of at))
    × (split_in_row at.log at.way at.cut s (case_of tears (parts_of at) sets) (row at.log.entries at.cut s) (range_with_len 0 8) ≡ Some (split_by (parts_of at) it))
row_found at s sets wanted cut u number pieces set part it long before unit own held groups many same tears =
    let p : Part = part_with at.way at.log.entries u in
    let within = unit.within in
    let one : p ≡ slice_index_or (parts_of at) it.part nowhere = sym (get_or_from_slice_get (parts_of at) number p nowhere unit.there) ∙ ap (λ n. slice_index_or (parts_of at) n nowhere) (sym same) in
    let are : map fates_in it.groups.items ≡ kinds (show_alike p u (pieces_in pieces)) (fates_in (slice_index_or sets number 0)) =
    groups ∙ (λ i. kinds (show_alike (own i) u (pieces_in pieces)) (fates_in (held i))) in (
      omega (arith, within, long, same),
      row_unit at s sets wanted cut u number pieces before unit tears
          ∙ parted (split_in_row at.log at.way at.cut s (case_of tears (parts_of at) sets) (row at.log.entries u.entry s)) p u (pieces_in pieces) (fates_in (slice_index_or sets number 0)) it.groups.items are many
          ∙ ap (λ (q : Part). Some (record { part = q; groups = map fates_in it.groups.items })) one,
    )

-- it doesn't, and the row goes on
pub row_left : (at : CutValue) (s : ℕ) (sets : List ℕ) (wanted cut : ℕ) (u : LogUnit) (number pieces set next : ℕ) (part : Part)
    → RowSo at s sets wanted cut → UnitSo at s sets wanted cut u number pieces → part ≡ part_with at.way at.log.entries u → set ≡ slice_index_or sets number 0
    → nat_lt 1 (length (firsts (show_alike part u (pieces_in pieces)) (fates_in set))) ≡ false
    → pieces_in next ≡ filter (λ i. not (shows (slice_index_or (fates_in set) 0 None) part u i)) (pieces_in pieces)
    → last_flush at.log.entries at.cut ≤ u.entry → RowSo at s sets next u.entry
row_left at s sets wanted cut u number pieces set next part before unit own held few hidden beyond =
    let p : Part = part_with at.way at.log.entries u in
    let fates : List (Option Fate) = fates_in (slice_index_or sets number 0) in
    let one : nat_lt 1 (length (firsts (show_alike p u (pieces_in pieces)) fates)) ≡ false =
    sym (λ i. nat_lt 1 (length (firsts (show_alike (own i) u (pieces_in pieces)) (fates_in (held i))))) ∙ few in
    let left : filter (λ i. not (shows (slice_index_or fates 0 None) p u i)) (pieces_in pieces) ≡ pieces_in next =
    sym (hidden ∙ (λ j. filter (λ i. not (shows (slice_index_or (fates_in (held j)) 0 None) (own j) u i)) (pieces_in pieces))) in
    record {
      so = λ tears.
          row_unit at s sets wanted cut u number pieces before unit tears
          ∙ ap (λ b. if b then Some (record { part = p; groups = kinds (show_alike p u (pieces_in pieces)) fates })
          else split_in_row at.log at.way at.cut s (case_of tears (parts_of at) sets) (row at.log.entries u.entry s) (filter (λ i. not (shows (slice_index_or fates 0 None) p u i)) (pieces_in pieces))) one
          ∙ ap (split_in_row at.log at.way at.cut s (case_of tears (parts_of at) sets) (row at.log.entries u.entry s)) left;
      low = let one = unit.next.before in let two = before.low in omega (arith, one, two);
      high = beyond;
    }

pub row_passed : (at : CutValue) (s : ℕ) (sets : List ℕ) (wanted cut : ℕ) (u : LogUnit) (number pieces set next : ℕ) (part : Part) (groups : List ℕ)
    → RowSo at s sets wanted cut → UnitSo at s sets wanted cut u number pieces → part ≡ part_with at.way at.log.entries u → set ≡ slice_index_or sets number 0
    → map fates_in groups ≡ kinds (show_alike part u (pieces_in pieces)) (fates_in set) → length groups ≤ 1
    → pieces_in next ≡ filter (λ i. not (shows (slice_index_or (fates_in set) 0 None) part u i)) (pieces_in pieces)
    → last_flush at.log.entries at.cut ≤ u.entry → RowSo at s sets next u.entry
row_passed at s sets wanted cut u number pieces set next part groups before unit own held are few hidden beyond =
    row_left at s sets wanted cut u number pieces set next part before unit own held (few_kinds (show_alike part u (pieces_in pieces)) (fates_in set) groups are few) hidden beyond

-- of some sectors, one after the other

pub sectors_next : (at : CutValue) (c : Case) (sectors : List ℕ) (i s : ℕ) (o : Option Split) → i < length sectors → s ≡ slice_index_or sectors i 0
    → split_in_row at.log at.way at.cut s c (row at.log.entries at.cut s) (range_with_len 0 8) ≡ o
    → first_split at.log at.way at.cut c (drop i sectors) ≡ or_else o (first_split at.log at.way at.cut c (drop (i + 1) sectors))
sectors_next at c sectors i s o within read is =
    let more : drop i sectors ≡ s ∷ drop (i + 1) sectors =
    drop-cons sectors i 0 within ∙ ap (λ t. t ∷ drop (suc i) sectors) (sym read) ∙ ap (λ n. s ∷ drop n sectors) (sym (add-one i)) in
    ap (first_split at.log at.way at.cut c) more
    ∙ ap (λ x. or_else x (first_split at.log at.way at.cut c (drop (i + 1) sectors))) is

pub sectors_end : (at : CutValue) (c : Case) (sectors : List ℕ) (i : ℕ) → length sectors ≤ i → first_split at.log at.way at.cut c (drop i sectors) ≡ None
sectors_end at c sectors i past = ap (first_split at.log at.way at.cut c) (drop_all i sectors past)

-- what was found of a split

pub found_there : (parts : List Part) (split : Option Split) (found : Option Parted) (it : Parted) → found ≡ Some it → IsFound parts found split
    → (it.part < length parts) × (split ≡ Some (split_by parts it))
found_there parts split found it is told = MatchOption-at_some (split ≡ None) (λ (x : Parted). (x.part < length parts) × (split ≡ Some (split_by parts x))) it is told

pub found_not : (parts : List Part) (split : Option Split) (found : Option Parted) → found ≡ None → IsFound parts found split → split ≡ None
found_not parts split found is told = MatchOption-at_none (split ≡ None) (λ (x : Parted). (x.part < length parts) × (split ≡ Some (split_by parts x))) is told

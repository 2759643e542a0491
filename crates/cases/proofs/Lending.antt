-- Sectors of the image of a case's representative that are those of a unit.
use Rattle.std.proofs.lemmas.Bool.Decides.{nat_tests}
use Rattle.std.proofs.Common.{nat_lt, ℕ, zero, suc, ◌≡◌, ◌+◌, ◌-◌, ◌/◌, ◌<◌, ◌≤◌, ◌⊎◌, Bool, true, false, not, ◌&&◌, if◌then◌else◌, List, [], length, slice_get, slice_index, slice_index_or, Option, None, Some, refl, sym, subst, ◌∙◌, ap, arith, inl}
use Rattle.std.specs.Option.{option_map_or}
use Rattle.logfmt.specs.declared.entry.Entry.{Entry}
use Rattle.logfmt.specs.Bounds.{LogValue}
use Rattle.logfmt.specs.Initial.{initial_sector}
use Rattle.epochs.specs.declared.unit.Unit.{Unit as LogUnit}
use Rattle.epochs.specs.declared.part.Part.{Part}
use Rattle.epochs.specs.declared.part.By.{By}
use Rattle.epochs.specs.declared.part.By.TheVariants as by
use Rattle.epochs.specs.Units.{unit_content}
use Rattle.epochs.specs.Plan.{IsUnit}
use Rattle.choices.specs.declared.fate.Fate.{Fate}
use Rattle.choices.specs.declared.fate.Fate.TheVariants as fate
use Rattle.cases.specs.Risk.{is_at_risk}
use Rattle.cases.specs.Rows.{row, part_with, shows}
use Rattle.cases.specs.Cases.{Case, representative}
use Rattle.cases.specs.Trees.{is_torn}
use Rattle.cases.specs.Sets.{has, fate_at, fates_in}
use Rattle.cases.specs.AtCut.{CutValue, parts_of, Apart, case_of, image_of}
use Rattle.cases.specs.Table.{leaves_piece, IsNext}
use Rattle.cases.specs.declared.lend.UnitReach.TheVariants as reach
use Rattle.cases.specs.Lent.{reach_with, LeavesEach, ReachesSo}
use Rattle.cases.proofs.Numbered.{none_has}
use Rattle.cases.proofs.Chosen.{case_there}
use Rattle.cases.proofs.Rows.{initial_long}
use Rattle.cases.proofs.Forming.{FormSo, form_more, form_start, form_end, all_wanted}

-- what a unit at risk leaves, by the first fate of its part
leaves_told : (at : CutValue) (tears : Bool) (sets : List ℕ) (u : LogUnit) (number i : ℕ) → is_at_risk at.log.entries at.cut u.entry ≡ true
    → Apart (parts_of at) → slice_get (parts_of at) number ≡ Some (part_with at.way at.log.entries u) → number < length sets
    → leaves_piece at (case_of tears (parts_of at) sets) u i ≡ shows (slice_index_or (fates_in (slice_index_or sets number 0)) 0 None) (part_with at.way at.log.entries u) u i
leaves_told at tears sets u number i risk apart there within =
    let c : Case = case_of tears (parts_of at) sets in
    let p : Part = part_with at.way at.log.entries u in
    let case_is : c p ≡ fates_in (slice_index_or sets number 0) = case_there tears (parts_of at) sets number p apart there within in
    ap (λ b. if b then shows (representative c p) p u i else true) risk
    ∙ ap (λ (fs : List (Option Fate)). shows (slice_index_or fs 0 None) p u i) case_is

-- a unit stands in its part
unit_within : (log : LogValue) (way : By) (u : LogUnit) → IsUnit log u
    → ((part_with way log.entries u).sector ≤ u.sector) × (u.sector < (part_with way log.entries u).sector + (part_with way log.entries u).count)
unit_within log by.Sector u is = (omega arith, omega arith)
unit_within log by.Write u is =
    let x : Entry = is.entry in
    let first : option_map_or (λ (entry : Entry). entry.sector) (slice_get log.entries u.entry) 0 ≡ x.sector = ap (λ (o : Option Entry). option_map_or (λ (entry : Entry). entry.sector) o 0) is.there in
    let many : option_map_or (λ (entry : Entry). entry.count) (slice_get log.entries u.entry) 0 ≡ x.count = ap (λ (o : Option Entry). option_map_or (λ (entry : Entry). entry.count) o 0) is.there in
    let place = is.place in
    let sector = is.sector in
    (omega (arith, first, sector), omega (arith, first, many, place, sector))

pub reached : (at : CutValue) (sets : List ℕ) (u : LogUnit) (number : ℕ) (o : Option Fate) → IsUnit at.log u → is_at_risk at.log.entries at.cut u.entry ≡ true
    → Apart (parts_of at) → slice_get (parts_of at) number ≡ Some (part_with at.way at.log.entries u) → number < length sets
    → o ≡ slice_index_or (fates_in (slice_index_or sets number 0)) 0 None → ReachesSo at sets u (reach_with o)
reached at sets u number None is risk apart there within own = λ tears i low.
    leaves_told at tears sets u number i risk apart there within ∙ ap (λ (f : Option Fate). shows f (part_with at.way at.log.entries u) u i) (sym own)
reached at sets u number (Some fate.Drop) is risk apart there within own = λ tears i low.
    leaves_told at tears sets u number i risk apart there within ∙ ap (λ (f : Option Fate). shows f (part_with at.way at.log.entries u) u i) (sym own)
reached at sets u number (Some (fate.Head t)) is risk apart there within own =
    let range = unit_within at.log at.way u is in
    (number, record { part = part_with at.way at.log.entries u; there = there; from = range.0; to = range.1; torn = ap is_torn (sym own) })
reached at sets u number (Some (fate.Tail t)) is risk apart there within own =
    let range = unit_within at.log at.way u is in
    (number, record { part = part_with at.way at.log.entries u; there = there; from = range.0; to = range.1; torn = ap is_torn (sym own) })

pub whole_unit : (at : CutValue) (sets : List ℕ) (u : LogUnit) → is_at_risk at.log.entries at.cut u.entry ≡ false → LeavesEach at sets u true
whole_unit at sets u risk tears i low =
    let c : Case = case_of tears (parts_of at) sets in
    let p : Part = part_with at.way at.log.entries u in
    ap (λ b. if b then shows (representative c p) p u i else true) risk

-- the sector is that of what stands below a cut
abbrev pub FromBelow : CutValue → ℕ → List ℕ → ℕ → Type 0
FromBelow at s sets cut = FormSo at s sets 255 cut (initial_sector at.log.initial s)

both_no : (b : Bool) → (b && not b) ≡ false
both_no true = refl
both_no false = refl

and_no : (b : Bool) → (b && false) ≡ false
and_no true = refl
and_no false = refl

and_yes : (b : Bool) → (b && true) ≡ b
and_yes true = refl
and_yes false = refl

-- a unit of which nothing is left
pub below_gone : (at : CutValue) (s : ℕ) (sets : List ℕ) (cut : ℕ) (u : LogUnit) → at.cut ≤ length at.log.entries → FromBelow at s sets cut → IsNext at.log cut s u
    → LeavesEach at sets u false → FromBelow at s sets u.entry
below_gone at s sets cut u le so next none =
    form_more at s sets 255 cut (initial_sector at.log.initial s) u 255 0 (unit_content at.log.entries u) (initial_sector at.log.initial s) le so next refl
    (λ tears i low. sym (ap (λ b. has 255 i && not b) (none tears i low) ∙ and_yes (has 255 i)))
    (λ i low. none_has i ∙ sym (both_no (has 255 i)))
    (λ i low. sym (ap (λ b. if b then slice_index (unit_content at.log.entries u) i else slice_index (initial_sector at.log.initial s) i) (none_has (i / 64))))
    (initial_long at.log s)

-- one that is whole
pub below_whole : (at : CutValue) (s : ℕ) (sets : List ℕ) (cut : ℕ) (u : LogUnit) (content : List ℕ) → at.cut ≤ length at.log.entries → s < at.log.sectors
    → FromBelow at s sets cut → IsNext at.log cut s u → LeavesEach at sets u true → content ≡ unit_content at.log.entries u → length content ≡ 512
    → (tears : Bool) → slice_get (image_of at (case_of tears (parts_of at) sets)) s ≡ Some content
below_whole at s sets cut u content le on so next all own long =
    form_end at s sets 0 u.entry content
    (form_more at s sets 255 cut (initial_sector at.log.initial s) u 0 255 content content le so next own
    (λ tears i low. none_has i ∙ sym (ap (λ b. has 255 i && not b) (all tears i low) ∙ and_no (has 255 i)))
    (λ i low. sym (ap (λ b. has 255 i && not b) (none_has i) ∙ and_yes (has 255 i)))
    (λ i low. sym (ap (λ b. if b then slice_index content i else slice_index (initial_sector at.log.initial s) i) (all_wanted (i / 64) (omega (arith, low)))))
    long)
    on (inl refl)

-- nothing more
pub below_none : (at : CutValue) (s : ℕ) (sets : List ℕ) (cut : ℕ) (held : List ℕ) → FromBelow at s sets cut → s < at.log.sectors → held ≡ initial_sector at.log.initial s
    → (pieces : ℕ) → pieces ≡ 255 → (pieces ≡ 0) ⊎ (row at.log.entries cut s ≡ []) → (tears : Bool) → slice_get (image_of at (case_of tears (parts_of at) sets)) s ≡ Some held
below_none at s sets cut held so on own pieces all ends tears =
    form_end at s sets pieces cut (initial_sector at.log.initial s) (subst (λ m. FormSo at s sets m cut (initial_sector at.log.initial s)) (sym all) so) on ends tears ∙ ap (λ (xs : List ℕ). Some xs) (sym own)

-- before the first unit
pub below_start : (at : CutValue) (s : ℕ) (sets : List ℕ) (cut : ℕ) → cut ≡ at.cut → FromBelow at s sets cut
below_start at s sets cut is = subst (λ n. FromBelow at s sets n) (sym is) (form_start at s sets (initial_sector at.log.initial s) refl)

-- by the number of a fate
pub reach_whole : (n : ℕ) → n ≡ 0 → reach_with (fate_at n) ≡ reach.Whole
reach_whole n is = ap (λ m. reach_with (fate_at m)) is

pub reach_gone : (n : ℕ) → n ≡ 1 → reach_with (fate_at n) ≡ reach.Gone
reach_gone n is = ap (λ m. reach_with (fate_at m)) is

torn_by : {A : Type 0} (f : Option Fate → A) (a : A) (k : ℕ) → ((t : ℕ) → f (Some (fate.Head t)) ≡ a) → ((t : ℕ) → f (Some (fate.Tail t)) ≡ a) → f (fate_at (suc (suc k))) ≡ a
torn_by f a k head tail = by (nat_lt k 7)
  where
    by : (b : Bool) → f (Some (if b then fate.Head (suc k) else fate.Tail (suc k - 7))) ≡ a
    by true = head (suc k)
    by false = tail (suc k - 7)

pub reach_torn : (n : ℕ) → 2 ≤ n → reach_with (fate_at n) ≡ reach.Torn
reach_torn zero low = absurd (omega (arith, low))
reach_torn (suc zero) low = absurd (omega (arith, low))
reach_torn (suc (suc k)) low = torn_by reach_with reach.Torn k (λ t. refl) (λ t. refl)

pub is_torn_number : (n : ℕ) → nat_lt 1 n ≡ is_torn (fate_at n)
is_torn_number zero = refl
is_torn_number (suc zero) = refl
is_torn_number (suc (suc k)) =
    let more : nat_lt 1 (suc (suc k)) ≡ true = grind (arith, nat_tests) in
    more ∙ sym (torn_by is_torn true k (λ t. refl) (λ t. refl))

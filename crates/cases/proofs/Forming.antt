-- The image of a case's representative, sector by sector.
use Rattle.std.proofs.Common.{ℕ, zero, suc, ◌≡◌, ◌≢◌, ◌+◌, ◌-◌, ◌/◌, ◌<◌, ◌≤◌, ◌⊎◌, Bool, true, false, not, ◌&&◌, if◌then◌else◌, List, [], length, set, slice_get, slice_index, slice_index_or, Option, None, Some, MatchOption, refl, sym, subst, ◌∙◌, ap, arith, get_or-set_other, get_or-set_same, inl, inr}
use Rattle.std.proofs.lemmas.Bool.Decides.{eqb_tells}
use Rattle.std.proofs.lemmas.Option.{slice_get_cases}
use Rattle.logfmt.specs.declared.entry.Entry.{Entry}
use Rattle.logfmt.specs.Bounds.{LogValue}
use Rattle.logfmt.specs.Initial.{initial_byte, initial_sector}
use Rattle.epochs.specs.declared.unit.Unit.{Unit as LogUnit}
use Rattle.epochs.specs.declared.part.Part.{Part}
use Rattle.epochs.specs.Units.{units_of_entry, units_before, unit_content}
use Rattle.epochs.proofs.Growth.{units_before-next}
use Rattle.choices.specs.declared.fate.Fate.{Fate}
use Rattle.choices.specs.declared.choice.Departure.{Departure}
use Rattle.images.specs.Images.{survives}
use Rattle.images.proofs.Sectors.{device_there}
use Rattle.cases.specs.Risk.{is_at_risk, parts_at_risk}
use Rattle.cases.specs.Choices.{departures}
use Rattle.cases.specs.Rows.{row, part_with, shows}
use Rattle.cases.specs.Cases.{Case, representative}
use Rattle.cases.specs.Sets.{has, fates_in}
use Rattle.cases.specs.Laws.{IsAmong}
use Rattle.cases.specs.AtCut.{CutValue, parts_of, Apart, case_of, image_of}
use Rattle.cases.specs.Table.{leaves_piece, IsNext}
use Rattle.cases.proofs.Numbered.{none_has}
use Rattle.cases.proofs.Below.{row_of_none}
use Rattle.cases.proofs.Chosen.{case_there}
use Rattle.cases.proofs.Rows.{whole_piece, survives_by, row_units, among_append_left, shown, shown_none, shown_next, sector_by_row, initial_at, initial_long}

-- what departs of the representative
abbrev pub lost_of : CutValue → Bool → List ℕ → List Departure
lost_of at tears sets = departures (representative (case_of tears (parts_of at) sets)) (parts_at_risk at.way at.log.entries at.cut)

-- the pieces of a sector that were laid, and those that are still missing
pub record FormSo (at : CutValue) (s : ℕ) (sets : List ℕ) (missing cut : ℕ) (out : List ℕ) : Type 0 where
  pub done : (tears : Bool) (i : ℕ) → i < 512 → has missing (i / 64) ≡ false → slice_index out i ≡ shown at.log (lost_of at tears sets) s i (row at.log.entries at.cut s)
  pub left : (tears : Bool) (i : ℕ) → i < 512 → has missing (i / 64) ≡ true
      → shown at.log (lost_of at tears sets) s i (row at.log.entries at.cut s) ≡ shown at.log (lost_of at tears sets) s i (row at.log.entries cut s)
  pub held : (i : ℕ) → i < 512 → has missing (i / 64) ≡ true → slice_index out i ≡ initial_byte at.log.initial s i
  pub low : cut ≤ at.cut
  pub long : length out ≡ 512

pub all_wanted : (j : ℕ) → j < 8 → has 255 j ≡ true
all_wanted zero low = refl
all_wanted (suc zero) low = refl
all_wanted (suc (suc zero)) low = refl
all_wanted (suc (suc (suc zero))) low = refl
all_wanted (suc (suc (suc (suc zero)))) low = refl
all_wanted (suc (suc (suc (suc (suc zero))))) low = refl
all_wanted (suc (suc (suc (suc (suc (suc zero)))))) low = refl
all_wanted (suc (suc (suc (suc (suc (suc (suc zero))))))) low = refl
all_wanted (suc (suc (suc (suc (suc (suc (suc (suc j)))))))) low = absurd (omega (arith, low))

pub form_start : (at : CutValue) (s : ℕ) (sets out : List ℕ) → out ≡ initial_sector at.log.initial s → FormSo at s sets 255 at.cut out
form_start at s sets out is = record {
  done = λ tears i low none. absurd (let bad : true ≡ false = sym (all_wanted (i / 64) (omega (arith, low))) ∙ none in cc);
  left = λ tears i low some. refl;
  held = λ i low some. ap (λ (xs : List ℕ). slice_index xs i) is ∙ initial_at at.log s i low;
  low = omega arith;
  long = ap (λ (xs : List ℕ). length xs) is ∙ initial_long at.log s;
}

byte_done : (m r l p : Bool) (out more content whole below : ℕ) → l ≡ (m && not r) → p ≡ (m && not l) → more ≡ (if p then content else out)
    → (m ≡ true → whole ≡ (if r then content else below)) → (m ≡ false → out ≡ whole) → l ≡ false → more ≡ whole
byte_done true true l p out more content whole below is_l is_p is some none done =
    is ∙ ap (λ b. if b then content else out) (is_p ∙ ap not done) ∙ sym (some refl)
byte_done true false l p out more content whole below is_l is_p is some none done = absurd (let bad : true ≡ false = sym is_l ∙ done in cc)
byte_done false r l p out more content whole below is_l is_p is some none done = is ∙ ap (λ b. if b then content else out) is_p ∙ none refl

pub record ByteLeft (m r p : Bool) : Type 0 where
  pub wanted : m ≡ true
  pub lost : r ≡ false
  pub kept : p ≡ false

byte_left : (m r l p : Bool) → l ≡ (m && not r) → p ≡ (m && not l) → l ≡ true → ByteLeft m r p
byte_left true true l p is_l is_p left = absurd (let bad : true ≡ false = sym left ∙ is_l in cc)
byte_left true false l p is_l is_p left = record { wanted = refl; lost = refl; kept = is_p ∙ ap not left }
byte_left false r l p is_l is_p left = absurd (let bad : true ≡ false = sym left ∙ is_l in cc)

-- a unit of a row stands before the cut

units_grown : (es : List Entry) (n d : ℕ) (u : LogUnit) → n + d ≤ length es → IsAmong (units_before es n) u → IsAmong (units_before es (n + d)) u
units_grown es n zero u le is = let same : n ≡ n + 0 = omega arith in subst (λ m. IsAmong (units_before es m) u) same is
units_grown es n (suc d) u le is =
    let next : suc (n + d) ≡ n + suc d = omega arith in
    let inside : n + d < length es = omega (arith, le) in
    elim (slice_get_cases es (n + d)).1 [
      | inr past ↦ let end = past.0 in absurd (omega (arith, end, inside))
      | inl a ↦
          subst (λ m. IsAmong (units_before es m) u) next
          (subst (λ (us : List LogUnit). IsAmong us u) (sym (units_before-next es (n + d) a.0 a.2))
          (among_append_left (units_before es (n + d)) (units_of_entry (n + d) a.0) u (units_grown es n d u (omega (arith, inside)) is)))
    ]

among_next : (at : CutValue) (s cut : ℕ) (u : LogUnit) → IsNext at.log cut s u → cut ≤ at.cut → at.cut ≤ length at.log.entries → IsAmong (units_before at.log.entries at.cut) u
among_next at s cut u next low le =
    let es = at.log.entries in
    let same : cut + (at.cut - cut) ≡ at.cut = omega (arith, low) in
    let here : IsAmong (row es cut s) u = subst (λ (us : List LogUnit). IsAmong us u) (sym next.rest) (inl refl) in
    subst (λ m. IsAmong (units_before es m) u) same (units_grown es cut (at.cut - cut) u (omega (arith, same, le)) (row_units es cut s u here))

-- one unit more
pub form_more : (at : CutValue) (s : ℕ) (sets : List ℕ) (missing cut : ℕ) (out : List ℕ) (u : LogUnit) (left pieces : ℕ) (content more : List ℕ) → at.cut ≤ length at.log.entries
    → FormSo at s sets missing cut out → IsNext at.log cut s u → content ≡ unit_content at.log.entries u
    → ((tears : Bool) (i : ℕ) → i < 8 → has left i ≡ (has missing i && not (leaves_piece at (case_of tears (parts_of at) sets) u i)))
    → ((i : ℕ) → i < 16 → has pieces i ≡ (has missing i && not (has left i)))
    → ((i : ℕ) → i < 512 → slice_index more i ≡ (if has pieces (i / 64) then slice_index content i else slice_index out i))
    → length more ≡ 512 → FormSo at s sets left u.entry more
form_more at s sets missing cut out u left pieces content more le before next own left_is pieces_is laid long = record {
  done = λ tears i low none.
      let eighth : i / 64 < 8 = omega (arith, low) in
      byte_done (has missing (i / 64)) (leaves_piece at (case_of tears (parts_of at) sets) u (i / 64)) (has left (i / 64)) (has pieces (i / 64))
      (slice_index out i) (slice_index more i) (slice_index content i) (shown at.log (lost_of at tears sets) s i (row at.log.entries at.cut s))
      (shown at.log (lost_of at tears sets) s i (row at.log.entries u.entry s))
      (left_is tears (i / 64) eighth) (pieces_is (i / 64) (omega (arith, eighth))) (laid i low)
      (λ some. before.left tears i low some ∙ by_unit tears i low) (λ gone. before.done tears i low gone) none;
  left = λ tears i low some.
      let eighth : i / 64 < 8 = omega (arith, low) in
      let told = byte_left (has missing (i / 64)) (leaves_piece at (case_of tears (parts_of at) sets) u (i / 64)) (has left (i / 64)) (has pieces (i / 64))
      (left_is tears (i / 64) eighth) (pieces_is (i / 64) (omega (arith, eighth))) some in
      before.left tears i low told.wanted ∙ by_unit tears i low
      ∙ ap (λ b. if b then slice_index content i else shown at.log (lost_of at tears sets) s i (row at.log.entries u.entry s)) told.lost;
  held = λ i low some.
      let eighth : i / 64 < 8 = omega (arith, low) in
      let told = byte_left (has missing (i / 64)) (leaves_piece at (case_of true (parts_of at) sets) u (i / 64)) (has left (i / 64)) (has pieces (i / 64))
      (left_is true (i / 64) eighth) (pieces_is (i / 64) (omega (arith, eighth))) some in
      laid i low ∙ ap (λ b. if b then slice_index content i else slice_index out i) told.kept ∙ before.held i low told.wanted;
  low = let one = next.before in let two = before.low in omega (arith, one, two);
  long = long;
}
  where
    among : IsAmong (units_before at.log.entries at.cut) u
    among = among_next at s cut u next before.low le

    by_unit : (tears : Bool) (i : ℕ) → i < 512
        → shown at.log (lost_of at tears sets) s i (row at.log.entries cut s)
        ≡ (if leaves_piece at (case_of tears (parts_of at) sets) u (i / 64) then slice_index content i else shown at.log (lost_of at tears sets) s i (row at.log.entries u.entry s))
    by_unit tears i low =
        let c : Case = case_of tears (parts_of at) sets in
        let p : Part = part_with at.way at.log.entries u in
        let reach : survives (lost_of at tears sets) i u ≡ leaves_piece at c u (i / 64) =
        survives_by at.log at.way at.cut (representative c) u i le among
        ∙ ap (λ b. if is_at_risk at.log.entries at.cut u.entry then b else true) (whole_piece (representative c p) p u i (i / 64) refl) in
        ap (shown at.log (lost_of at tears sets) s i) next.rest
        ∙ shown_next at.log (lost_of at tears sets) s i u (row at.log.entries u.entry s)
        ∙ (λ j. if reach j then slice_index (sym own j) i else shown at.log (lost_of at tears sets) s i (row at.log.entries u.entry s))

-- all of a sector
pub form_end : (at : CutValue) (s : ℕ) (sets : List ℕ) (missing cut : ℕ) (out : List ℕ) → FormSo at s sets missing cut out → s < at.log.sectors
    → (missing ≡ 0) ⊎ (row at.log.entries cut s ≡ []) → (tears : Bool) → slice_get (image_of at (case_of tears (parts_of at) sets)) s ≡ Some out
form_end at s sets missing cut out so on ends tears =
    device_there at.log (units_before at.log.entries at.cut) (lost_of at tears sets) s on
    ∙ ap (λ (xs : List ℕ). Some xs) (sector_by_row at.log at.cut s (lost_of at tears sets) out so.long (λ i low. by_byte i low (has missing (i / 64)) refl ends))
  where
    by_byte : (i : ℕ) → i < 512 → (b : Bool) → has missing (i / 64) ≡ b → (missing ≡ 0) ⊎ (row at.log.entries cut s ≡ [])
        → slice_index out i ≡ shown at.log (lost_of at tears sets) s i (row at.log.entries at.cut s)
    by_byte i low false is ends = so.done tears i low is
    by_byte i low true is (inl none) = absurd (let bad : true ≡ false = sym is ∙ ap (λ m. has m (i / 64)) none ∙ none_has (i / 64) in cc)
    by_byte i low true is (inr none) =
        so.held i low is ∙ sym (so.left tears i low is ∙ ap (shown at.log (lost_of at tears sets) s i) none ∙ shown_none at.log (lost_of at tears sets) s i)

-- a byte of a sector that is laid over another

pub record LaidSo (pieces : ℕ) (from old now : List ℕ) (n : ℕ) : Type 0 where
  pub done : (i : ℕ) → i < n → slice_index now i ≡ (if has pieces (i / 64) then slice_index from i else slice_index old i)
  pub rest : (i : ℕ) → n ≤ i → slice_index now i ≡ slice_index old i

pub laid_none : (pieces : ℕ) (from old : List ℕ) → LaidSo pieces from old old 0
laid_none pieces from old = record { done = λ i low. absurd (omega (arith, low)); rest = λ i high. refl }

pub laid_more : (pieces : ℕ) (from old now : List ℕ) (n byte : ℕ) → LaidSo pieces from old now n → n < length now
    → byte ≡ (if has pieces (n / 64) then slice_index from n else slice_index now n) → LaidSo pieces from old (set now n byte) (n + 1)
laid_more pieces from old now n byte so within is = record {
  done = λ i low. elim (eqb_tells i n) [
    | inl same ↦
        let e = same.1 in
        ap (λ j. slice_index (set now n byte) j) e ∙ get_or-set_same now n byte 0 within ∙ is
        ∙ ap (λ m. if has pieces (n / 64) then slice_index from n else m) (so.rest n (omega arith))
        ∙ ap (λ j. if has pieces (j / 64) then slice_index from j else slice_index old j) (sym e)
    | inr other ↦
        let apart = other.1 in
        get_or-set_other now n i byte 0 apart ∙ so.done i (omega (arith, low, apart))
  ];
  rest = λ i high.
      let apart : i ≢ n = (λ e. omega (arith, e, high)) in
      get_or-set_other now n i byte 0 apart ∙ so.rest i (omega (arith, high));
}

-- what a unit doesn't leave, by the fate of its part
pub left_told : (at : CutValue) (tears : Bool) (sets : List ℕ) (u : LogUnit) (number bits : ℕ) (part : Part) (pieces out i : ℕ) → is_at_risk at.log.entries at.cut u.entry ≡ true
    → Apart (parts_of at) → slice_get (parts_of at) number ≡ Some (part_with at.way at.log.entries u) → number < length sets → part ≡ part_with at.way at.log.entries u
    → bits ≡ slice_index_or sets number 0 → has out i ≡ (has pieces i && not (shows (slice_index_or (fates_in bits) 0 None) part u i))
    → has out i ≡ (has pieces i && not (leaves_piece at (case_of tears (parts_of at) sets) u i))
left_told at tears sets u number bits part pieces out i risk apart there within own held is =
    let c : Case = case_of tears (parts_of at) sets in
    let p : Part = part_with at.way at.log.entries u in
    let case_is : c p ≡ fates_in (slice_index_or sets number 0) = case_there tears (parts_of at) sets number p apart there within in
    is
    ∙ (λ j. has pieces i && not (shows (slice_index_or (fates_in (held j)) 0 None) (own j) u i))
    ∙ ap (λ (fs : List (Option Fate)). has pieces i && not (shows (slice_index_or fs 0 None) p u i)) (sym case_is)
    ∙ sym (ap (λ b. has pieces i && not (if b then shows (representative c p) p u i else true)) risk)

pub none_left : (at : CutValue) (tears : Bool) (sets : List ℕ) (u : LogUnit) (pieces i : ℕ) → is_at_risk at.log.entries at.cut u.entry ≡ false
    → has 0 i ≡ (has pieces i && not (leaves_piece at (case_of tears (parts_of at) sets) u i))
none_left at tears sets u pieces i risk =
    let c : Case = case_of tears (parts_of at) sets in
    let p : Part = part_with at.way at.log.entries u in
    none_has i ∙ sym (ap (λ b. has pieces i && not (if b then shows (representative c p) p u i else true)) risk ∙ and_no (has pieces i))
  where
    and_no : (b : Bool) → (b && false) ≡ false
    and_no true = refl
    and_no false = refl

-- the next unit of a row, or its end
pub next_told : (log held : LogValue) (cut s pieces : ℕ) (o : Option LogUnit) → held ≡ log → MatchOption o (row held.entries cut s ≡ row held.entries 0 s) (IsNext held cut s)
    → MatchOption o ((pieces ≡ 0) ⊎ (row log.entries cut s ≡ [])) (IsNext log cut s)
next_told log held cut s pieces None same told = inr (ap (λ (l : LogValue). row l.entries cut s) (sym same) ∙ told ∙ row_of_none held.entries 0 s refl)
next_told log held cut s pieces (Some u) same told = subst (λ (l : LogValue). IsNext l cut s u) same told

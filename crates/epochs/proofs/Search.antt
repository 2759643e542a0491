-- The search of a part in the table.
use Rattle.std.proofs.Common.{ℕ, zero, suc, ◌≡◌, ◌+◌, ◌-◌, ◌*◌, ◌<◌, ◌≤◌, Bool, true, false, if◌then◌else◌, List, [], ◌++◌, length, slice_get, slice_index_or, Some, refl, sym, subst, ◌∙◌, ap, inl, inr, arith, append_assoc, length-append, length-drop}
use Rattle.std.specs.List.Sorted.{IsNonDecreasingBy}
use Rattle.std.proofs.lemmas.Bool.{cases_lt}
use Rattle.std.proofs.lemmas.List.{append-nil}
use Rattle.std.proofs.lemmas.List.FromFn.{length-map-range_with_len, get_or-map-range_with_len}
use Rattle.std.proofs.lemmas.Option.{slice_get_within, slice_get-get_or, slice_get_cases, slice_get_read, same_Some}
use Rattle.base.proofs.Lists.{slice_get-append_left, slice_get-append_right, slice_get-drop}
use Rattle.logfmt.specs.declared.entry.Entry.{Entry}
use Rattle.logfmt.specs.Bounds.{LogValue, IsLog}
use Rattle.epochs.specs.declared.part.Part.{Part}
use Rattle.epochs.specs.declared.part.By.{By}
use Rattle.epochs.specs.declared.table.CutRow.{CutRow}
use Rattle.epochs.specs.Parts.{part_size, part_count, part_of, parts_of_entry, volatile_parts}
use Rattle.epochs.specs.Table.{unforced_parts, IsRow, AreRows, Found}
use Rattle.epochs.specs.Plan.{IsPart}
use Rattle.epochs.proofs.Parts.{part_some, part_inside}
use Rattle.epochs.proofs.Growth.{own_parts, unforced_parts-next}
use Rattle.epochs.proofs.Rows.{length-own_parts, first_is_row}

-- the parts of a cut are the first of those of a later cut
pub unforced_parts-prefix : (way : By) (es : List Entry) (k d : ℕ) → k + d ≤ length es → (rest : List Part) × (unforced_parts way es (k + d) ≡ unforced_parts way es k ++ rest)
unforced_parts-prefix way es k zero h =
    let here : k + 0 ≡ k = omega arith in
    ([], ap (unforced_parts way es) here ∙ sym (append-nil (unforced_parts way es k)))
unforced_parts-prefix way es k (suc d) h =
    let before = unforced_parts-prefix way es k d (omega (arith, h)) in
    let here : k + suc d ≡ suc (k + d) = omega arith in
    elim (slice_get_cases es (k + d)).1 [
      | inl a ↦ (
        before.0 ++ own_parts way (k + d) a.0,
        ap (unforced_parts way es) here ∙ unforced_parts-next way es (k + d) a.0 a.2
            ∙ ap (λ us. us ++ own_parts way (k + d) a.0) before.1 ∙ append_assoc (unforced_parts way es k) before.0 (own_parts way (k + d) a.0),
      )
      | inr past ↦ absurd (omega (arith, past.0, h))
    ]

-- the parts that are not forced grow from cut to cut, and each keeps its number
pub unforced_parts-rise : (way : By) (es : List Entry) (k n : ℕ) → k ≤ n → n ≤ length es → length (unforced_parts way es k) ≤ length (unforced_parts way es n)
unforced_parts-rise way es k n le within =
    let here : k + (n - k) ≡ n = omega (arith, le) in
    let parts = unforced_parts-prefix way es k (n - k) (omega (arith, here, within)) in
    let long : length (unforced_parts way es n) ≡ length (unforced_parts way es k) + length parts.0 =
    ap (λ m. length (unforced_parts way es m)) (sym here) ∙ ap length parts.1 ∙ length-append (unforced_parts way es k) parts.0 in
    omega (arith, long)

pub unforced_parts-keep : (way : By) (es : List Entry) (k n i : ℕ) → k ≤ n → n ≤ length es → i < length (unforced_parts way es k)
    → slice_get (unforced_parts way es n) i ≡ slice_get (unforced_parts way es k) i
unforced_parts-keep way es k n i le within lt =
    let here : k + (n - k) ≡ n = omega (arith, le) in
    let parts = unforced_parts-prefix way es k (n - k) (omega (arith, here, within)) in
    ap (λ m. slice_get (unforced_parts way es m) i) (sym here) ∙ ap (λ us. slice_get us i) parts.1
    ∙ slice_get-append_left (unforced_parts way es k) parts.0 i lt

-- the volatile part of that number, by the row of its cut
pub volatile_by_row : (way : By) (es : List Entry) (k : ℕ) (row : CutRow) (i : ℕ) → IsRow way es k row
    → slice_get (volatile_parts way es k) i ≡ slice_get (unforced_parts way es k) (row.durable + i)
volatile_by_row way es k row i is = ap (λ us. slice_get us i) is.volatile ∙ slice_get-drop row.durable (unforced_parts way es k) i

-- part j of an entry
pub part_there : (way : By) (e : ℕ) (x : Entry) (j : ℕ) → j < part_count way x → slice_get (parts_of_entry way e x) j ≡ Some (part_of way e x j)
part_there way e x j lt =
    let d : Part = part_of way e x j in
    let long : length (parts_of_entry way e x) ≡ part_count way x = length-map-range_with_len (part_of way e x) 0 (part_count way x) in
    let at : 0 + j ≡ j = omega arith in
    slice_get-get_or (parts_of_entry way e x) j d (omega (arith, long, lt))
    ∙ ap (λ u. Some u) (get_or-map-range_with_len (part_of way e x) 0 (part_count way x) j j d lt at)

-- a part that an entry adds
own_there : (way : By) (e : ℕ) (x : Entry) (j : ℕ) → j < length (own_parts way e x) → (slice_get (own_parts way e x) j ≡ Some (part_of way e x j)) × (j < part_count way x)
own_there way e x j lt =
    let long = length-own_parts way e x in
    let by_flag : (b : Bool) → x.flags.fua ≡ b → j < (if b then 0 else part_count way x)
    → (slice_get (if b then [] else parts_of_entry way e x) j ≡ Some (part_of way e x j)) × (j < part_count way x) =
    λ b. elim b as (λ v. x.flags.fua ≡ v → j < (if v then 0 else part_count way x) → (slice_get (if v then [] else parts_of_entry way e x) j ≡ Some (part_of way e x j)) × (j < part_count way x)) [
      | true ↦ λ _ h. absurd (omega (arith, h))
      | false ↦ λ _ h. (part_there way e x j h, h)
    ] in
    by_flag x.flags.fua refl (omega (arith, lt, long))

-- the part of a number lies in the entry whose parts begin at or before it and end after it
pub part_at : (way : By) (es : List Entry) (e : ℕ) (x : Entry) (t : ℕ) → slice_get es e ≡ Some x → length (unforced_parts way es e) ≤ t
    → t < length (unforced_parts way es (suc e))
    → (slice_get (unforced_parts way es (suc e)) t ≡ Some (part_of way e x (t - length (unforced_parts way es e)))) × (t - length (unforced_parts way es e) < part_count way x)
part_at way es e x t here low high =
    let grown = unforced_parts-next way es e x here in
    let start : ℕ = length (unforced_parts way es e) in
    let j : ℕ = t - start in
    let sum = ap length grown ∙ length-append (unforced_parts way es e) (own_parts way e x) in
    let own = own_there way e x j (omega (arith, sum, low, high)) in
    let at : t ≡ start + j = omega (arith, low) in (
      ap (slice_get (unforced_parts way es (suc e))) at ∙ ap (λ us. slice_get us (start + j)) grown
          ∙ slice_get-append_right (unforced_parts way es e) (own_parts way e x) j ∙ own.0,
      own.1,
    )

-- a row of the table, at any default
pub row_at : (way : By) (es : List Entry) (rows : List CutRow) (k : ℕ) (d : CutRow) → AreRows way es rows → k ≤ length es → IsRow way es k (slice_index_or rows k d)
row_at way es rows k d are within = are.each k (slice_index_or rows k d) (slice_get-get_or rows k d (omega (arith, are.count, within)))

-- the rows rise by their start, so they can be searched by halves
pub rows_rise : (way : By) (es : List Entry) (rows : List CutRow) → AreRows way es rows → IsNonDecreasingBy (λ (row : CutRow). row.start) rows
rows_rise way es rows are i j d le lt =
    let first = row_at way es rows i d are (omega (arith, are.count, le, lt)) in
    let second = row_at way es rows j d are (omega (arith, are.count, lt)) in
    omega (arith, first.start, second.start, unforced_parts-rise way es i j le (omega (arith, are.count, lt)))

-- what the search tells: the rows before `count` start at or before t, the others after it
pub record Splits (rows : List CutRow) (t count : ℕ) : Type 0 where
  pub bound : count ≤ length rows
  pub before : (k : ℕ) (d : CutRow) → k < count → (slice_index_or rows k d).start ≤ t
  pub beyond : (k : ℕ) (d : CutRow) → count ≤ k → k < length rows → t < (slice_index_or rows k d).start

blank : CutRow
blank = record { start = 0; durable = 0; epoch = 0; marks = 0 }

-- the row of cut 0 starts at or before each part, that of the last cut after each
pub some_row : (way : By) (es : List Entry) (rows : List CutRow) (t count : ℕ) → AreRows way es rows → t < length (unforced_parts way es (length es)) → Splits rows t count
    → (1 ≤ count) × (count ≤ length es)
some_row way es rows t count are lt splits =
    let first = row_at way es rows 0 blank are (omega arith) in
    let last = row_at way es rows (length es) blank are (omega arith) in
    let none = first_is_row way es in
    let low : 1 ≤ count = elim (cases_lt 0 count) [
      | inl le ↦ omega (arith, le)
      | inr above ↦ absurd (omega (arith, splits.beyond 0 blank (omega (arith, above)) (omega (arith, are.count)), first.start, none.start))
    ] in
    let high : count ≤ length es = elim (cases_lt (length es) count) [
      | inr le ↦ le
      | inl above ↦ absurd (omega (arith, splits.before (length es) blank above, last.start, lt))
    ] in
    (low, high)

-- where the rows up to `count` start at t or before it, part t lies in the last of these entries
pub found : (way : By) (es : List Entry) (rows : List CutRow) (t count e : ℕ) → AreRows way es rows → t < length (unforced_parts way es (length es)) → Splits rows t count
    → e ≡ count - 1 → Found way es t e
found way es rows t count e are lt splits before =
    let bounds = some_row way es rows t count are lt splits in
    let low_bound = bounds.0 in
    let high_bound = bounds.1 in
    let here : suc e ≡ count = omega (arith, low_bound, before) in
    let first = row_at way es rows e blank are (omega (arith, here, high_bound)) in
    let next = row_at way es rows (suc e) blank are (omega (arith, here, high_bound)) in
    let low : length (unforced_parts way es e) ≤ t = omega (arith, first.start, splits.before e blank (omega (arith, here))) in
    let high : t < length (unforced_parts way es (suc e)) =
    omega (arith, next.start, splits.beyond (suc e) blank (omega (arith, here)) (omega (arith, here, high_bound, are.count))) in
    elim (slice_get_cases es e).1 [
      | inl a ↦
          let part = part_at way es e a.0 t a.2 low high in
          record {
            entry = a.0;
            there = a.2;
            low = low;
            place = part.1;
            high = high;
            part = unforced_parts-keep way es (suc e) (length es) t (omega (arith, here, high_bound)) (omega arith) high ∙ part.0;
          }
      | inr past ↦ absurd (omega (arith, past.0, here, high_bound))
    ]

-- what was found lies on the device
pub found_part : (way : By) (log : LogValue) (t e : ℕ) → IsLog log → (at : Found way log.entries t e)
    → IsPart log (part_of way e at.entry (t - length (unforced_parts way log.entries e)))
found_part way log t e is at =
    let inside = part_inside way at.entry (t - length (unforced_parts way log.entries e)) at.place in
    let some = part_some way at.entry (t - length (unforced_parts way log.entries e)) at.place in
    let device = (is.entries e at.entry at.there).device (omega (arith, inside, some)) in
    record { entry = at.entry; there = at.there; some = some; inside = inside; sector = refl; device = omega (arith, inside, device) }

-- the number of a volatile part among those that are not forced
pub inside_run : (way : By) (es : List Entry) (k : ℕ) (row : CutRow) (i : ℕ) → IsRow way es k row → i < length (volatile_parts way es k)
    → row.durable + i < length (unforced_parts way es k)
inside_run way es k row i is lt =
    let long = ap length is.volatile ∙ length-drop row.durable (unforced_parts way es k) in
    omega (arith, long, lt)

-- a volatile part of a cut is one of the parts that are not forced, after the durable ones
pub inside_all : (way : By) (es : List Entry) (k : ℕ) (row : CutRow) (i : ℕ) → IsRow way es k row → i < length (volatile_parts way es k) → k ≤ length es
    → row.durable + i < length (unforced_parts way es (length es))
inside_all way es k row i is lt within =
    omega (arith, inside_run way es k row i is lt, unforced_parts-rise way es k (length es) within (omega arith))

-- a part of a cut's run lies before the cut
pub before_cut : (way : By) (es : List Entry) (k e t : ℕ) (x : Entry) → slice_get es e ≡ Some x → length (unforced_parts way es e) ≤ t
    → t < length (unforced_parts way es k) → k ≤ length es → e < k
before_cut way es k e t x there low lt within =
    let inside = slice_get_within es e x there in
    elim (cases_lt e k) [
      | inl less ↦ less
      | inr more ↦ absurd (omega (arith, unforced_parts-rise way es k e more (omega (arith, inside)), low, lt))
    ]

-- an entry, as it is read
pub entry_read : (es fs : List Entry) (e : ℕ) (x : Entry) → e < length es → fs ≡ es → x ≡ slice_index_or fs e x → slice_get es e ≡ Some x
entry_read es fs e x lt same read = slice_get_read es (length es) e x refl lt (read ∙ ap (λ zs. slice_index_or zs e x) same)

-- the part that is made of it
pub record IsMade (way : By) (log : LogValue) (t : ℕ) (p : Part) : Type 0 where
  pub there : slice_get (unforced_parts way log.entries (length log.entries)) t ≡ Some p
  pub part : IsPart log p

pub made_part : (way : By) (log : LogValue) (t e start size : ℕ) (x : Entry) → IsLog log → Found way log.entries t e → slice_get log.entries e ≡ Some x
    → start ≡ length (unforced_parts way log.entries e) → size ≡ part_size way x
    → IsMade way log t (record { entry = e; place = (t - start) * size; count = size; sector = x.sector + (t - start) * size })
made_part way log t e start size x is at read low sized =
    let same : at.entry ≡ x = same_Some at.entry x (sym at.there ∙ read) in
    let made : Part = record { entry = e; place = (t - start) * size; count = size; sector = x.sector + (t - start) * size } in
    let one : part_of way e at.entry (t - length (unforced_parts way log.entries e)) ≡ made =
    λ i. record {
      entry = e;
      place = (t - (sym low) i) * (ap (part_size way) same ∙ sym sized) i;
      count = (ap (part_size way) same ∙ sym sized) i;
      sector = (same i).sector + (t - (sym low) i) * (ap (part_size way) same ∙ sym sized) i;
    } in
    let P : Part → Type 0 = λ p. IsMade way log t p in
    subst P one (record { there = at.part; part = found_part way log t e is at })

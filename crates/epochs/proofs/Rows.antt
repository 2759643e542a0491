-- The rows of the table, from cut to cut.
use Rattle.std.proofs.Common.{ℕ, zero, suc, ◌≡◌, ◌+◌, ◌≤◌, Bool, true, false, not, if◌then◌else◌, List, [], ◌∷◌, ◌++◌, length, take, drop, slice_get, get_or, Some, None, refl, sym, subst, ◌∙◌, ap, inl, inr, arith, length-append, add-one}
use Rattle.std.proofs.lemmas.List.{drop_at, drop-append-le, length-take-le}
use Rattle.std.proofs.lemmas.List.Sums.{length-filter, count_by-le-length, sum_by-cons, sum_by_more_le, sum_by-take-le}
use Rattle.std.proofs.lemmas.List.FromFn.{length-map-range_with_len}
use Rattle.std.proofs.lemmas.Option.{slice_get_within, get_or_from_slice_get}
use Rattle.base.specs.Sizes.{most_units}
use Rattle.base.proofs.Lists.{take-suc_place, count_by-push, slice_get_of_push}
use Rattle.logfmt.specs.declared.entry.Entry.{Entry}
use Rattle.logfmt.specs.Bounds.{units_of}
use Rattle.epochs.specs.declared.part.Part.{Part}
use Rattle.epochs.specs.declared.part.By.{By}
use Rattle.epochs.specs.declared.table.CutRow.{CutRow}
use Rattle.epochs.specs.Units.{of_entries, is_forced, epoch_at, marks_at}
use Rattle.epochs.specs.Parts.{part_count, part_of, parts_of_entry, parts_before, volatile_parts}
use Rattle.epochs.specs.Table.{unforced_parts, IsRow, RowFits, AreRows, next_row}
use Rattle.epochs.proofs.Parts.{parts_few}
use Rattle.epochs.proofs.Growth.{own_parts, unforced_parts-next, volatile_parts-next}

-- how many parts an entry adds
pub length-own_parts : (way : By) (k : ℕ) (x : Entry) → length (own_parts way k x) ≡ (if x.flags.fua then 0 else part_count way x)
length-own_parts way k x =
    let all : length (parts_of_entry way k x) ≡ part_count way x = length-map-range_with_len (part_of way k x) 0 (part_count way x) in
    elim x.flags.fua as (λ b. length (if b then [] else parts_of_entry way k x) ≡ (if b then 0 else part_count way x)) [ true ↦ refl | false ↦ all ]

-- the volatile parts of the next row
pub next_volatile : (flush : Bool) (start durable : ℕ) (us vs own : List Part) → start ≡ length us → durable ≤ start → vs ≡ drop durable us
    → (if flush then [] else vs) ++ own ≡ drop (if flush then start else durable) (us ++ own)
next_volatile true start durable us vs own long le is = sym (drop_at us own start (sym long))
next_volatile false start durable us vs own long le is =
    ap (λ ws. ws ++ own) is ∙ sym (drop-append-le durable us own (omega (arith, long, le)))

next_durable : (flush : Bool) (start durable more : ℕ) → durable ≤ start → (if flush then start else durable) ≤ start + more
next_durable true start durable more le = omega arith
next_durable false start durable more le = omega (arith, le)

-- from the row of a cut to the row of the next
pub next_is_row : (way : By) (es : List Entry) (k : ℕ) (row : CutRow) (x : Entry) → IsRow way es k row → slice_get es k ≡ Some x → IsRow way es (suc k) (next_row way row x)
next_is_row way es k row x is here =
    let grown = unforced_parts-next way es k x here in
    let long = ap length grown ∙ length-append (unforced_parts way es k) (own_parts way k x) in
    let own = length-own_parts way k x in
    let further = take-suc_place es k x here in
    record {
      start = omega (arith, long, own, is.start);
      durable = next_durable x.flags.flush row.start row.durable (if x.flags.fua then 0 else part_count way x) is.durable;
      volatile =
          volatile_parts-next way es k x here
          ∙ next_volatile x.flags.flush row.start row.durable (unforced_parts way es k) (volatile_parts way es k) (own_parts way k x) is.start is.durable is.volatile
          ∙ ap (λ us. drop (if x.flags.flush then row.start else row.durable) us) (sym grown);
      epoch =
          let sum = count_by-push (λ (entry : Entry). entry.flags.flush) (take k es) x in
          let here_too : epoch_at es (suc k) ≡ epoch_at es k + (if x.flags.flush then 1 else 0) = rw further sum in
          omega (arith, is.epoch, here_too);
      marks =
          let sum = count_by-push (λ (entry : Entry). entry.flags.mark) (take k es) x in
          let here_too : marks_at es (suc k) ≡ marks_at es k + (if x.flags.mark then 1 else 0) = rw further sum in
          omega (arith, is.marks, here_too);
    }

-- the row of cut 0
pub first_is_row : (way : By) (es : List Entry) → IsRow way es 0 (record { start = 0; durable = 0; epoch = 0; marks = 0 })
unfolding unforced_parts volatile_parts
first_is_row way es = record { start = refl; durable = omega arith; volatile = refl; epoch = refl; marks = refl }

-- the parts of entries, counted
parts_of_entries-le : (way : By) (e : ℕ) (xs : List Entry) → length (of_entries (parts_of_entry way) e xs) ≤ units_of xs
parts_of_entries-le way e [] = omega arith
parts_of_entries-le way e (x ∷ xs) =
    let own : length (parts_of_entry way e x) ≡ part_count way x = length-map-range_with_len (part_of way e x) 0 (part_count way x) in
    let rest = parts_of_entries-le way (suc e) xs in
    let both = length-append (parts_of_entry way e x) (of_entries (parts_of_entry way) (suc e) xs) in
    omega (arith, own, rest, both, parts_few way x, sum_by-cons (λ (entry : Entry). entry.count) x xs)

-- no more parts are unforced than there are units
unforced_parts-le : (way : By) (es : List Entry) (k : ℕ) → length (unforced_parts way es k) ≤ units_of (take k es)
unfolding unforced_parts
unforced_parts-le way es k =
    let p : Part → Bool = λ u. not (is_forced es u.entry) in
    let kept = length-filter p (parts_before way es k) in
    let fewer = count_by-le-length p (parts_before way es k) in
    let all = parts_of_entries-le way 0 (take k es) in
    omega (arith, kept, fewer, all)

-- the numbers of the next row do not wrap
pub room_for_row : (way : By) (es : List Entry) (k : ℕ) (row : CutRow) (x : Entry) → IsRow way es k row → slice_get es k ≡ Some x → units_of es ≤ most_units
    → row.start + x.count ≤ most_units
room_for_row way es k row x is here units =
    let within = slice_get_within es k x here in
    let part = sum_by_more_le (λ (entry : Entry). entry.count) es k x within in
    let same : (get_or es k x).count ≡ x.count = ap (λ (entry : Entry). entry.count) (get_or_from_slice_get es k x x here) in
    omega (arith, part, same, unforced_parts-le way es k, is.start, units)

-- the numbers of a row are small
pub row_fits : (way : By) (es : List Entry) (k : ℕ) (row : CutRow) → IsRow way es k row → length es ≤ 65536 → units_of es ≤ most_units → k ≤ length es → RowFits row
row_fits way es k row is few units within = record {
  start = omega (arith, is.start, unforced_parts-le way es k, sum_by-take-le (λ (entry : Entry). entry.count) es k, units);
  epoch = omega (arith, is.epoch, count_by-le-length (λ (entry : Entry). entry.flags.flush) (take k es), length-take-le k es within, few);
  marks = omega (arith, is.marks, count_by-le-length (λ (entry : Entry). entry.flags.mark) (take k es), length-take-le k es within, few);
}

-- the rows of the cuts up to i, the last of which is at hand
pub record Filled (way : By) (es : List Entry) (i : ℕ) (rows : List CutRow) (row : CutRow) : Type 0 where
  pub count : length rows ≡ i + 1
  pub each : (k : ℕ) (r : CutRow) → slice_get rows k ≡ Some r → IsRow way es k r
  pub last : IsRow way es i row

one_row : (way : By) (es : List Entry) (row : CutRow) → IsRow way es 0 row → (k : ℕ) (r : CutRow) → slice_get (row ∷ []) k ≡ Some r → IsRow way es k r
one_row way es row is zero r h = let here : Some row ≡ Some r = h in let same : row ≡ r = cc in let P : CutRow → Type 0 = λ x. IsRow way es 0 x in subst P same is
one_row way es row is (suc k) r h = absurd (let bad : None ≡ Some r = h in cc)

-- the loop over the entries: the first row, one more row, and the end
pub begin : (way : By) (es : List Entry) (row : CutRow) → row ≡ record { start = 0; durable = 0; epoch = 0; marks = 0 } → Filled way es 0 (row ∷ []) row
begin way es row is =
    let P : CutRow → Type 0 = λ x. IsRow way es 0 x in
    let first : IsRow way es 0 row = subst P (sym is) (first_is_row way es) in
    record { count = refl; each = one_row way es row first; last = first }

-- the table with one row more
pub go_on : (way : By) (es : List Entry) (i : ℕ) (rows : List CutRow) (row : CutRow) (x : Entry) → Filled way es i rows row → slice_get es i ≡ Some x
    → Filled way es (i + 1) (rows ++ next_row way row x ∷ []) (next_row way row x)
go_on way es i rows row x so here =
    let next : IsRow way es (suc i) (next_row way row x) = next_is_row way es i row x so.last here in
    record {
      count = omega (arith, length-append rows (next_row way row x ∷ []), so.count);
      each = λ k r h. elim (slice_get_of_push rows (next_row way row x) k r h) [
        | inl was ↦ so.each k r was
        | inr last ↦ rw (last.0, last.1, so.count, add-one i) next
      ];
      last = rw (add-one i) next;
    }

-- the table when all entries have their rows
pub all_rows : (way : By) (es : List Entry) (i : ℕ) (rows : List CutRow) (row : CutRow) → Filled way es i rows row → i ≡ length es → AreRows way es rows
all_rows way es i rows row so end = record { count = omega (arith, so.count, end); each = so.each }

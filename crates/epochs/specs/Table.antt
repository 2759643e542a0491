-- The table of a plan: a row for each cut. The volatile parts of a cut are the end of a list that only
-- grows from cut to cut, the parts that are not forced.
use Rattle.std.specs.Prelude.{ℕ, suc, ◌+◌, ◌-◌, ◌≡◌, ◌<◌, ◌≤◌, not, if◌then◌else◌, List, length, filter, drop, slice_get, Some}
use Rattle.base.specs.Sizes.{most_units}
use Rattle.logfmt.specs.declared.entry.Entry.{Entry}
use Rattle.epochs.specs.declared.part.Part.{Part}
use Rattle.epochs.specs.declared.part.By.{By}
use Rattle.epochs.specs.declared.table.CutRow.{CutRow}
use Rattle.epochs.specs.Units.{is_forced, epoch_at, marks_at}
use Rattle.epochs.specs.Parts.{part_count, part_of, parts_before, volatile_parts}

-- the parts before cut k whose entry is not forced
unfoldable pub unforced_parts : By → List Entry → ℕ → List Part
unforced_parts way es k = filter (λ (p : Part). not (is_forced es p.entry)) (parts_before way es k)

-- what the row of cut k holds
pub record IsRow (way : By) (es : List Entry) (k : ℕ) (row : CutRow) : Type 0 where
  pub start : row.start ≡ length (unforced_parts way es k)
  pub durable : row.durable ≤ row.start
  pub volatile : volatile_parts way es k ≡ drop row.durable (unforced_parts way es k)
  pub epoch : row.epoch ≡ epoch_at es k
  pub marks : row.marks ≡ marks_at es k

-- the numbers of a row are small
pub record RowFits (row : CutRow) : Type 0 where
  pub start : row.start ≤ most_units
  pub epoch : row.epoch ≤ 65536
  pub marks : row.marks ≤ 65536

-- a row for each cut
pub record AreRows (way : By) (es : List Entry) (rows : List CutRow) : Type 0 where
  pub count : length rows ≡ length es + 1
  pub each : (k : ℕ) (row : CutRow) → slice_get rows k ≡ Some row → IsRow way es k row

-- the row after an entry
abbrev pub next_row : By → CutRow → Entry → CutRow
next_row way row entry = record {
  start = row.start + (if entry.flags.fua then 0 else part_count way entry);
  durable = if entry.flags.flush then row.start else row.durable;
  epoch = row.epoch + (if entry.flags.flush then 1 else 0);
  marks = row.marks + (if entry.flags.mark then 1 else 0);
}

-- part t of the parts that are not forced lies in entry e
pub record Found (way : By) (es : List Entry) (t e : ℕ) : Type 0 where
  pub entry : Entry
  pub there : slice_get es e ≡ Some entry
  pub low : length (unforced_parts way es e) ≤ t
  pub place : t - length (unforced_parts way es e) < part_count way entry
  pub high : t < length (unforced_parts way es (suc e))
  pub part : slice_get (unforced_parts way es (length es)) t ≡ Some (part_of way e entry (t - length (unforced_parts way es e)))

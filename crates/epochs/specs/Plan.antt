-- A plan as a value: a log, the kind of cuts that are wanted of it, and what departs as one.
use Rattle.std.specs.Prelude.{ℕ, ◌+◌, ◌≡◌, ◌<◌, ◌≤◌, List, slice_get, Some}
use Rattle.logfmt.specs.declared.entry.Entry.{Entry}
use Rattle.logfmt.specs.Bounds.{LogValue, IsLog}
use Rattle.epochs.specs.declared.cuts.Cuts.{Cuts}
use Rattle.epochs.specs.declared.unit.Unit.{Unit as LogUnit}
use Rattle.epochs.specs.declared.part.Part.{Part}
use Rattle.epochs.specs.declared.part.By.{By}
use Rattle.epochs.specs.declared.table.CutRow.{CutRow}
use Rattle.epochs.specs.Cuts.{cuts_of}
use Rattle.epochs.specs.Table.{AreRows}

-- a plan
pub record PlanValue : Type 0 where
  pub log : LogValue
  pub kind : Cuts
  pub by : By

-- what a plan keeps of its log
pub record IsPlan (plan : PlanValue) (rows : List CutRow) (cuts : List ℕ) : Type 0 where
  pub bounds : IsLog plan.log
  pub table : AreRows plan.by plan.log.entries rows
  pub wanted : cuts ≡ cuts_of plan.kind plan.log.entries

-- a unit of an entry of the log, on its device
pub record IsUnit (log : LogValue) (u : LogUnit) : Type 0 where
  pub entry : Entry
  pub there : slice_get log.entries u.entry ≡ Some entry
  pub place : u.place < entry.count
  pub sector : u.sector ≡ entry.sector + u.place
  pub device : u.sector < log.sectors

-- a part of an entry of the log, on its device
pub record IsPart (log : LogValue) (p : Part) : Type 0 where
  pub entry : Entry
  pub there : slice_get log.entries p.entry ≡ Some entry
  pub some : 1 ≤ p.count
  pub inside : p.place + p.count ≤ entry.count
  pub sector : p.sector ≡ entry.sector + p.place
  pub device : p.sector + p.count ≤ log.sectors

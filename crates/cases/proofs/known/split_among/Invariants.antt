use Rattle.std.proofs.Common.{◌≡◌, Bool, drop}
use Rattle.cases.specs.Cases.{first_split}
use Rattle.cases.specs.AtCut.{parts_of, case_of}
use Rattle.cases.specs.Known.{AreRows}
use Rattle.cases.proofs.known.split_among.Given as goal

abbrev pub invariant-loop-sector : goal.invariant-loop-sector
invariant-loop-sector l = record {
  rows : AreRows l.fn.cut l.rows.items;
  so : (tears : Bool) → first_split l.fn.cut.log l.fn.cut.way l.fn.cut.cut (case_of tears (parts_of l.fn.cut) l.fn.sets) l.fn.sectors
      ≡ first_split l.fn.cut.log l.fn.cut.way l.fn.cut.cut (case_of tears (parts_of l.fn.cut) l.fn.sets) (drop l.sector-index l.fn.sectors);
}

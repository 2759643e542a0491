use Rattle.std.proofs.Common.{◌≡◌, Bool, drop}
use Rattle.cases.specs.Cases.{first_split}
use Rattle.cases.specs.AtCut.{parts_of, case_of}
use Rattle.cases.proofs.cut.Cut.first_split.Given as goal

abbrev pub invariant-loop-sector : goal.invariant-loop-sector
invariant-loop-sector l =
    (tears : Bool) → first_split l.fn.self.log l.fn.self.way l.fn.self.cut (case_of tears (parts_of l.fn.self) l.fn.sets) l.fn.sectors
    ≡ first_split l.fn.self.log l.fn.self.way l.fn.self.cut (case_of tears (parts_of l.fn.self) l.fn.sets) (drop l.sector-index l.fn.sectors)

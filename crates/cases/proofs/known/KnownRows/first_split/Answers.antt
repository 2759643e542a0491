use Rattle.std.proofs.Common.{IfOk, subst}
use Rattle.cases.specs.Cases.{first_split}
use Rattle.cases.specs.AtCut.{CutValue, parts_of, case_of, IsFound}
use Rattle.cases.proofs.known.KnownRows.first_split.Goals as goal

pub returns-clause-found : goal.returns-clause-found
returns-clause-found c = λ tears.
    subst (λ (at : CutValue). IfOk c.split_among.result (λ found. IsFound (parts_of at) found (first_split at.log at.way at.cut (case_of tears (parts_of at) c.args.sets.now) c.args.sectors.now)))
    c.self.view_is (c.split_among.ensures.found tears)

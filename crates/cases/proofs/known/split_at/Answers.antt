use Rattle.std.proofs.Common.{ℕ, subst}
use Rattle.std.specs.List.{range_with_len}
use Rattle.cases.specs.Rows.{row}
use Rattle.cases.specs.Cases.{split_in_row}
use Rattle.cases.specs.AtCut.{parts_of, case_of, IsFound}
use Rattle.cases.proofs.known.split_at.Goals as goal

pub returns-in-Some-clause-found : goal.returns-in-Some-clause-found
returns-in-Some-clause-found c = λ tears.
    let at = c.args.cut.now in
    subst (λ (s : ℕ). IsFound (parts_of at) c.split_of.result (split_in_row at.log at.way at.cut s (case_of tears (parts_of at) c.args.sets.now) (row at.log.entries at.cut s) (range_with_len 0 8)))
    c.in-Some.ensures.sector (c.split_of.ensures tears)

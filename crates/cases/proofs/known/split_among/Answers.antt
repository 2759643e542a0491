use Rattle.std.proofs.Common.{None, refl, ◌∙◌, arith}
use Rattle.cases.specs.AtCut.{parts_of, case_of}
use Rattle.cases.proofs.Splitting.{sectors_next, sectors_end, found_there, found_not}
use Rattle.cases.proofs.known.split_among.Goals as goal

pub returns-in-Some-clause-found : goal.returns-in-Some-clause-found
returns-in-Some-clause-found c = λ tears.
    let at = c.args.cut.now in
    let own = case_of tears (parts_of at) c.args.sets.now in
    let found = found_there (parts_of at) _ c.in_ok-found.field-0 c.in-Some.found c.in-Some.is (c.in_ok-found.ensures.found tears) in (
      found.0,
      c.loop-sector.invariant.so tears
          ∙ sectors_next at own c.args.sectors.now c.loop-sector.sector-index _ _ (omega arith) refl found.1,
    )

pub loop-sector-preserved : goal.loop-sector-preserved
loop-sector-preserved c = record {
  rows = c.in_ok-found.ensures.rows;
  so = λ tears.
      let at = c.args.cut.now in
      let own = case_of tears (parts_of at) c.args.sets.now in
      c.loop-sector.invariant.so tears
      ∙ sectors_next at own c.args.sectors.now c.loop-sector.sector-index _ None (omega arith) refl
      (found_not (parts_of at) _ c.in_ok-found.field-0 c.in_default.is (c.in_ok-found.ensures.found tears));
}

pub returns-clause-found : goal.returns-clause-found
returns-clause-found c = λ tears.
    c.loop-sector.invariant.so tears
    ∙ sectors_end c.args.cut.now (case_of tears (parts_of c.args.cut.now) c.args.sets.now) c.args.sectors.now c.loop-sector.sector-index (omega (arith, c.loop-sector-test.false))

use Rattle.std.proofs.Common.{◌≡◌, ◌<◌, None, length, refl, ◌∙◌, arith}
use Rattle.std.proofs.lemmas.Option.{MatchOption-at_none}
use Rattle.cases.specs.AtCut.{parts_of, case_of}
use Rattle.cases.specs.declared.split.Parted.{Parted}
use Rattle.cases.proofs.Splitting.{sectors_next, sectors_end}
use Rattle.cases.proofs.cut.Cut.first_split.Goals as goal

pub returns-in-Some : goal.returns-in-Some
returns-in-Some c = λ tears.
    let at = c.args.self.now in
    let own = case_of tears (parts_of at) c.args.sets.now in
    let found = c.in-Some.ensures tears in (
      found.0,
      c.loop-sector.invariant tears
          ∙ sectors_next at own c.args.sectors.now c.loop-sector.sector-index _ _ (omega arith) refl found.1,
    )

pub loop-sector-preserved : goal.loop-sector-preserved
loop-sector-preserved c = λ tears.
    let at = c.args.self.now in
    let own = case_of tears (parts_of at) c.args.sets.now in
    c.loop-sector.invariant tears
    ∙ sectors_next at own c.args.sectors.now c.loop-sector.sector-index _ None (omega arith) refl
    (MatchOption-at_none _ (λ (it : Parted). (it.part < length (parts_of at)) × (_ ≡ _)) c.in_default.is (c.split_in_row.ensures tears))

pub returns : goal.returns
returns c = λ tears.
    c.loop-sector.invariant tears
    ∙ sectors_end c.args.self.now (case_of tears (parts_of c.args.self.now) c.args.sets.now) c.args.sectors.now c.loop-sector.sector-index (omega (arith, c.loop-sector-test.false))

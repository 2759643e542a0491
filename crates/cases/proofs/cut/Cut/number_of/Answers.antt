use Rattle.std.proofs.Common.{List, sym, subst}
use Rattle.epochs.specs.declared.part.Part.{Part}
use Rattle.cases.specs.Rows.{part_with}
use Rattle.cases.specs.Laws.{IsAmong}
use Rattle.cases.proofs.Owned.{risky_among}
use Rattle.cases.proofs.cut.Cut.number_of.Goals as goal

pub place_of-requires : goal.place_of-requires
place_of-requires c =
    let at = c.args.self.now in
    let among = risky_among at.log at.way at.cut c.args.unit c.log-log.ensures.within c.requires.unit c.requires.before c.requires.risk in
    subst (λ (p : Part). IsAmong c.parts.result.now p) (sym c.own_part-part.ensures)
    (subst (λ (ps : List Part). IsAmong ps (part_with at.way at.log.entries c.args.unit)) (sym c.parts.ensures.value) among)

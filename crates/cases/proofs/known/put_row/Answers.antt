use Rattle.std.proofs.Common.{sym, subst}
use Rattle.std.proofs.lemmas.List.Elements.{All-push}
use Rattle.cases.specs.Known.{IsRow, AreRows}
use Rattle.cases.proofs.known.put_row.Goals as goal

pub returns : goal.returns
returns c = subst (AreRows c.args.cut.now) (sym c.in_ok-push.ensures.items) (All-push (IsRow c.args.cut.now) c.args.rows.now.items c.in_ok-row.row c.requires c.in_ok-row.ensures)

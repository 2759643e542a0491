use Rattle.std.proofs.Common.{nat_eq, refl}
use Rattle.std.specs.HashMap.{get}
use Rattle.export.proofs.Keeping.{kept_new}
use Rattle.export.proofs.walk.ImageSource.keep_new.Goals as goal

pub returns-clause-kept : goal.returns-clause-kept
returns-clause-kept c =
    kept_new c.args.self.now c.args.place c.args.key c.args.kept.now.shown c.args.kept.now.near c.args.next.image c.in_ok-shown.shown c.args.kept.now.sum c.args.next.sum c.args.kept.now.fresh c.args.next.marks
    (get nat_eq c.args.kept.now.places) (get nat_eq c.insert.new.self) (record { first = c.args.place; last = c.args.place }) c.requires.kept c.requires.next
    c.in_ok-shown.ensures.log c.in_ok-shown.ensures.device c.requires.free refl refl c.in_ok-insert.ensures.updates.0

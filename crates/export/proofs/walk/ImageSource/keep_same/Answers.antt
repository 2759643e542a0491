use Rattle.std.proofs.Common.{nat_eq, refl}
use Rattle.std.specs.HashMap.{get}
use Rattle.export.proofs.Keeping.{kept_same}
use Rattle.export.proofs.walk.ImageSource.keep_same.Goals as goal

pub returns : goal.returns
returns c =
    kept_same c.args.self.now c.args.place c.args.key c.args.kept.now.shown c.args.kept.now.near c.args.next.image c.args.kept.now.sum c.args.next.sum c.args.kept.now.fresh c.args.next.marks
    (get nat_eq c.args.kept.now.places) (get nat_eq c.insert.new.self) (record { first = c.args.first; last = c.args.place }) c.requires.kept c.requires.next refl c.requires.same c.requires.there
    c.in_ok-insert.ensures.updates.0

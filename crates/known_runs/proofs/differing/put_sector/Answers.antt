use Rattle.std.proofs.Common.{◌&&◌, sym, ◌∙◌}
use Rattle.images.specs.Keys.{differs}
use Rattle.images.specs.Views.{sectors_of}
use Rattle.export.proofs.Listing.{one_listed, none_listed}
use Rattle.known_runs.proofs.differing.put_sector.Goals as goal

pub returns-in_ok-put_number : goal.returns-in_ok-put_number
returns-in_ok-put_number c = λ p is.
    let one = c.args.one.now in
    let other = c.args.other.now in
    one_listed one other _ p c.args.number (sym c.is_different-different.ensures ∙ c.if-different.true)
    (c.in_ok-put_number.ensures (λ m. p m && differs (sectors_of one) (sectors_of other) m) one.log.sectors c.requires.number is)

pub returns-else-different : goal.returns-else-different
returns-else-different c = λ p is.
    none_listed c.args.one.now c.args.other.now _ p c.args.number (sym c.is_different-different.ensures ∙ c.if-different.false) is

use Rattle.std.proofs.Common.{sym, ap, arith}
use Rattle.std.proofs.lemmas.Option.{slice_get_past}
use Rattle.helpers.specs.declared.device.Context.{Context}
use Rattle.images.specs.Views.{ViewValue, sectors_of}
use Rattle.images.specs.Whole.{length_view}
use Rattle.images.proofs.view.ViewDevice.sector.Goals as goal

pub returns-else-n-self : goal.returns-else-n-self
returns-else-n-self c =
    let told = ap (λ (x : Context). x.sectors) c.self.invariant.told in
    let size = ap (λ (v : ViewValue). v.log.sectors) c.self.view_is in
    let past = c.if-n-self.false in
    sym (slice_get_past (sectors_of c.args.self.now) c.args.n (omega (arith, told, size, past, length_view c.args.self.now)))

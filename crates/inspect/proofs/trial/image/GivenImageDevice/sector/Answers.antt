use Rattle.std.proofs.Common.{ℕ, List, Some, sym, ap, ◌∙◌, arith}
use Rattle.std.proofs.lemmas.Option.{slice_get_past}
use Rattle.logfmt.specs.Initial.{initial_sector}
use Rattle.inspect.specs.TrialImage.{ImageValue, device_of, length_device}
use Rattle.inspect.proofs.Images.{sector_there}
use Rattle.inspect.proofs.trial.image.GivenImageDevice.sector.Goals as goal

pub returns-then-n-self : goal.returns-then-n-self
returns-then-n-self c =
    let size = ap (λ (v : ImageValue). v.sectors) c.self.view_is in
    let bytes = ap (λ (v : ImageValue). v.bytes) c.self.view_is in
    let there = sector_there c.args.self.now.bytes c.args.self.now.sectors c.args.n (omega (arith, size, c.if-n-self.true)) in
    ap (λ s. Some s) (c.sector.ensures ∙ ap (λ (b : List ℕ). initial_sector b c.args.n) bytes) ∙ sym there

pub returns-else-n-self : goal.returns-else-n-self
returns-else-n-self c =
    let size = ap (λ (v : ImageValue). v.sectors) c.self.view_is in
    let past = c.if-n-self.false in
    sym (slice_get_past (device_of c.args.self.now.bytes c.args.self.now.sectors) c.args.n (omega (arith, size, past, length_device c.args.self.now.bytes c.args.self.now.sectors)))

use Rattle.std.proofs.Common.{ℕ, List, ◌∙◌, ap}
use Rattle.logfmt.specs.Initial.{initial_sector}
use Rattle.logfmt.proofs.KeptSectors.{sector_kept, sector_past}
use Rattle.logfmt.proofs.initial.InitialContent.sector.Goals as goal

pub returns-then-start-length : goal.returns-then-start-length
returns-then-start-length c =
    c.sector_at.ensures
    ∙ sector_kept c.self.inside.bytes.now c.args.number c.if-start-length.true
    ∙ ap (λ (initial : List ℕ). initial_sector initial c.args.number) c.self.view_is

pub returns-else-start-length-2 : goal.returns-else-start-length-2
returns-else-start-length-2 c =
    sector_past c.self.inside.bytes.now c.args.number c.if-start-length-2.false
    ∙ ap (λ (initial : List ℕ). initial_sector initial c.args.number) c.self.view_is

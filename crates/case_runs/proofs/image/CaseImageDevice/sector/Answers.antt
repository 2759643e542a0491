use Rattle.std.proofs.Common.{ℕ, List, ◌≡◌, Option, None, slice_get, subst}
use Rattle.case_runs.specs.Images.{ImageValue, sectors_in}
use Rattle.case_runs.proofs.Imaging.{past_sectors}
use Rattle.case_runs.proofs.image.CaseImageDevice.sector.Goals as goal

pub returns-else-n-sectors : goal.returns-else-n-sectors
returns-else-n-sectors c = subst (λ (v : ImageValue). ◌≡◌ {A = Option (List ℕ)} None (slice_get (sectors_in v) c.args.n)) c.self.view_is
    (past_sectors (record { at = c.self.inside.rows.now; tears = c.self.inside.tears; sets = c.self.inside.sets.now }) c.args.n c.sectors.result c.sectors.ensures.value c.if-n-sectors.false)

use Rattle.std.proofs.Common.{◌≡◌, length, sym, subst, ◌∙◌}
use Rattle.case_runs.specs.Images.{ImageValue, sectors_in, count_sectors}
use Rattle.case_runs.proofs.image.CaseImageDevice.sectors.Goals as goal

pub returns : goal.returns
returns c =
    subst (λ (v : ImageValue). c.sectors.result ≡ length (sectors_in v)) c.self.view_is
    (c.sectors.ensures.value ∙ sym (count_sectors (record { at = c.self.inside.rows.now; tears = c.self.inside.tears; sets = c.self.inside.sets.now })))

use Rattle.std.proofs.Common.{◌≡◌, Some, slice_get, subst}
use Rattle.case_runs.specs.Images.{ImageValue, sectors_in}
use Rattle.case_runs.proofs.image.CaseImage.find.Goals as goal

pub returns-in-Some : goal.returns-in-Some
returns-in-Some c = subst (λ (v : ImageValue). slice_get (sectors_in v) c.args.number ≡ Some c.in-Some.sector.now) c.self.view_is (c.in-Some.ensures c.self.inside.tears)

use Rattle.std.proofs.Common.{subst}
use Rattle.logfmt.specs.Bounds.{IsLog}
use Rattle.images.specs.Table.{AreParts}
use Rattle.images.specs.Views.{ViewValue}
use Rattle.export.proofs.image.ExportedImage.departures.Goals as goal

pub returns-clause-parts : goal.returns-clause-parts
returns-clause-parts c = subst (λ (v : ViewValue). AreParts v.log v.departures) c.self.view_is c.self.invariant.departs

pub returns-clause-bounds : goal.returns-clause-bounds
returns-clause-bounds c = subst (λ (v : ViewValue). IsLog v.log) c.self.view_is c.self.invariant.bounds

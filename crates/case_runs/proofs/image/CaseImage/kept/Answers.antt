use Rattle.std.proofs.Common.{subst, refl}
use Rattle.std.proofs.lemmas.Option.{slice_get-get_or}
use Rattle.case_runs.specs.Images.{ImageValue, IsImage}
use Rattle.case_runs.proofs.Imaging.{found_bytes, none_listed}
use Rattle.case_runs.proofs.image.CaseImage.kept.Goals as goal

pub returns-then-each-number : goal.returns-then-each-number
returns-then-each-number c =
    found_bytes (record { at = c.self.inside.rows.now; tears = c.self.inside.tears; sets = c.self.inside.sets.now }) c.args.self.now c.self.inside.formed.now _ c.loop-each.each-index c.args.number _ _ c.self.view_is c.self.invariant.all
    (slice_get-get_or c.self.inside.formed.now c.loop-each.each-index _ c.loop-each-test.true) c.if-each-number.true refl

pub unreachable-requires : goal.unreachable-requires
unreachable-requires c =
    none_listed c.args.self.now c.self.inside.formed.now c.loop-each.each-index c.args.number c.requires.torn.0 (subst (λ (v : ImageValue). IsImage v c.self.inside.formed.now) c.self.view_is c.self.invariant)
    c.requires.device c.requires.torn.1 c.loop-each-test.false c.loop-each.invariant

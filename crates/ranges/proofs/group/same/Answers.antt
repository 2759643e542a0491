use Rattle.std.proofs.Common.{rules, ◌≡◌}
use Rattle.std.specs.Bool.{Decides}
use Rattle.std.specs.Cmp.{booleans_Decides}
use Rattle.std.proofs.lemmas.Slice.Eq.{slice_eq-Decides}
use Rattle.ranges.proofs.group.same.Goals as goal

pub returns : goal.returns
returns c =
    let told : Decides c.eq.result (c.args.x.now ≡ c.args.y.now) = slice_eq-Decides booleans_Decides c.args.x.now c.args.y.now c.eq.result c.eq.ensures in
    search rules

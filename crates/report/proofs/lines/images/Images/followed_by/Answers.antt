use Rattle.std.proofs.Common.{◌<◌, rules}
use Rattle.report.proofs.Changes.{of_some}
use Rattle.report.proofs.lines.images.Images.followed_by.Goals as goal

pub returns : goal.returns
returns c = λ ls more h k.
    let some : 0 < c.args.self.count = search rules in
    let others : 0 < c.args.other.count = search rules in
    of_some ls more _ _ _ _ _ _ _ some others h k c.count_of.ensures

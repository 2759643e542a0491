use Rattle.std.proofs.Common.{◌≡◌, map, length, subst, arith}
use Rattle.std.proofs.lemmas.List.{length-map}
use Rattle.known.specs.Leaves.{JudgeValue, told_of, leaf_of}
use Rattle.known.proofs.Meeting.{told_so}
use Rattle.known.proofs.judge.KnownJudge.told.Goals as goal

pub returns : goal.returns
returns c =
    let runs = c.self.inside.records.now.runs in
    let met = c.self.inside.met in
    let long = length-map met.all.items (leaf_of runs) in
    subst (λ (j : JudgeValue). c.told_count.result ≡ length (told_of j.leaves)) c.self.view_is (told_so (map (leaf_of runs) met.all.items) met.failing.items met.open_cases.items _ c.self.invariant (omega arith))

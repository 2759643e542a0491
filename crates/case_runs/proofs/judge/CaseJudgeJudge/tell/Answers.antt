use Rattle.std.proofs.Common.{map}
use Rattle.interp.specs.Ending.{ending_of}
use Rattle.losses.specs.FoundCases.{failing_value}
use Rattle.case_runs.specs.Leaves.{leaf_of}
use Rattle.case_runs.proofs.Telling.{told_one}
use Rattle.case_runs.proofs.judge.CaseJudgeJudge.tell.Goals as goal

pub invariant_of-self : goal.invariant_of-self
invariant_of-self c =
    told_one c.self.inside.checker.now c.self.inside.memory c.self.inside.context c.self.inside.told.items (map failing_value c.self.inside.failing.items) (map failing_value c.put_leaf-added.new.failing.items)
    (map leaf_of c.put_leaf-added.new.told.items) (record { sets = c.args.sets.now; ending = ending_of c.self.inside.outcome }) c.self.invariant c.in-Ok.ensures.told c.in-Ok.ensures.failing

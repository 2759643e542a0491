use Rattle.checker.proofs.Unchanged as unchanged
use Rattle.checker.proofs.laws.guards_change_no_judgement.Goals as goal

pub returns : goal.returns
returns c = unchanged.guards_change_no_judgement c.accepted_runs_safely.ensures c.guarded_runs_safely.ensures c.accepted_has_no_guards.ensures c.good_needs_no_guards.ensures c.guards_change_nothing.ensures

use Rattle.join.specs.CaseJoining.{too_long}
use Rattle.join.proofs.Joins.{known_ok}
use Rattle.join.proofs.CaseJoins.{known_err}
use Rattle.join.proofs.case_parts.joining.join_cases.Goals as goal

pub returns-in-Some-clause-refused : goal.returns-in-Some-clause-refused
returns-in-Some-clause-refused c = too_long c.in-Some.file c.in-Some.ensures

pub returns-in-None-clause-short : goal.returns-in-None-clause-short
returns-in-None-clause-short c = known_ok _ _ c.in-None.ensures

pub returns-in-None-clause-first : goal.returns-in-None-clause-first
returns-in-None-clause-first c = known_err _ _ c.in-None.ensures

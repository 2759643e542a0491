use Rattle.std.proofs.Common.{ap, arith, length, List}
use Rattle.std.proofs.lemmas.Option.{MatchOption-at_none}
use Rattle.known.specs.declared.run.KnownRun.{KnownRun}
use Rattle.known.specs.Contradictions.{NoneAgainst, IsFirstBefore}
use Rattle.known.proofs.Contrary.{none_later, none_past}
use Rattle.known.proofs.contradict.first_contradiction.Goals as goal

pub loop-later-preserved : goal.loop-later-preserved
loop-later-preserved c =
    none_later c.args.records.now c.loop-later.later c.loop-later.invariant
    (MatchOption-at_none (NoneAgainst c.args.records.now c.loop-later.later c.loop-later.later) (IsFirstBefore c.args.records.now c.loop-later.later) c.in_default.is c.first_against.ensures)

pub returns : goal.returns
returns c = let long = ap (λ (rs : List KnownRun). length rs) c.runs-runs.ensures in none_past c.args.records.now c.loop-later.later c.loop-later.invariant (omega arith)

use Rattle.std.proofs.Common.{sym, subst, arith}
use Rattle.known.specs.Contradictions.{NoneAgainst}
use Rattle.known.proofs.Contrary.{none_more}
use Rattle.known.proofs.contradict.first_against.Goals as goal

pub returns-then-contradict_at : goal.returns-then-contradict_at
returns-then-contradict_at c = record { before = c.loop-earlier-test.true; own = sym c.if-contradict_at.ensures; none = c.loop-earlier.invariant }

pub loop-earlier-preserved : goal.loop-earlier-preserved
loop-earlier-preserved c = none_more c.args.records.now c.loop-earlier.earlier c.args.later c.loop-earlier.invariant c.if-contradict_at.ensures

pub returns : goal.returns
returns c = subst (λ n. NoneAgainst c.args.records.now n c.args.later) (omega (arith, c.loop-earlier.auto.earlier-end, c.loop-earlier-test.false)) c.loop-earlier.invariant

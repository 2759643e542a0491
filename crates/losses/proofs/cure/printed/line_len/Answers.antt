use Rattle.std.proofs.Common.{length, arith}
use Rattle.losses.proofs.Newlines.{ends_at, lacks_next, ends_last}
use Rattle.losses.proofs.cure.printed.line_len.Goals as goal

pub returns-then-byte-eq10-clause-line : goal.returns-then-byte-eq10-clause-line
returns-then-byte-eq10-clause-line c = ends_at c.args.text.now c.loop-place.place c.loop-place-test.true c.loop-place.invariant c.if-byte-eq10.true

pub loop-place-preserved : goal.loop-place-preserved
loop-place-preserved c = lacks_next c.args.text.now c.loop-place.place c.loop-place-test.true c.loop-place.invariant c.if-byte-eq10.false

pub returns-clause-line : goal.returns-clause-line
returns-clause-line c = ends_last c.args.text.now c.loop-place.place (length c.args.text.now) (let out = c.loop-place-test.false in omega (arith, out)) c.loop-place.invariant

use Rattle.std.proofs.Common.{rules, arith}
use Rattle.join.proofs.ProgramsRead.{gone_on, filled}
use Rattle.join.proofs.programs.programs_said.Goals as goal

pub returns-then-len-ge-MOST_PROGRAMS-clause-read : goal.returns-then-len-ge-MOST_PROGRAMS-clause-read
returns-then-len-ge-MOST_PROGRAMS-clause-read c = filled _ _ _ _ _ c.loop-line.invariant.0 c.in-Some.ensures (omega (arith, c.if-len-ge-MOST_PROGRAMS.true, c.len.ensures))

pub loop-line-preserved : goal.loop-line-preserved
loop-line-preserved c = (gone_on _ _ _ _ _ _ _ c.loop-line.invariant.0 c.in-Some.ensures c.program_said.ensures.read c.program_said.ensures.small c.in_ok-push.ensures.items, search rules)

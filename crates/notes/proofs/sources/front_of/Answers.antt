use Rattle.std.proofs.Common.{inr, rules}
use Rattle.notes.proofs.LinesOfC.{go_on, not_some, says_none}
use Rattle.notes.proofs.sources.front_of.Goals as goal

pub returns-in_default-line_in-clause-end : goal.returns-in_default-line_in-clause-end
returns-in_default-line_in-clause-end c =
    inr (says_none c.loop-line.rest.now c.in-Some.line.now c.in-Some.beyond.now c.line_in.result c.in-Some.ensures.0 c.line_in.ensures (not_some c.line_in.result c.in_default-line_in.not-Some))

pub loop-line-preserved : goal.loop-line-preserved
loop-line-preserved c = (
  go_on c.args.text.now c.loop-line.rest.now c.in-Some.line.now c.in-Some.beyond.now c.loop-line.lines.items c.push.new.self.items c.line_in.result c.in-Some-line_in.found
      c.loop-line.invariant.0 c.in-Some.ensures.0 c.line_in.ensures c.in-Some-line_in.is c.in_ok-push.ensures.items,
  search rules,
)

use Rattle.std.proofs.Common.{rules}
use Rattle.join.specs.CaseReading.{IsCaseLine}
use Rattle.join.proofs.CaseLines.{one_is_counted}
use Rattle.join.proofs.case_parts.line.read_lines.Goals as goal

pub loop-front-preserved : goal.loop-front-preserved
loop-front-preserved c = (
  let line : IsCaseLine c.args.head.now c.loop-front.rest.now c.in-Some.front c.in-Some.more.now = rw c.in-Some.is at c.in_ok-front.ensures.line in
      let less = rw c.in-Some.is at c.in_ok-front.ensures.shorter in
      one_is_counted c.args.head.now c.args.text.now c.loop-front.rest.now c.in-Some.more.now c.loop-front.tally c.more-tally.result c.in-Some.front c.loop-front.invariant.0 line less c.more-tally.ensures,
  search rules,
)

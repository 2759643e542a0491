use Rattle.std.proofs.Common.{rules, map, ap}
use Rattle.join.specs.Given.{line_told}
use Rattle.join.specs.GivenReading.{IsToldLine}
use Rattle.join.proofs.ToldLines.{none_told, one_is_told}
use Rattle.join.proofs.given.lines.lines_said.Goals as goal

pub loop-lines-init : goal.loop-lines-init
loop-lines-init c = (
  none_told c.args.outside c.args.programs c.args.run.now.starts.now c.args.span c.args.text.now (map line_told c.new-lines.result.items) c.none-tally.result (ap (map line_told) c.new-lines.ensures.items) c.none-tally.ensures,
  search rules,
)

pub loop-lines-preserved : goal.loop-lines-preserved
loop-lines-preserved c = (
  let line : IsToldLine c.args.outside c.args.programs c.args.run.now.starts.now c.loop-lines.rest.now (line_told c.in-Some.told) c.in-Some.more.now = rw c.in-Some.is at c.in_ok-told.ensures.line in
      let less = rw c.in-Some.is at c.in_ok-told.ensures.shorter in
      one_is_told c.args.outside c.args.programs c.args.run.now.starts.now c.args.span c.args.text.now c.loop-lines.rest.now c.in-Some.more.now (map line_told c.loop-lines.lines.items) (map line_told c.push_told.new.lines.items)
      c.loop-lines.tally c.more-tally.result (line_told c.in-Some.told) c.loop-lines.invariant.0 line less c.in_ok-push_told.ensures c.more-tally.ensures,
  search rules,
)

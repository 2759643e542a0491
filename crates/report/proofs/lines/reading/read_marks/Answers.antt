use Rattle.std.proofs.Common.{rules}
use Rattle.report.proofs.Lined.{one_read, all_read, is_none, is_some}
use Rattle.report.proofs.lines.reading.read_marks.Goals as goal

pub loop-rest-preserved : goal.loop-rest-preserved
loop-rest-preserved c = (
  rw c.in_ok-push.ensures.items
      (one_read _ _ _ _ _ _ c.loop-rest.invariant.0 c.read_mark.ensures.line (is_some _ _ c.is_empty.ensures c.loop-rest-test.true)),
  search rules,
)

pub returns : goal.returns
returns c = all_read _ _ _ _ c.loop-rest.invariant.0 (is_none _ _ c.is_empty.ensures c.loop-rest-test.false)

use Rattle.std.proofs.Common.{length, length-drop, ap, arith}
use Rattle.inspect.proofs.CutParts.{laid_more}
use Rattle.inspect.proofs.looks.cut_layout.put_cut_layout.Goals as goal

pub loop-left-preserved : goal.loop-left-preserved
loop-left-preserved c =
    let inv = c.loop-left.invariant in
    let long = ap length c.after-rest.ensures in
    let rest = length-drop c.part_cuts-count.result c.loop-left.rest.now in
    let room = c.part_cuts-count.ensures.rest in
    let more = c.loop-left-test.true in (
      laid_more _ _ _ c.loop-left.left c.loop-left.from c.args.last c.last_of-to.result c.part_cuts-count.result c.loop-left.rest.now c.after-rest.result.now
          more inv.0 c.in_ok-put_range.ensures c.part_cuts-count.ensures.value c.last_of-to.ensures.value c.after-rest.ensures,
      omega (arith, more),
      λ some. omega (arith, long, rest, room, more),
      omega (arith, long, rest, inv),
    )

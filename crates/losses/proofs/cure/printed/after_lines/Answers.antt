use Rattle.losses.proofs.Newlines.{after_start, after_slice}
use Rattle.losses.proofs.cure.printed.after_lines.Goals as goal

pub loop-line-init : goal.loop-line-init
loop-line-init c = after_start c.args.text.now

pub loop-line-preserved : goal.loop-line-preserved
loop-line-preserved c =
    after_slice c.args.text.now c.loop-line._line c.loop-line.rest.now c.line_len.result c.loop-line.invariant c.line_len.ensures.line c.line_len.ensures.within

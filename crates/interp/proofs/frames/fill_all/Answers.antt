use Rattle.std.proofs.Common.{ℕ, suc, ◌≡◌, ◌+◌, List, Option, ap, ◌∙◌, arith}
use Rattle.interp.specs.Cells.{filled_stack}
use Rattle.interp.proofs.Filling.{fill_one, all_filled}
use Rattle.interp.proofs.frames.fill_all.Goals as goal

pub loop-frame-preserved : goal.loop-frame-preserved
loop-frame-preserved c =
    fill_one filled_stack c.args.stacks.now c.loop-frame.stacks c.loop-frame.frame c.index-stacks-frame.result c.fill.new.self c.loop-frame.invariant c.loop-frame-test.true
    c.fill.ensures.filled

use Rattle.std.proofs.Common.{◌<◌, Bool, sym, subst, arith}
use Rattle.checker.specs.Memory.{AreServed}
use Rattle.workers.specs.Failing.{image_count}
use Rattle.workers.proofs.Reused.{no_lines, one_more}
use Rattle.workers.proofs.Skipping.{good_images, reaches_none}
use Rattle.workers.proofs.worker.Worker.judge_or_pass.Goals as goal

pub look-requires-clause-member : goal.look-requires-clause-member
look-requires-clause-member g c =
    (c.args.row.now.image, c.requires.row.member (omega (arith, c.requires.some, c.requires.row.within)))

pub judge_first-requires-clause-served : goal.judge_first-requires-clause-served
judge_first-requires-clause-served g c = subst (λ (b : Bool). AreServed b c.args.self.now.input.now.checkers) (sym c.look.ensures.memory) c.requires.served

pub returns-in-Good-clause-lines : goal.returns-in-Good-clause-lines
returns-in-Good-clause-lines g c =
    let within : c.args.row.now.image < image_count c.args.self.now.input.now = omega (arith, c.requires.some, c.requires.row.within) in
    no_lines c.args.self.now.input.now c.args.row.now.image c.in-Good.count c.args.lines.now
    (good_images c.args.self.now.input.now c.args.row.now.picked c.args.row.now.image c.in-Good.count (c.requires.row.member within) c.in-Good.ensures.told.3)

pub returns-in_ok-judge_first-in-Stops-clause-reach : goal.returns-in_ok-judge_first-in-Stops-clause-reach
returns-in_ok-judge_first-in-Stops-clause-reach g c = reaches_none c.args.self.now.input.now c.args.row.now.picked

pub returns-in_ok-judge_first-in-Stops-clause-lines : goal.returns-in_ok-judge_first-in-Stops-clause-lines
returns-in_ok-judge_first-in-Stops-clause-lines g c = one_more c.args.self.now.input.now c.args.row.now.image c.args.lines.now _ c.in_ok-judge_first-in-Stops.ensures.lines

use Rattle.std.proofs.Common.{sym}
use Rattle.shares.specs.declared.view.SeatStep.TheVariants.{SawLeast}
use Rattle.workers.proofs.HandingOver.{seen_later, saw_keeps, least_found}
use Rattle.workers.proofs.taking.image_before.Goals as goal

pub returns-in_err-image-clause-seen : goal.returns-in_err-image-clause-seen
returns-in_err-image-clause-seen c = let step = c.least.ensures.step in seen_later (SawLeast step.0) c.args.seat.now.steps c.least.new.seat.steps step.2

pub returns-in_err-image-clause-posts : goal.returns-in_err-image-clause-posts
returns-in_err-image-clause-posts c = let step = c.least.ensures.step in saw_keeps step.0 c.args.seat.now.steps c.least.new.seat.steps step.2

pub returns-then-passes_over-clause-seen : goal.returns-then-passes_over-clause-seen
returns-then-passes_over-clause-seen c = let step = c.least.ensures.step in seen_later (SawLeast step.0) c.args.seat.now.steps c.least.new.seat.steps step.2

pub returns-then-passes_over-clause-posts : goal.returns-then-passes_over-clause-posts
returns-then-passes_over-clause-posts c = let step = c.least.ensures.step in saw_keeps step.0 c.args.seat.now.steps c.least.new.seat.steps step.2

pub returns-then-passes_over-clause-found : goal.returns-then-passes_over-clause-found
returns-then-passes_over-clause-found c =
    let step = c.least.ensures.step in
    (sym c.if-passes_over.ensures, least_found step.0 c.in_ok-image.image c.least.result c.args.seat.now.steps c.least.new.seat.steps step.1 c.in_ok-image.was step.2)

pub returns-else-passes_over-clause-seen : goal.returns-else-passes_over-clause-seen
returns-else-passes_over-clause-seen c = let step = c.least.ensures.step in seen_later (SawLeast step.0) c.args.seat.now.steps c.least.new.seat.steps step.2

pub returns-else-passes_over-clause-posts : goal.returns-else-passes_over-clause-posts
returns-else-passes_over-clause-posts c = let step = c.least.ensures.step in saw_keeps step.0 c.args.seat.now.steps c.least.new.seat.steps step.2

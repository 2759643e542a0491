use Rattle.std.proofs.Common.{refl}
use Rattle.shares.specs.declared.view.SeatStep.TheVariants.{Drew}
use Rattle.shares.proofs.Takes.{posts_none, posts_after, posts_at_end, take_own, take_drawn, take_stolen}
use Rattle.shares.proofs.hand.Hand.take.Goals as goal

pub returns-in-Some-clause-taken : goal.returns-in-Some-clause-taken
returns-in-Some-clause-taken g c = take_own c.args.self.now c.own.new.self c.args.seat.now c.in-Some.block c.in-Some.ensures.some

pub returns-in-Some-draw-clause-taken : goal.returns-in-Some-draw-clause-taken
returns-in-Some-draw-clause-taken g c =
    let steps = c.args.seat.now.steps in
    take_drawn c.args.self.now c.own.new.self c.stock.new.self c.args.seat.now c.draw.new.seat c.stock.new.seat c.in-Some-draw.block c.in_default.ensures.none.1 c.in-Some-draw.ensures.taken
    (posts_after steps steps c.draw.new.seat.steps (Drew c.in-Some-draw.block) (posts_none steps) c.in-Some-draw.ensures.block.1 (λ image. refl)) c.stock.ensures.stocked

pub returns-clause-taken : goal.returns-clause-taken
returns-clause-taken g c =
    let steps = c.args.seat.now.steps in
    take_stolen c.args.self.now c.own.new.self c.steal.new.self c.args.seat.now c.draw.new.seat c.steal.result c.in_default.ensures.none.1 c.in_default-draw.ensures.none_taken
    (posts_at_end steps c.args.seat.now c.draw.new.seat (posts_none steps) c.in_default-draw.ensures.none) c.steal.ensures.none c.steal.ensures.some

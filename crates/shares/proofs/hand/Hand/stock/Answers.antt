use Rattle.std.proofs.Common.{rules, ◌≡◌, true, ◌∙◌, ◌++◌, ◌∷◌, [], ℕ, List, length, refl, sym, ap, arith}
use Rattle.shares.specs.declared.view.SeatStep.TheVariants.{Drew, SawNext}
use Rattle.shares.specs.Hands.{is_open}
use Rattle.shares.proofs.Takes.{posts_after, posts_at_end, stocked_self, stocked_seen, stocked_more, open_is, kept_length}
use Rattle.shares.proofs.hand.Hand.stock.Goals as goal

pub loop-more-init : goal.loop-more-init
loop-more-init g c = (c.requires.board, omega (arith, ap length c.requires.room), refl, open_is c.args.self.now.phase (let opened : is_open c.args.self.now.phase ≡ true = search rules in opened), stocked_self c.args.self.now c.args.seat.now)

pub returns-then-left-from-clause-stocked : goal.returns-then-left-from-clause-stocked
returns-then-left-from-clause-stocked g c =
    let (board, room, place, phase, stocked) = c.loop-more.invariant in
    let step = c.left.ensures.step in
    let quiet = posts_after c.args.seat.now.steps c.loop-more.seat.steps c.left.new.seat.steps (SawNext step.0) stocked.quiet step.2 (λ image. refl) in
    stocked_seen c.loop-more.more 3 c.args.self.now c.loop-more.self c.args.seat.now c.loop-more.seat c.left.new.seat stocked (omega (arith, c.loop-more-test.true)) c.left.ensures.taken quiet

pub returns-in_default-clause-stocked : goal.returns-in_default-clause-stocked
returns-in_default-clause-stocked g c =
    let (board, room, place, phase, stocked) = c.loop-more.invariant in
    let step = c.left.ensures.step in
    let quiet = posts_after c.args.seat.now.steps c.loop-more.seat.steps c.left.new.seat.steps (SawNext step.0) stocked.quiet step.2 (λ image. refl) in
    stocked_seen c.loop-more.more 3 c.args.self.now c.loop-more.self c.args.seat.now c.loop-more.seat c.draw.new.seat stocked (omega (arith, c.loop-more-test.true)) (c.in_default.ensures.none_taken ∙ c.left.ensures.taken)
    (posts_at_end c.args.seat.now.steps c.left.new.seat c.draw.new.seat quiet c.in_default.ensures.none)

pub loop-more-preserved : goal.loop-more-preserved
loop-more-preserved g c =
    let (board, room, place, phase, stocked) = c.loop-more.invariant in
    let step = c.left.ensures.step in
    let seen = posts_after c.args.seat.now.steps c.loop-more.seat.steps c.left.new.seat.steps (SawNext step.0) stocked.quiet step.2 (λ image. refl) in
    let quiet = posts_after c.args.seat.now.steps c.left.new.seat.steps c.draw.new.seat.steps (Drew c.in-Some.block) seen c.in-Some.ensures.block.1 (λ image. refl) in (
      c.draw.ensures.board ∙ c.left.ensures.board ∙ board,
      kept_length c.loop-more.self c.keep.new.self c.in-Some.block c.loop-more.more c.keep.ensures.keeps room,
      c.keep.ensures.place ∙ place,
      c.keep.ensures.phase,
      stocked_more c.loop-more.more c.args.self.now c.loop-more.self c.keep.new.self c.args.seat.now c.loop-more.seat c.draw.new.seat c.in-Some.block stocked
          (c.in-Some.ensures.taken ∙ ap (λ (s : List ℕ). s ++ c.in-Some.block ∷ []) c.left.ensures.taken) c.keep.ensures.keeps quiet,
    )
